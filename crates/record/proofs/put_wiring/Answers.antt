-- `record::put_wiring` meets its contract. Assumes nothing.
use native.Mathlib.Omega.{arith}
use Rattle.digits.proofs.PutLaws.{stores_put}
use Rattle.record.specs.Record.{wiring_bytes}
use Rattle.record.proofs.put_wiring.Goals as goal

pub returns : goal.returns
returns c = stores_put (wiring_bytes c.args.w) c.args.b.now 25 (omega arith)
