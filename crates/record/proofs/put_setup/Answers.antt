-- `record::put_setup` meets its contract. Assumes nothing.
use native.Mathlib.Omega.{arith}
use Rattle.digits.proofs.PutLaws.{stores_put}
use Rattle.record.specs.Record.{setup_bytes}
use Rattle.record.proofs.put_setup.Goals as goal

pub returns : goal.returns
returns c = stores_put (setup_bytes c.args.s) c.args.b.now 27 (omega arith)
