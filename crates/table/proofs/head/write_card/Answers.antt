-- `table::head::write_card` meets its contract. Assumes nothing.
use mathlib.Core.List.{[], ◌∷◌}
use native.Mathlib.Omega.{arith}
use Rattle.digits.proofs.PutLaws.{stores_put}
use Rattle.table.proofs.head.write_card.Goals as goal

pub returns : goal.returns
returns c = stores_put (c.args.card ∷ []) c.args.t.now 6 (omega arith)
