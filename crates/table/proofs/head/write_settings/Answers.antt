-- `table::head::write_settings` meets its contract. Assumes nothing.
use mathlib.Core.List.{[], ◌∷◌}
use native.Mathlib.Omega.{arith}
use Rattle.digits.proofs.PutLaws.{stores_put}
use Rattle.table.proofs.head.write_settings.Goals as goal

pub returns : goal.returns
returns c = let h = c.args.h in stores_put (h.mode ∷ h.reply ∷ h.errors ∷ h.pause ∷ []) c.args.t.now 0 (omega arith)
