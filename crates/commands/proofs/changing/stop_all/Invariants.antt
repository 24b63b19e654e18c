-- `commands::changing::stop_all` meets its contract. Assumes nothing.
use mathlib.Core.Path.{◌≡◌}
use Rattle.drive.specs.Drives.{stopped}
use Rattle.table.proofs.TableLaws.{up_to}
use Rattle.commands.proofs.changing.stop_all.Given as goal

abbrev pub invariant-loop-x : goal.invariant-loop-x
invariant-loop-x l = (l.t ≡ up_to (stopped l.flags) l.x l.initial.t)
