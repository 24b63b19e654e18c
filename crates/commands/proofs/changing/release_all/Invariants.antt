-- `commands::changing::release_all` meets its contract. Assumes nothing.
use mathlib.Core.Path.{◌≡◌}
use Rattle.drive.specs.Drives.{released}
use Rattle.table.proofs.TableLaws.{up_to}
use Rattle.commands.proofs.changing.release_all.Given as goal

abbrev pub invariant-loop-x : goal.invariant-loop-x
invariant-loop-x l = (l.t ≡ up_to released l.x l.initial.t)
