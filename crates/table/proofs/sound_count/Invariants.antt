-- `table::sound_count` meets its contract: every turn finds one more record sound and told by the set, or ends with one that is not.
-- Assumes nothing.
use mathlib.Core.Path.{◌≡◌}
use mathlib.Core.Bool.{true}
use Prim.Native.Nat.{◌/◌, ◌^◌}
use Rattle.table.proofs.LoopLaws.{right_to}
use Rattle.table.proofs.sound_count.Given as goal

abbrev pub invariant-loop-judged : goal.invariant-loop-judged
invariant-loop-judged l = (right_to l.paused l.set l.t l.judged ≡ true) × (l.left ≡ l.set / 2 ^ l.judged)
