-- `urqolina::ticking::tick_all` meets its contract. Assumes nothing.
use mathlib.Core.Path.{◌≡◌}
use Prim.Native.Nat.{◌-◌, ◌/◌, ◌^◌, ◌≤◌}
use Rattle.digits.specs.Bytes.{put}
use Rattle.table.specs.Layout.{head_of}
use Rattle.table.proofs.TableLaws.{up_to}
use Rattle.urqolina.proofs.CallLaws.{counts_to}
use Rattle.urqolina.proofs.RestLaws.{ticked, no_counts}
use Rattle.urqolina.proofs.ticking.tick_all.Given as goal

abbrev pub invariant-loop-left : goal.invariant-loop-left
invariant-loop-left l = (l.c ≤ 16) × (l.t ≡ up_to ticked l.c l.initial.t) × (l.pulses ≡ put no_counts 0 (counts_to l.c l.initial.t)) × (l.left ≡ (head_of l.initial.t).busy / 2 ^ l.c)

abbrev pub decreases-loop-left : goal.decreases-loop-left
decreases-loop-left l = 16 - l.c
