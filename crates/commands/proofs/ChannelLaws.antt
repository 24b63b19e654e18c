-- The channel that an order of a line names is one of the sixteen. Assumes nothing.
use Rattle.std.specs.Prelude.{Ok, Err}
use mathlib.Core.Path.{◌≡◌, refl}
use mathlib.Core.List.{List}
use mathlib.Core.Bool.{Bool, true, cond}
use Prim.Native.Nat.{ℕ, ◌≤◌}
use native.Mathlib.Omega.{arith}
use borrow.Author.Tests.{leb-true}
use Rattle.motor.proofs.SoundLaws.{and_l}
use Rattle.line.specs.declared.Order.{Order}
use Rattle.line.specs.declared.Start.{Start}
use Rattle.line.specs.declared.Setting.{Setting}
use Rattle.line.specs.declared.Order.TheVariants.{Go, Stop, StopAll, ChangeSpeed, Set, Ask, AskHead, ForHead}
use Rattle.drive.specs.declared.Refusal.TheVariants.{Busy}
use Rattle.commands.specs.Judging.{meets_busy, judge_motor}
use Rattle.line.specs.Made.{on_bench, start_made, end_flag, setting_made, order_made}

-- the channel that an order names, or the first where it names none
unfoldable pub named : Order → ℕ
named (Go x s) = x
named (Stop x flags) = x
named (StopAll flags) = 0
named (ChangeSpeed x v) = x
named (Set x s) = x
named (Ask x q) = x
named (AskHead q) = 0
named (ForHead o) = 0

pub named_channel : (o : Order) → order_made o ≡ true → named o ≤ 15
unfolding order_made named
named_channel (Go x s) h = leb-true x 15 (and_l (on_bench x) (start_made s) h)
named_channel (Stop x flags) h = leb-true x 15 (and_l (on_bench x) (end_flag flags) h)
named_channel (StopAll flags) h = omega arith
named_channel (ChangeSpeed x v) h = leb-true x 15 h
named_channel (Set x s) h = leb-true x 15 (and_l (on_bench x) (setting_made s) h)
named_channel (Ask x q) h = leb-true x 15 h
named_channel (AskHead q) h = omega arith
named_channel (ForHead o) h = omega arith

-- The orders that name no channel to judge, stops, reads and those of the head, are never busy, and nothing of a motor refuses them.
pub others_done : (full : Bool) (t : List ℕ) (o : Order)
    → ((x : ℕ) (s : Start) → o ≡ Go x s → ⊥) → ((x : ℕ) (v : ℕ) → o ≡ ChangeSpeed x v → ⊥) → ((x : ℕ) (s : Setting) → o ≡ Set x s → ⊥)
    → cond (meets_busy t o) (Err Busy) (judge_motor full t o) ≡ (Ok tt)
unfolding meets_busy judge_motor
others_done full t (Go x s) a b d = absurd (a x s refl)
others_done full t (Stop x flags) a b d = refl
others_done full t (StopAll flags) a b d = refl
others_done full t (ChangeSpeed x v) a b d = absurd (b x v refl)
others_done full t (Set x s) a b d = absurd (d x s refl)
others_done full t (Ask x q) a b d = refl
others_done full t (AskHead q) a b d = refl
others_done full t (ForHead o) a b d = refl
