-- What taking a line goes by: digits that are in range, and orders that ask nothing. Assumes nothing.
use Rattle.std.specs.Prelude.{Ok}
use mathlib.Core.Path.{◌≡◌, refl}
use mathlib.Core.List.{List}
use mathlib.Core.Bool.{true}
use Prim.Native.Nat.{ℕ}
use Rattle.record.specs.declared.Motor.{Motor}
use Rattle.motor.specs.Sound.{setup_in_range, sound_motor}
use Rattle.motor.proofs.SoundLaws.{sound_parts}
use Rattle.line.specs.declared.Question.{Question}
use Rattle.line.specs.declared.HeadQuestion.{HeadQuestion}
use Rattle.line.specs.declared.Order.{Order}
use Rattle.line.specs.declared.Order.TheVariants.{Go, Stop, StopAll, ChangeSpeed, Set, Ask, AskHead, ForHead}
use Rattle.commands.specs.Answers.{told, answer}

-- A sound motor's SETMT digits are in range.
pub setup_sound : (m : Motor) → sound_motor m ≡ true → setup_in_range m.setup ≡ true
setup_sound m s = (sound_parts m s).range.setup

-- Orders that ask nothing are answered OK, or nothing.
pub unasked_told : (t : List ℕ) (o : Order)
    → ((x : ℕ) (q : Question) → o ≡ Ask x q → ⊥) → ((q : HeadQuestion) → o ≡ AskHead q → ⊥)
    → answer t o ≡ told t (Ok tt)
unfolding answer
unasked_told t (Go x s) a b = refl
unasked_told t (Stop x flags) a b = refl
unasked_told t (StopAll flags) a b = refl
unasked_told t (ChangeSpeed x v) a b = refl
unasked_told t (Set x s) a b = refl
unasked_told t (Ask x q) a b = absurd (a x q refl)
unasked_told t (AskHead q) a b = absurd (b q refl)
unasked_told t (ForHead o) a b = refl
