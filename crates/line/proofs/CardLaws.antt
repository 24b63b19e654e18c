-- Which forms both cards have. Assumes nothing.
use mathlib.Core.Path.{◌≡◌, refl}
use mathlib.Core.Bool.{true}
use Prim.Native.Nat.{ℕ}
use Rattle.line.specs.declared.HeadQuestion.{HeadQuestion}
use Rattle.line.specs.declared.HeadQuestion.TheVariants.{AskAllReply, AskFlags, AskError, AskPause, AskBusy, AskFree}
use Rattle.line.specs.declared.Order.{Order}
use Rattle.line.specs.declared.Order.TheVariants.{Go, Stop, StopAll, ChangeSpeed, Set, Ask, AskHead, ForHead}
use Rattle.line.specs.Forms.{asks_on, has_form}

-- Every question of the head but that of the free ones is one of both cards.
pub asked_both : (card : ℕ) (q : HeadQuestion) → (q ≡ AskFree → ⊥) → asks_on card q ≡ true
unfolding asks_on
asked_both card AskAllReply h = refl
asked_both card AskFlags h = refl
asked_both card AskError h = refl
asked_both card AskPause h = refl
asked_both card AskBusy h = refl
asked_both card AskFree h = absurd (h refl)

-- Every order that is no question of the head is one of both cards.
pub formed_both : (card : ℕ) (o : Order) → ((q : HeadQuestion) → o ≡ AskHead q → ⊥) → has_form card o ≡ true
unfolding has_form
formed_both card (Go x s) h = refl
formed_both card (Stop x flags) h = refl
formed_both card (StopAll flags) h = refl
formed_both card (ChangeSpeed x v) h = refl
formed_both card (Set x s) h = refl
formed_both card (Ask x q) h = refl
formed_both card (AskHead q) h = absurd (h q refl)
formed_both card (ForHead o) h = refl
