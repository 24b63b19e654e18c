-- The numbers of the verdicts: how large they are, that only a call that is done has 0, and that none has 4. Assumes nothing.
use Rattle.std.specs.Prelude.{Ok, Err}
use mathlib.Core.Path.{◌≡◌, refl}
use Prim.Native.Nat.{ℕ, ◌≤◌}
use native.Mathlib.Omega.{arith}
use Rattle.drive.specs.Numbers.{Verdict}
use Rattle.drive.specs.declared.Refusal.TheVariants.{NoForm, Busy, OutOfRange, WrongSize, NotSound, LocalMode, Disabled, Unread, SwitchAhead, AtLimit, AtRangeEnd, NotDriving, Full}
use Rattle.drive.specs.Numbers.{number_of}

-- what is known of a verdict's number: it is a byte, 0 is that of a call that is done alone, and 02 §5: "4 is no longer given"
pub record Numbered (v : Verdict) (n : ℕ) : Type 0 where
  pub small : n ≤ 255
  pub done : n ≡ 0 → v ≡ (Ok tt)
  pub split : n ≡ 4 → ⊥

another : (v : Verdict) (n : ℕ) → 1 ≤ n → n ≤ 255 → (n ≡ 4 → ⊥) → Numbered v n
another v n low high other = record { small = high; done = λ e. absurd (omega (arith, e)); split = other }

pub numbered : (v : Verdict) → Numbered v (number_of v)
unfolding number_of
numbered (Ok u) = record { small = omega arith; done = λ e. refl; split = omega arith }
numbered (Err NoForm) = another (Err NoForm) _ (omega arith) (omega arith) (omega arith)
numbered (Err Busy) = another (Err Busy) _ (omega arith) (omega arith) (omega arith)
numbered (Err OutOfRange) = another (Err OutOfRange) _ (omega arith) (omega arith) (omega arith)
numbered (Err WrongSize) = another (Err WrongSize) _ (omega arith) (omega arith) (omega arith)
numbered (Err NotSound) = another (Err NotSound) _ (omega arith) (omega arith) (omega arith)
numbered (Err LocalMode) = another (Err LocalMode) _ (omega arith) (omega arith) (omega arith)
numbered (Err Disabled) = another (Err Disabled) _ (omega arith) (omega arith) (omega arith)
numbered (Err Unread) = another (Err Unread) _ (omega arith) (omega arith) (omega arith)
numbered (Err SwitchAhead) = another (Err SwitchAhead) _ (omega arith) (omega arith) (omega arith)
numbered (Err AtLimit) = another (Err AtLimit) _ (omega arith) (omega arith) (omega arith)
numbered (Err AtRangeEnd) = another (Err AtRangeEnd) _ (omega arith) (omega arith) (omega arith)
numbered (Err NotDriving) = another (Err NotDriving) _ (omega arith) (omega arith) (omega arith)
numbered (Err Full) = another (Err Full) _ (omega arith) (omega arith) (omega arith)
