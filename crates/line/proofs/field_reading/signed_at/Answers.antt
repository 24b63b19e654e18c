-- `line::field_reading::signed_at` meets its contract. Assumes nothing.
use Rattle.std.proofs.Common.{◌∙◌, arith, rules, refl, ◌≡◌, ◌≤◌, ℕ, ◌+◌, List, Bool, true, false, ◌||◌, length}
use Prim.Native.Char.{code}
use mathlib.Core.Bool.{cond}
use lib.Dec.{eqb}
use lib.ListN.{drop_of_length-le}
use borrow.Author.Tests.{eqb-true}
use Rattle.text.specs.Text.{digits_at_front, number_at_front}
use Rattle.line.proofs.ReadLaws.{byte_past}
use Rattle.line.specs.declared.Fields.{Fields}
use Rattle.line.specs.Shapes.{byte_at, read_number, read_signed}
use Rattle.line.proofs.field_reading.signed_at.Goals as goal

-- Where a sign stands, it is that of the number after it; where none does, the number is bare.
signed : (f : Fields) (s : List ℕ) (at : ℕ) (t : Bool) → (eqb (byte_at s at) (code "-") || eqb (byte_at s at) (code "+")) ≡ t
    → cond t (read_number (eqb (byte_at s at) (code "-")) f s (at + 1)) (read_number false f s at) ≡ read_signed f s at
unfolding read_signed
signed f s at t h = go (eqb (byte_at s at) (code "-")) (eqb (byte_at s at) (code "+")) refl refl t h
  where
    go : (m p : Bool) → eqb (byte_at s at) (code "-") ≡ m → eqb (byte_at s at) (code "+") ≡ p → (t : Bool) → (m || p) ≡ t
        → cond t (read_number m f s (at + 1)) (read_number false f s at)
        ≡ cond p (read_number false f s (at + 1)) (cond m (read_number true f s (at + 1)) (read_number false f s at))
    go true true e i t h = absurd (omega (arith, eqb-true (byte_at s at) (code "-") e, eqb-true (byte_at s at) (code "+") i))
    go true false e i t h = rw (← h)
    go false true e i t h = rw (← h)
    go false false e i t h = rw (← h)

pub returns-in_err-b : goal.returns-in_err-b
unfolding read_signed read_number number_at_front digits_at_front
returns-in_err-b c = λ f.
    let a = c.args in
    let past : length a.s.now ≤ a.at = search rules in
    rw (c.from_residual.ensures, byte_past a.s.now a.at past, drop_of_length-le a.s.now {i = a.at} past)

pub returns-then-minus-b : goal.returns-then-minus-b
returns-then-minus-b c = λ f.
    let a = c.args in
    let b : byte_at a.s.now a.at ≡ c.in_ok-b.field-0.now = search rules in
    c.number_from.ensures f ∙ rw (← b) (signed f a.s.now a.at true (rw b c.if-minus-b.true))

pub returns-else-minus-b : goal.returns-else-minus-b
returns-else-minus-b c = λ f.
    let a = c.args in
    let b : byte_at a.s.now a.at ≡ c.in_ok-b.field-0.now = search rules in
    c.number_from-else-minus-b.ensures f ∙ signed f a.s.now a.at false (rw b c.if-minus-b.false)
