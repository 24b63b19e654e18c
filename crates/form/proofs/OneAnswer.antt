-- A tail is told by its fields, and a row by its word and its fields: so what `tail_of` and the numbers of rows promise is one answer each.
-- Assumes nothing.
use Rattle.std.specs.Prelude.{Option, Some, None}
use mathlib.Core.Path.{◌≡◌, refl, sym, ap, ◌∙◌}
use mathlib.Core.List.{List, [], ◌∷◌}
use mathlib.Core.Bool.{Bool, true, false, ◌&&◌, cond, and-eq-true_iff}
use Prim.Native.Nat.{ℕ, zero, suc, ◌+◌, ◌*◌, ◌≤◌}
use native.Mathlib.Omega.{arith}
use lib.ListN.{take, drop}
use lib.Dec.{eqb}
use borrow.Author.Tests.{eqb-true, eqb-false, ltb-true}
use Rattle.line.specs.declared.Field.{Field}
use Rattle.line.specs.declared.Field.TheVariants.{Channel, Signed, Unsigned, Digit, Question, FourDigits, ZeroThree, Enable, Disable, On, Off, End, Never}
use Rattle.line.specs.declared.AfterX.{AfterX}
use Rattle.line.specs.declared.AfterX.TheVariants.{OnlyX, XSigned, XNumber, XSwitches, XDigits, XQuestion}
use Rattle.line.specs.declared.Tail.{Tail}
use Rattle.line.specs.declared.Tail.TheVariants.{Alone, AtX, OneDigit, Enabling, Disabling, TurnOn, TurnOff}
use Rattle.line.specs.Tails.{after_x, fields_of}
use Rattle.line.specs.Forms.{Row, forms}
use Rattle.form.specs.Table.{packed, row_count, rows_from, is_row, Numbers}
use Rattle.form.specs.Computing.{computing_form}

-- each field has a number of its own, and so have some fields in a row
field_number : Field → ℕ
field_number Channel = 1
field_number Signed = 2
field_number Unsigned = 3
field_number Digit = 4
field_number Question = 5
field_number FourDigits = 6
field_number ZeroThree = 7
field_number Enable = 8
field_number Disable = 9
field_number On = 10
field_number Off = 11
field_number End = 12
field_number Never = 13

field_numbers : List Field → ℕ
field_numbers [] = 0
field_numbers (f ∷ fs) = field_number f + 16 * field_numbers fs

-- the first of some things that has a number
after_numbered : ℕ → AfterX
after_numbered n =
    cond (eqb n 0) OnlyX (cond (eqb n 2) XSigned (cond (eqb n 3) XNumber (cond (eqb n 118) XSwitches (cond (eqb n 6) XDigits XQuestion))))

tail_numbered : List Field → Option Tail
tail_numbered [] = Some Alone
tail_numbered (Channel ∷ fs) = Some (AtX (after_numbered (field_numbers fs)))
tail_numbered (Signed ∷ fs) = None
tail_numbered (Unsigned ∷ fs) = None
tail_numbered (Digit ∷ fs) = Some OneDigit
tail_numbered (Question ∷ fs) = None
tail_numbered (FourDigits ∷ fs) = None
tail_numbered (ZeroThree ∷ fs) = None
tail_numbered (Enable ∷ fs) = Some Enabling
tail_numbered (Disable ∷ fs) = Some Disabling
tail_numbered (On ∷ fs) = Some TurnOn
tail_numbered (Off ∷ fs) = Some TurnOff
tail_numbered (End ∷ fs) = None
tail_numbered (Never ∷ fs) = None

after_back : (a : AfterX) → after_numbered (field_numbers (after_x a)) ≡ a
unfolding after_numbered field_numbers field_number
after_back OnlyX = refl
after_back XSigned = refl
after_back XNumber = refl
after_back XSwitches = refl
after_back XDigits = refl
after_back XQuestion = refl

tail_back : (t : Option Tail) → tail_numbered (fields_of t) ≡ t
unfolding tail_numbered
tail_back (Some Alone) = refl
tail_back (Some (AtX a)) = rw (after_back a)
tail_back (Some OneDigit) = refl
tail_back (Some Enabling) = refl
tail_back (Some Disabling) = refl
tail_back (Some TurnOn) = refl
tail_back (Some TurnOff) = refl
tail_back None = refl

-- Two tails with the same fields are one.
pub one_tail : (s t : Option Tail) → fields_of s ≡ fields_of t → s ≡ t
one_tail s t e = sym (tail_back s) ∙ ap tail_numbered e ∙ tail_back t

-- a row's word and fields as one number, and the place of the first row that has it
key_of : Row → ℕ
key_of r = field_numbers r.fields + 65536 * packed r.word

row_place : ℕ → List Row → ℕ
row_place k [] = 0
row_place k (r ∷ rs) = cond (eqb (key_of r) k) 0 (suc (row_place k rs))

first_place : List Row → ℕ
first_place [] = row_count
first_place (r ∷ rs) = row_place (key_of r) forms

-- that it is the row's own place, of the first n rows
back_to : ℕ → Bool
back_to zero = eqb (first_place (take 1 (drop 0 forms))) 0
back_to (suc n) = eqb (first_place (take 1 (drop (suc n) forms))) (suc n) && back_to n

all_back : back_to row_count ≡ true
unfolding computing_form back_to first_place row_place key_of field_numbers field_number
all_back = refl

back_at : (k n : ℕ) → n ≤ k → back_to k ≡ true → first_place (take 1 (drop n forms)) ≡ n
unfolding back_to
back_at zero zero h e = eqb-true _ 0 e
back_at zero (suc n) h e = absurd (omega arith)
back_at (suc k) n h e =
    let both = (and-eq-true_iff (eqb (first_place (take 1 (drop (suc k) forms))) (suc k)) (back_to k)).0 e in
    go (eqb n (suc k)) refl (eqb-true _ (suc k) both.0) (λ l. back_at k n l both.1)
  where
    go : (b : Bool) → eqb n (suc k) ≡ b → first_place (take 1 (drop (suc k) forms)) ≡ suc k → (n ≤ k → first_place (take 1 (drop n forms)) ≡ n)
        → first_place (take 1 (drop n forms)) ≡ n
    go true q here below = rw (eqb-true n (suc k) q) here
    go false q here below = below (omega (arith, eqb-false n (suc k) q))

-- the place that is the number of a row; of none, as many rows as there are
number_of : Option ℕ → ℕ
number_of (Some n) = n
number_of None = row_count

number_back : (o : Option ℕ) → is_row o ≡ true → first_place (take 1 (rows_from o)) ≡ number_of o
unfolding first_place number_of
number_back (Some n) h = back_at row_count n (omega (arith, ltb-true n row_count h)) all_back
number_back None h = refl

-- A row has one number.
pub one_number : (m n : Option ℕ) (rs : List Row) → Numbers m rs → Numbers n rs → m ≡ n
unfolding number_of
one_number m n rs a b =
    apart m n a.most b.most (sym (number_back m a.most) ∙ ap first_place (a.row ∙ sym b.row) ∙ number_back n b.most)
  where
    apart : (m n : Option ℕ) → is_row m ≡ true → is_row n ≡ true → number_of m ≡ number_of n → m ≡ n
    apart (Some m) (Some n) p q e = ap (λ k. Some k) e
    apart (Some m) None p q e = absurd (omega (arith, ltb-true m row_count p, e))
    apart None (Some n) p q e = absurd (omega (arith, ltb-true n row_count q, e))
    apart None None p q e = refl
