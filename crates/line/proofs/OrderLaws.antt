-- What every order of a line is: it names one of the sixteen channels, its directions, speed numbers, end flags and head bytes
-- are those that document 01 gives, and the 0 of DYYY0yyy is 0. Assumes nothing.
use Rattle.std.specs.Prelude.{Option, Some, None}
use Prim.Native.Char.{code}
use Prim.Native.Nat.{ℕ, ◌+◌, ◌≤◌}
use native.Mathlib.Omega.{arith}
use mathlib.Core.Path.{◌≡◌, refl}
use mathlib.Core.List.{List, [], ◌∷◌}
use mathlib.Core.Bool.{Bool, true, false, ◌&&◌, ◌||◌, cond, and-eq-true_iff}
use lib.ListN.{length, take, drop}
use lib.Dec.{eqb, leb}
use borrow.Author.Tests.{leb-true, le-leb, eqb-true}
use Rattle.text.specs.Text.{is_digit, is_hex, hex_value, same, digits_at_front, number_at_front}
use Rattle.text.specs.declared.decimal.Digits.{Digits}
use Rattle.line.specs.declared.Fields.{Fields}
use Rattle.line.specs.declared.Field.{Field}
use Rattle.line.specs.declared.Field.TheVariants.{Channel, Signed, Unsigned, Digit, Question, FourDigits, ZeroThree, Enable, Disable, On, Off, End, Never}
use Rattle.line.specs.Shapes.{Got}
use Rattle.line.specs.declared.Order.{Order}
use Rattle.line.specs.Shapes.{got_if, with_channel, with_written, with_first, with_second, byte_at, digit_at, four_of, numbered, no_fields, onward, read_channel, read_number, read_signed, read_digit, read_question, read_letters, read_three, read_four, read_zero_three, read_field, read_fields}
use Rattle.line.specs.Forms.{Row, forms, complete, fields_as_row, as_row, first_of, first_form, order_of}
use Rattle.line.specs.Made.{order_made, parsed_made}
use Rattle.line.specs.Computing.{computing_line}

-- fields as a line fills them: a channel of the bench, and the 0 of DYYY0yyy
abbrev fields_made : Fields → Bool
fields_made f = leb f.channel 15 && eqb f.second.a 0

abbrev got_made : Got → Bool
got_made (Some (f, at)) = fields_made f
got_made None = true

hex_bound : (b : ℕ) → is_hex b ≡ true → hex_value b ≤ 15
unfolding hex_value
hex_bound b h = go (is_digit b) refl h
  where
    go : (t : Bool) → is_digit b ≡ t → (t || (leb (code "A") b && leb b (code "F"))) ≡ true → hex_value b ≤ 15
    go true e h = rw e (omega (arith, leb-true b (code "9") ((and-eq-true_iff (leb (code "0") b) (leb b (code "9"))).0 e).1))
    go false e h = rw e (omega (arith, leb-true b (code "F") ((and-eq-true_iff (leb (code "A") b) (leb b (code "F"))).0 h).1))

got_made_law : (t : Bool) (f : Fields) (at : ℕ) → fields_made f ≡ true → got_made (got_if t f at) ≡ true
got_made_law true f at h = h
got_made_law false f at h = refl

number_made : (minus : Bool) (f : Fields) (at : ℕ) (n : Option Digits) → fields_made f ≡ true → got_made (numbered minus f at n) ≡ true
number_made minus f at (Some d) h = h
number_made minus f at None h = refl

either_made : (t : Bool) (a b : Got) → got_made a ≡ true → got_made b ≡ true → got_made (cond t a b) ≡ true
either_made true a b p q = p
either_made false a b p q = q

-- A channel that is read is one of the bench, and the 0 of 0yyy is 0.
channel_made : (f : Fields) (s : List ℕ) (at : ℕ) → fields_made f ≡ true → got_made (read_channel f s at) ≡ true
unfolding read_channel
channel_made f s at h = go (is_hex (byte_at s at)) refl
  where
    zero_kept : eqb f.second.a 0 ≡ true
    zero_kept = ((and-eq-true_iff (leb f.channel 15) (eqb f.second.a 0)).0 h).1

    go : (t : Bool) → is_hex (byte_at s at) ≡ t → got_made (got_if t (with_channel f (hex_value (byte_at s at))) (at + 1)) ≡ true
    go true e = rw (le-leb (hex_value (byte_at s at)) 15 (hex_bound (byte_at s at) e), zero_kept)
    go false e = refl

zero_made : (f : Fields) (s : List ℕ) (at : ℕ) → fields_made f ≡ true → got_made (read_zero_three f s at) ≡ true
unfolding read_zero_three
zero_made f s at h = go (leb 4 (digits_at_front (drop at s))) (eqb (byte_at s at) (code "0")) refl
  where
    channel : leb f.channel 15 ≡ true
    channel = ((and-eq-true_iff (leb f.channel 15) (eqb f.second.a 0)).0 h).0

    go : (t u : Bool) → eqb (byte_at s at) (code "0") ≡ u → got_made (got_if (t && u) (with_second f (four_of s at)) (at + 4)) ≡ true
    go true true e = rw (channel, eqb-true (byte_at s at) (code "0") e)
    go true false e = refl
    go false u e = refl

-- A field that is read leaves fields so made.
field_made : (k : Field) (f : Fields) (s : List ℕ) (at : ℕ) → fields_made f ≡ true → got_made (read_field k f s at) ≡ true
unfolding read_number read_signed read_digit read_question read_letters read_three read_four
field_made Channel f s at h = channel_made f s at h
field_made Signed f s at h =
    let n : Option Digits = number_at_front (drop (at + 1) s) in
    either_made (eqb (byte_at s at) (code "+")) _ _ (number_made false f (at + 1) n h)
    (either_made (eqb (byte_at s at) (code "-")) _ _ (number_made true f (at + 1) n h) (number_made _ f at (number_at_front (drop at s)) h))
field_made Unsigned f s at h = number_made false f at (number_at_front (drop at s)) h
field_made Digit f s at h = got_made_law (is_digit (byte_at s at)) (with_written f false (digit_at s at)) (at + 1) h
field_made Question f s at h = got_made_law (eqb (byte_at s at) (code "?")) f (at + 1) h
field_made FourDigits f s at h = got_made_law (leb 4 (digits_at_front (drop at s))) (with_first f (four_of s at)) (at + 4) h
field_made ZeroThree f s at h = zero_made f s at h
field_made Enable f s at h = got_made_law (eqb (byte_at s at) (code "E") && eqb (byte_at s (at + 1)) (code "N")) f (at + 2) h
field_made Disable f s at h = got_made_law (eqb (byte_at s at) (code "D") && eqb (byte_at s (at + 1)) (code "S")) f (at + 2) h
field_made On f s at h = got_made_law (eqb (byte_at s at) (code "O") && eqb (byte_at s (at + 1)) (code "N")) f (at + 2) h
field_made Off f s at h =
    got_made_law (eqb (byte_at s at) (code "O") && eqb (byte_at s (at + 1)) (code "F") && eqb (byte_at s (at + 2)) (code "F")) f (at + 3) h
field_made End f s at h = h
field_made Never f s at h = refl

fields_made_law : (ks : List Field) (f : Fields) (s : List ℕ) (at : ℕ) → fields_made f ≡ true → got_made (read_fields ks f s at) ≡ true
unfolding read_fields
fields_made_law [] f s at h = h
fields_made_law (k ∷ ks) f s at h = go (read_field k f s at) (field_made k f s at h) (λ g to. fields_made_law ks g s to)
  where
    go : (t : Got) → got_made t ≡ true → ((g : Fields) (to : ℕ) → fields_made g ≡ true → got_made (read_fields ks g s to) ≡ true)
        → got_made (onward t (λ g to. read_fields ks g s to)) ≡ true
    go (Some (g, to)) p later = later g to p
    go None p later = refl

-- a test that every row passes
every_row : (Row → Bool) → List Row → Bool
every_row p [] = true
every_row p (r ∷ rs) = p r && every_row p rs

-- Each row makes such an order of fields so made.
rows_made : (f : Fields) → fields_made f ≡ true → every_row (λ r. order_made (r.order f)) forms ≡ true
unfolding computing_line every_row order_made
rows_made f h =
    let both = (and-eq-true_iff (leb f.channel 15) (eqb f.second.a 0)).0 h in
    rw (both.0, both.1)

complete_made : (o : Fields → Order) (s : List ℕ) (t : Got) → ((f : Fields) → fields_made f ≡ true → order_made (o f) ≡ true) → got_made t ≡ true
    → parsed_made (complete o s t) ≡ true
complete_made o s (Some (f, at)) made h = go (eqb at (length s))
  where
    go : (t : Bool) → parsed_made (cond t (Some (o f)) None) ≡ true
    go true = made f h
    go false = refl
complete_made o s None made h = refl

row_made : (r : Row) (s : List ℕ) → ((f : Fields) → fields_made f ≡ true → order_made (r.order f) ≡ true) → parsed_made (as_row r s) ≡ true
unfolding as_row fields_as_row
row_made r s made = go (same (take (length r.word) s) r.word)
  where
    n : ℕ
    n = length r.word

    go : (t : Bool) → parsed_made (cond t (complete r.order s (read_fields r.fields no_fields s n)) None) ≡ true
    go true = complete_made r.order s (read_fields r.fields no_fields s n) made (fields_made_law r.fields no_fields s n refl)
    go false = refl

first_made : (rs : List Row) (s : List ℕ) → ((f : Fields) → fields_made f ≡ true → every_row (λ r. order_made (r.order f)) rs ≡ true)
    → parsed_made (first_form rs s) ≡ true
unfolding first_form every_row
first_made [] s made = refl
first_made (r ∷ rs) s made =
    go (as_row r s) (row_made r s (λ f h. (both f h).0)) (first_made rs s (λ f h. (both f h).1))
  where
    both : (f : Fields) → fields_made f ≡ true → (order_made (r.order f) ≡ true) × (every_row (λ q. order_made (q.order f)) rs ≡ true)
    both f h = (and-eq-true_iff (order_made (r.order f)) (every_row (λ q. order_made (q.order f)) rs)).0 (made f h)

    go : (t : Option Order) → parsed_made t ≡ true → parsed_made (first_form rs s) ≡ true → parsed_made (first_of t (first_form rs s)) ≡ true
    go (Some o) p q = p
    go None p q = q

-- What a line is, is such an order, or nothing.
pub line_made : (s : List ℕ) → parsed_made (order_of s) ≡ true
unfolding order_of
line_made s = go (leb (length s) 80)
  where
    go : (t : Bool) → parsed_made (cond t (first_form forms s) None) ≡ true
    go true = first_made forms s rows_made
    go false = refl
