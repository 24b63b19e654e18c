-- Of every row with ±d, whatever its word and its order: a bare d means plus. Assumes nothing.
use Rattle.std.specs.Prelude.{Option, Some, None}
use mathlib.Core.Path.{◌≡◌, refl}
use mathlib.Core.List.{List, ◌∷◌, ◌++◌}
use mathlib.Core.Bool.{Bool, true, false, cond}
use Prim.Native.Char.{code}
use Prim.Native.Nat.{ℕ, suc, ◌+◌}
use native.Mathlib.Omega.{arith}
use lib.ListN.{length, length-append}
use lib.Seq.{take-append_seam, drop-append-add, get_or-append_seam, get_or-append-add}
use lib.Dec.{eqb-suc-suc}
use borrow.Author.Tests.{ne_eqb}
use Rattle.text.specs.Text.{same, is_digit, is_hex, hex_value, number_at_front}
use Rattle.text.specs.declared.decimal.Digits.{Digits}
use Rattle.text.proofs.TextLaws.{between}
use Rattle.line.specs.declared.Fields.{Fields}
use Rattle.line.specs.declared.Order.{Order}
use Rattle.line.specs.Shapes.{x±d, got_if, byte_at, no_fields, with_channel, onward, numbered, read_channel, read_number, read_signed, read_fields}
use Rattle.line.proofs.ReadLaws.{last_field}
use Rattle.line.specs.Forms.{Row, complete, fields_as_row, as_row}

-- A digit is neither sign, so the number begins with it; after a + it begins a place later.
bare_read : (f : Fields) (w d : List ℕ) (c : ℕ) → is_digit (byte_at d 0) ≡ true
    → read_signed f (w ++ c ∷ d) (length w + 1) ≡ numbered false f (length w + 1) (number_at_front d)
unfolding read_signed read_number
bare_read f w d c h =
    let b = between (code "0") (code "9") (byte_at d 0) h in
    rw (drop-append-add w (c ∷ d) 1, get_or-append-add w (c ∷ d) 1 0, ne_eqb (byte_at d 0) (code "+") (λ e. omega (arith, b.0)), ne_eqb (byte_at d 0) (code "-") (λ e. omega (arith, b.0)))

plus_read : (f : Fields) (w d : List ℕ) (c : ℕ)
    → read_signed f (w ++ c ∷ code "+" ∷ d) (length w + 1) ≡ numbered false f (length w + 1 + 1) (number_at_front d)
unfolding read_signed read_number
plus_read f w d c =
    let p : length w + 1 + 1 ≡ length w + 2 = omega arith in
    rw (get_or-append-add w (c ∷ code "+" ∷ d) 1 0, p, drop-append-add w (c ∷ code "+" ∷ d) 2)

-- A number ends its line, or does not, with and without the + alike.
same_end : (o : Fields → Order) (f : Fields) (w d : List ℕ) (c : ℕ) (n : Option Digits)
    → complete o (w ++ c ∷ d) (numbered false f (length w + 1) n) ≡ complete o (w ++ c ∷ code "+" ∷ d) (numbered false f (length w + 1 + 1) n)
same_end o f w d c (Some n) =
    let k = n.count in
    let p : length w + 1 + 1 + k ≡ suc (length w + 1 + k) = omega arith in
    let q : length w + suc (suc (length d)) ≡ suc (length w + suc (length d)) = omega arith in
    rw (length-append w (c ∷ d), length-append w (c ∷ code "+" ∷ d), p, q, eqb-suc-suc (length w + 1 + k) (length w + suc (length d)))
same_end o f w d c None = refl

-- 02 §1: "Wherever a form takes ±d, let a bare d mean plus": whatever byte stands for x, and whatever follows the first digit.
pub bare_plus : (w d : List ℕ) (o : Fields → Order) (c : ℕ) → is_digit (byte_at d 0) ≡ true
    → let r : Row = record { word = w; fields = x±d; order = o } in
    as_row r (w ++ c ∷ d) ≡ as_row r (w ++ c ∷ code "+" ∷ d)
unfolding as_row fields_as_row read_fields read_channel
bare_plus w d o c h =
    rw (take-append_seam w (c ∷ d), take-append_seam w (c ∷ code "+" ∷ d), get_or-append_seam w c d 0, get_or-append_seam w c (code "+" ∷ d) 0)
    (go (is_hex c))
  where
    g : Fields
    g = with_channel no_fields (hex_value c)

    -- what the row makes of a line that begins with its word, by whether a channel stands for x
    made : Bool → List ℕ → Option Order
    made t s = cond (same w w) (complete o s (onward (got_if t g (length w + 1)) (λ f to. onward (read_signed f s to) (λ f to. Some (f, to))))) None

    go : (t : Bool) → made t (w ++ c ∷ d) ≡ made t (w ++ c ∷ code "+" ∷ d)
    go true =
        let n : Option Digits = number_at_front d in
        rw (bare_read g w d c h, plus_read g w d c, ← last_field (numbered false g (length w + 1) n), ← last_field (numbered false g (length w + 1 + 1) n), same_end o g w d c n)
    go false = refl
