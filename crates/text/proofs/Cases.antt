-- Numbers in digits, computed on cases. One statement for each list, by computation.
use mathlib.Core.Path.{◌≡◌, refl}
use mathlib.Core.List.{List}
use mathlib.Core.Bool.{true, false}
use Prim.Native.Nat.{ℕ, ◌+◌, ◌-◌}
use lib.Dec.{eqb}
use borrow.Author.Tests.{eqb-false}
use Rattle.digits.specs.Words.{word}
use Rattle.digits.specs.Places.{origin}
use Rattle.text.specs.Text.{bytes, decimal, signed_decimal, hex_byte, hex_word, hex_value, is_hex, value_of, digits_at_front, Wrote}
use Rattle.text.specs.Text.{number_at_front, sign_byte, distance}
use Rattle.std.specs.Prelude.{Some, None}
use Rattle.text.specs.Computing.{computing_text}

-- document 01's own replies: "a sign (+ for 0) and at least 7 digits; speeds, at least 6"
written :
    (signed_decimal 7 origin ≡ bytes "+0000000") × (signed_decimal 7 (origin + 3) ≡ bytes "+0000003")
    × (signed_decimal 7 1 ≡ bytes "-2147483647") × (decimal 6 50 ≡ bytes "000050") × (decimal 6 5000000 ≡ bytes "5000000")
    × (decimal 1 0 ≡ bytes "0") × (hex_byte 0x80 ≡ bytes "80") × (hex_byte 15 ≡ bytes "0F")
    × (hex_word 0x80A9 ≡ bytes "80A9") × (hex_word 9 ≡ bytes "0009")
unfolding computing_text
written = (refl, refl, refl, refl, refl, refl, refl, refl, refl, refl)

-- Texts of different numbers are not the same text.
apart : (a b : List ℕ) → eqb (word a) (word b) ≡ false → a ≡ b → ⊥
apart a b e p = eqb-false (word a) (word b) e (rw p)

-- Writers of -12, in at least one digit, whose part held six dots: one that keeps the promise; one that uses the part past its text as
-- scratch; one that counts the digits of another number, and so loses one; one that writes over its sign; and one that tells the length
-- of the part.
writers :
    Wrote (bytes "......") (bytes "-12...") (signed_decimal 1 (origin - 12)) 3
    × (Wrote (bytes "......") (bytes "-12.12") (signed_decimal 1 (origin - 12)) 3 → ⊥)
    × (Wrote (bytes "......") (bytes "-2....") (signed_decimal 1 (origin - 12)) 2 → ⊥)
    × (Wrote (bytes "......") (bytes "12....") (signed_decimal 1 (origin - 12)) 3 → ⊥)
    × (Wrote (bytes "......") (bytes "-12...") (signed_decimal 1 (origin - 12)) 6 → ⊥)
unfolding computing_text
writers = (
  record { count = refl; buffer = refl },
  λ w. apart (bytes "-12.12") (bytes "-12...") refl w.buffer,
  λ w. apart (bytes "-2....") (bytes "-12...") refl w.buffer,
  λ w. apart (bytes "12....") (bytes "-12...") refl w.buffer,
  λ w. eqb-false 6 3 refl w.count,
)

-- leading zeros are digits, and the number ends where the digits do
reads :
    (digits_at_front (bytes "0012A3") ≡ 4) × (value_of (bytes "0012") ≡ 12) × (hex_value 70 ≡ 15)
    × (is_hex 71 ≡ false) × (is_hex 97 ≡ false) × (is_hex 57 ≡ true)
unfolding computing_text
reads = (refl, refl, refl, refl, refl, refl)

-- "d: 1 to 10 digits": none are no number and eleven are none, ten are one, and what follows the digits is left
numbers :
    (number_at_front (bytes "-5") ≡ None) × (number_at_front (bytes "") ≡ None) × (number_at_front (bytes "00000000012") ≡ None)
    × (number_at_front (bytes "9999999999") ≡ Some (record { value = 9999999999; count = 10 })) × (number_at_front (bytes "007?") ≡ Some (record { value = 7; count = 3 }))
unfolding computing_text
numbers = (refl, refl, refl, refl, refl)

-- the sign and the distance from position 0, on either side
sides :
    (sign_byte origin ≡ 43) × (sign_byte 1 ≡ 45) × (distance origin ≡ 0) × (distance 1 ≡ 2147483647)
    × (distance (origin + 3) ≡ 3) × (sign_byte 2147483647 ≡ 45)
sides = (refl, refl, refl, refl, refl, refl)
