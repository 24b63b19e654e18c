-- The bits of bytes 24 to 31 that no sound record has set, and the fields that they tell of. Assumes nothing.
use Rattle.std.proofs.Common.{◌≡◌, ℕ, ◌+◌, ◌*◌, ◌/◌, ◌%◌, ◌^◌, ◌<◌, ◌≤◌, Bool, true, false, not, ◌&&◌, eqb, leb, List, length, refl, mod-eq_of_lt, arith, eq-eqb, ne_eqb, eqb-true}
use lib.Bits.{bit_and, and_block, and_high, and_mask}
use borrow.Author.Tests.{eqb-false}
use Rattle.digits.specs.Bytes.{AllBytes, part}
use Rattle.digits.specs.Words.{word, is_set}
use Rattle.digits.proofs.PartLaws.{part_length, part_bytes}
use Rattle.digits.proofs.WordLaws.{word_part, word_below}

-- A sum of a number and 256 times another is 0 where both are.
sum_zero : (a b : ℕ) → eqb (a * 256 + b) 0 ≡ (eqb b 0 && eqb a 0)
sum_zero a b = grind arith

-- Bits are clear where those of the lowest byte and those of the others are.
masked : (x m s r : ℕ) → x < 256 → m < 256 → eqb (bit_and (x + 256 * s) (m + 256 * r)) 0 ≡ (eqb (bit_and x m) 0 && eqb (bit_and s r) 0)
masked x m s r hx hm =
    let number : x + 256 * s ≡ s * 2 ^ 8 + x = omega arith in
    let mask : m + 256 * r ≡ r * 2 ^ 8 + m = omega arith in
    rw (number, mask, and_block 8 s r x m hx hm) (sum_zero (bit_and s r) (bit_and x m))

pub byte_below : (b : List ℕ) → AllBytes b → (at : ℕ) → at + 1 ≤ length b → word (part b at 1) < 256
byte_below b bytes at h = word_below 1 (part b at 1) (part_length b at 1 h) (part_bytes b at 1 bytes)

-- So of the bytes of a record, one after the other.
pub peel : (b : List ℕ) → AllBytes b → (at n m r : ℕ) → at + 1 ≤ length b → m < 256
    → eqb (bit_and (word (part b at (1 + n))) (m + 256 * r)) 0 ≡ (eqb (bit_and (word (part b at 1)) m) 0 && eqb (bit_and (word (part b (at + 1) n)) r) 0)
peel b bytes at n m r h hm =
    rw (word_part b at 1 n h) (masked (word (part b at 1)) m (word (part b (at + 1) n)) r (byte_below b bytes at h) hm)

-- A number is 0 just where another is k at most.
same_test : (n x k : ℕ) → (x ≤ k → n ≡ 0) → (k < x → n ≡ 0 → ⊥) → eqb n 0 ≡ leb x k
same_test n x k f g = grind arith

-- What the bits of one byte tell.
pub three_at_most : (x : ℕ) → x < 256 → eqb (bit_and x 252) 0 ≡ leb x 3
three_at_most x h =
    let whole : x / 4 % 64 ≡ x / 4 = mod-eq_of_lt (omega arith) in
    rw (and_high x 6 2, whole) (same_test (x / 4 * 4) x 3 (λ l. omega arith) (λ l z. omega arith))

pub seven_at_most : (x : ℕ) → x < 256 → eqb (bit_and x 248) 0 ≡ leb x 7
seven_at_most x h =
    let whole : x / 8 % 32 ≡ x / 8 = mod-eq_of_lt (omega arith) in
    rw (and_high x 5 3, whole) (same_test (x / 8 * 8) x 7 (λ l. omega arith) (λ l z. omega arith))

pub one_at_most : (x : ℕ) → x < 256 → eqb (bit_and x 254) 0 ≡ leb x 1
one_at_most x h =
    let whole : x / 2 % 128 ≡ x / 2 = mod-eq_of_lt (omega arith) in
    rw (and_high x 7 1, whole) (same_test (x / 2 * 2) x 1 (λ l. omega arith) (λ l z. omega arith))

pub none_at_all : (x : ℕ) → x < 256 → eqb (bit_and x 255) 0 ≡ eqb x 0
none_at_all x h = let whole : bit_and x 255 ≡ x = rw (and_high x 8 0) (omega arith) in rw (whole)

pub bit_three : (x : ℕ) → eqb (bit_and x 8) 0 ≡ not (is_set 3 x)
bit_three x = rw (and_high x 1 3) (go (eqb (x / 8 % 2) 1) refl)
  where
    go : (t : Bool) → eqb (x / 8 % 2) 1 ≡ t → eqb (x / 8 % 2 * 8) 0 ≡ not t
    go true e = let p : x / 8 % 2 ≡ 1 = eqb-true (x / 8 % 2) 1 e in ne_eqb (x / 8 % 2 * 8) 0 (λ z. omega arith)
    go false e = let p : x / 8 % 2 ≡ 1 → ⊥ = eqb-false (x / 8 % 2) 1 e in eq-eqb (x / 8 % 2 * 8) 0 (omega arith)

pub upper_three : (x : ℕ) → eqb (bit_and x 31) 0 ≡ eqb (x % 32) 0
upper_three x = rw (and_mask x 5)
