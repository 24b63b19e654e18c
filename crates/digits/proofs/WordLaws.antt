-- Laws of words, over the width. Assumes nothing.
use Rattle.std.proofs.Common.{◌≡◌, ℕ, zero, suc, ◌+◌, ◌*◌, ◌/◌, ◌%◌, ◌^◌, ◌<◌, ◌≤◌, Bool, true, false, ◌&&◌, eqb, List, [], ◌∷◌, ◌++◌, length, sym, refl, ap, div-lt_iff_lt-mul, pow-suc, suc-ne-zero, mul_right_comm, arith, eq-eqb, ne_eqb, eqb-true, take, get_or, length-take, take-suc}
use Rattle.std.proofs.Math.Nat.{div-div-eq-div-mul}
use Rattle.std.proofs.Math.Seq.{take-length}
use Rattle.std.specs.Int.{byte_worth, sum_through, bytes_low_first}
use Rattle.std.specs.Prelude.{slice_index}
use native.Mathlib.Nat.{mod-add-div, suc_inj}
use borrow.Author.Tests.{eqb-false}
use Rattle.digits.specs.Bytes.{AllBytes, part, all_zero}
use Rattle.digits.specs.Words.{word, word_bytes}
use Rattle.digits.proofs.PartLaws.{part_add, part_length, zero_append}

-- A number that fits w bytes is read back from the w bytes that it is written in.
pub word_bytes_law : (w n : ℕ) → n < 256 ^ w → word (word_bytes w n) ≡ n
unfolding word word_bytes
word_bytes_law zero n h = omega arith
word_bytes_law (suc w) n h =
    let below : n / 256 < 256 ^ w = (div-lt_iff_lt-mul {k = 256} (omega arith)).1 (rw (pow-suc 256 w) at h) in
    rw (word_bytes_law w (n / 256) below) (mod-add-div n 256)

-- A word's bytes are as many as its width.
pub word_bytes_length : (w n : ℕ) → length (word_bytes w n) ≡ w
unfolding word_bytes
word_bytes_length zero n = refl
word_bytes_length (suc w) n = ap suc (word_bytes_length w (n / 256))

-- The number of two runs of bytes: the second counts from the end of the first on.
pub word_append : (a b : List ℕ) → word (a ++ b) ≡ word a + 256 ^ length a * word b
unfolding word
word_append [] b = omega arith
word_append (x ∷ a) b = rw (word_append a b, pow-suc, mul_right_comm (256 ^ length a) 256 (word b)) (omega arith)

-- The number in m + n bytes, from the number in the first m and the number in the n after them.
pub word_part : (s : List ℕ) (at m n : ℕ) → at + m ≤ length s
    → word (part s at (m + n)) ≡ word (part s at m) + 256 ^ m * word (part s (at + m) n)
word_part s at m n h = rw (part_add s at m n, word_append (part s at m) (part s (at + m) n), part_length s at m h)

-- Bytes are the bytes that the number they stand for is written in, if each of them is a byte.
pub bytes_word : (w : ℕ) (s : List ℕ) → length s ≡ w → AllBytes s → word_bytes w (word s) ≡ s
unfolding word word_bytes
bytes_word zero [] e h = refl
bytes_word zero (b ∷ s) e h = absurd (suc-ne-zero _ e)
bytes_word (suc w) [] e h = absurd (suc-ne-zero _ (sym e))
bytes_word (suc w) (b ∷ s) e h =
    let l : b < 256 = h 0 in
    let low : (b + 256 * word s) % 256 ≡ b = omega arith in
    let high : (b + 256 * word s) / 256 ≡ word s = omega arith in
    rw (low, high, bytes_word w s (suc_inj e) (λ k. h (suc k)))

-- A byte is the number of itself alone.
pub byte_word : (n : ℕ) → word (n ∷ []) ≡ n
unfolding word
byte_word n = omega arith

-- A word is below what its width can hold.
pub word_below : (w : ℕ) (s : List ℕ) → length s ≡ w → AllBytes s → word s < 256 ^ w
unfolding word
word_below zero [] e h = omega arith
word_below zero (b ∷ s) e h = absurd (suc-ne-zero _ e)
word_below (suc w) [] e h = absurd (suc-ne-zero _ (sym e))
word_below (suc w) (b ∷ s) e h =
    let l : b < 256 = h 0 in
    let r : word s < 256 ^ w = word_below w s (suc_inj e) (λ k. h (suc k)) in
    rw (pow-suc) (omega arith)

-- A number is zero where all its bytes are.
pub word_zero : (s : List ℕ) → eqb (word s) 0 ≡ all_zero s
unfolding word all_zero
word_zero [] = refl
word_zero (b ∷ s) = rw (← word_zero s) (sum_zero b (word s))
  where
    sum_zero : (b n : ℕ) → eqb (b + 256 * n) 0 ≡ (eqb b 0 && eqb n 0)
    sum_zero b n = go (eqb b 0) refl (eqb n 0) refl
      where
        go : (t : Bool) → eqb b 0 ≡ t → (u : Bool) → eqb n 0 ≡ u → eqb (b + 256 * n) 0 ≡ (t && u)
        go true e true f = let p : b ≡ 0 = eqb-true b 0 e in let q : n ≡ 0 = eqb-true n 0 f in eq-eqb (b + 256 * n) 0 (omega arith)
        go true e false f = let q : n ≡ 0 → ⊥ = eqb-false n 0 f in ne_eqb (b + 256 * n) 0 (λ z. q (omega arith))
        go false e true f = let q : b ≡ 0 → ⊥ = eqb-false b 0 e in ne_eqb (b + 256 * n) 0 (λ z. q (omega arith))
        go false e false f = let q : b ≡ 0 → ⊥ = eqb-false b 0 e in ne_eqb (b + 256 * n) 0 (λ z. q (omega arith))

-- A part is all zero where its first word and the part after it are.
pub zero_part : (s : List ℕ) (at m n : ℕ) → all_zero (part s at (m + n)) ≡ (eqb (word (part s at m)) 0 && all_zero (part s (at + m) n))
zero_part s at m n = rw (part_add s at m n, zero_append (part s at m) (part s (at + m) n), word_zero (part s at m))

-- The bytes that a number is written in are bytes.
pub word_bytes_bytes : (w n : ℕ) → AllBytes (word_bytes w n)
unfolding word_bytes
word_bytes_bytes zero n k = omega arith
word_bytes_bytes (suc w) n zero = omega arith
word_bytes_bytes (suc w) n (suc k) = word_bytes_bytes w (n / 256) k

-- The library reads bytes, low byte first, as the number that they stand for, and writes a number in its bytes.
sum_word : (k : ℕ) (b : List ℕ) → suc k ≤ length b → sum_through (λ i. byte_worth i (slice_index b i)) k ≡ word (take (suc k) b)
unfolding word
sum_word zero [] h = absurd (omega arith)
sum_word zero (x ∷ b) h = omega arith
sum_word (suc k) b h =
    let n : length (take (suc k) b) ≡ suc k = rw length-take (omega arith) in
    rw (take-suc b (suc k) 0 (omega arith), word_append (take (suc k) b) (get_or b (suc k) 0 ∷ []), n, sum_word k b (omega arith), byte_word (get_or b (suc k) 0)) (omega arith)

pub read_word : (k : ℕ) (s : List ℕ) (at : ℕ) → at + suc k ≤ length s
    → sum_through (λ i. byte_worth i (slice_index (part s at (suc k)) i)) k ≡ word (part s at (suc k))
read_word k s at h =
    let n = part_length s at (suc k) h in
    let whole : take (suc k) (part s at (suc k)) ≡ part s at (suc k) = rw n at (take-length (part s at (suc k))) in
    rw (sum_word k (part s at (suc k)) (omega arith), whole) refl

bytes_from : (k i n : ℕ) → bytes_low_first i k n ≡ word_bytes k (n / 256 ^ i)
unfolding word_bytes
bytes_from zero i n = refl
bytes_from (suc k) zero n = let whole : n / 256 ^ 0 ≡ n = omega arith in rw (bytes_from k 1 n, whole) refl
bytes_from (suc k) (suc i) n =
    let next : n / 256 ^ suc (suc i) ≡ n / 256 ^ suc i / 256 = rw (pow-suc 256 (suc i), div-div-eq-div-mul n (256 ^ suc i) 256) refl in
    rw (bytes_from k (suc (suc i)) n, next) refl

pub written_word : (k n : ℕ) → bytes_low_first 0 k n ≡ word_bytes k n
written_word k n = let whole : n / 256 ^ 0 ≡ n = omega arith in rw (bytes_from k 0 n, whole) refl
