-- Laws of what is read from a buffer. Assumes nothing.
use Rattle.std.proofs.Common.{◌≡◌, ℕ, zero, suc, ◌+◌, ◌<◌, ◌≤◌, true, ◌&&◌, eqb, List, [], ◌∷◌, ◌++◌, length, get_or, take, drop, replicate, refl, ◌∙◌, arith, length-drop, length-take-le, get_or-drop, drop-cons, drop-drop, take-add, eqb-true}
use mathlib.Core.Bool.{and_assoc, and-eq-true_iff}
use lib.Seq.{take-length}
use Rattle.digits.specs.Bytes.{AllBytes, part, joined, all_zero}

-- A part has the bytes that it is to have, where the buffer has them.
pub part_length : (s : List ℕ) (at n : ℕ) → at + n ≤ length s → length (part s at n) ≡ n
unfolding part
part_length s at n h = length-take-le n (drop at s) (rw length-drop (omega arith))

-- A part is a first part and the part after it.
pub part_add : (s : List ℕ) (at m n : ℕ) → part s at (m + n) ≡ part s at m ++ part s (at + m) n
unfolding part
part_add s at m n = take-add m n (drop at s) ∙ rw drop-drop

-- One byte is a part.
pub part_one : (s : List ℕ) (at : ℕ) → at < length s → part s at 1 ≡ get_or s at 0 ∷ []
unfolding part
part_one s at h = rw (drop-cons s at 0)

-- parts of the widths given, one after the other from a place on
abbrev pub cut : List ℕ → ℕ → List ℕ → List (List ℕ)
cut s at [] = []
cut s at (w ∷ ws) = part s at w ∷ cut s (at + w) ws

-- the sum of widths
abbrev pub total : List ℕ → ℕ
total [] = 0
total (w ∷ ws) = w + total ws

-- Parts one after the other are one part.
pub cut_joined : (ws : List ℕ) (s : List ℕ) (at : ℕ) → joined (cut s at ws) ≡ part s at (total ws)
unfolding joined
cut_joined [] s at = unfold part in refl
cut_joined (w ∷ ws) s at = rw (cut_joined ws s (at + w), part_add s at w (total ws))

-- The part that is the whole buffer is all that it holds.
pub part_whole : (s : List ℕ) → part s 0 (length s) ≡ s
unfolding part
part_whole s = take-length s

-- Every byte of two runs is zero where every byte of each is.
pub zero_append : (a b : List ℕ) → all_zero (a ++ b) ≡ (all_zero a && all_zero b)
unfolding all_zero
zero_append [] b = refl
zero_append (x ∷ a) b = rw (zero_append a b, and_assoc)

-- The bytes of a part are bytes of the buffer.
front_bytes : (n : ℕ) (s : List ℕ) → AllBytes s → AllBytes (take n s)
front_bytes zero s h k = omega arith
front_bytes (suc n) [] h k = h k
front_bytes (suc n) (b ∷ s) h zero = h zero
front_bytes (suc n) (b ∷ s) h (suc k) = front_bytes n s (λ j. h (suc j)) k

pub part_bytes : (s : List ℕ) (at n : ℕ) → AllBytes s → AllBytes (part s at n)
unfolding part
part_bytes s at n h k = front_bytes n (drop at s) (λ j. rw (get_or-drop at s j 0) (h (at + j))) k

-- Bytes that are all zero are that many zeros.
pub zero_bytes : (s : List ℕ) → all_zero s ≡ true → s ≡ replicate (length s) 0
unfolding all_zero
zero_bytes [] e = refl
zero_bytes (b ∷ s) e =
    let both = (and-eq-true_iff (eqb b 0) (all_zero s)).0 e in
    let p : b ≡ 0 = eqb-true b 0 both.0 in
    rw (p, ← zero_bytes s both.1)

-- Two runs of bytes, one after the other, are bytes.
pub append_bytes : (a b : List ℕ) → AllBytes a → AllBytes b → AllBytes (a ++ b)
append_bytes [] b f g k = g k
append_bytes (x ∷ a) b f g zero = f zero
append_bytes (x ∷ a) b f g (suc k) = append_bytes a b (λ j. f (suc j)) g k

pub cons_bytes : (x : ℕ) (s : List ℕ) → x < 256 → AllBytes s → AllBytes (x ∷ s)
cons_bytes x s h f k = grind arith

pub none_bytes : AllBytes []
none_bytes k = omega arith

pub zeros_bytes : (n : ℕ) → AllBytes (replicate n 0)
zeros_bytes zero k = none_bytes k
zeros_bytes (suc n) zero = omega arith
zeros_bytes (suc n) (suc k) = zeros_bytes n k
