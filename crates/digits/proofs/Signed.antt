-- A place is the language's own signed reading of a word, plus the shift; a count in the pulse buffer is the signed number
-- of pulses. So a reader need not trust the shift: `to_z w32` is what the language itself takes the four bytes of an i32 for.
-- Assumes nothing.
use Rattle.std.proofs.Common.{◌≡◌, ℕ, zero, suc, ◌+◌, ◌-◌, ◌<◌, ◌≤◌, Bool, true, false, ltb, [], ◌∷◌, pos, negsuc, ◌+ℤ◌, neg_ℤ, refl, ap, mod-eq_of_lt, arith, w32, to_z, ltb-false, ltb-true, le-ltb, lt-ltb}
use Rattle.digits.specs.Words.{word, word_bytes}
use Rattle.digits.specs.Places.{origin, place_of, word_of, count_of, cw, ccw}
use Rattle.digits.proofs.WordLaws.{word_bytes_law}

-- the two halves of the range: the shift is up for the one that is not negative, down for the other
low : (w : ℕ) → w < 2147483648 → place_of w ≡ w + 2147483648
unfolding place_of
low w h = mod-eq_of_lt (omega arith)

high : (w : ℕ) → 2147483648 ≤ w → w < 4294967296 → place_of w ≡ w - 2147483648
unfolding place_of
high w h l = omega arith

-- For every word: its place is its signed reading plus 2,147,483,648.
pub place_signed : (w : ℕ) → w < 4294967296 → pos (place_of w) ≡ to_z w32 w +ℤ pos origin
place_signed w h = go (ltb w 2147483648) refl
  where
    go : (t : Bool) → ltb w 2147483648 ≡ t → pos (place_of w) ≡ to_z w32 w +ℤ pos origin
    go true e = rw (e, low w (ltb-true w 2147483648 e)) refl
    go false e =
        let k : 2147483648 ≤ w = ltb-false w 2147483648 e in
        rw (e, le-ltb origin (suc (4294967296 - suc w)) (omega arith), high w k h)
        (ap pos (omega arith))

-- The same of the four bytes that stand in the table.
word_fits : (a b c d : ℕ) → a < 256 → b < 256 → c < 256 → d < 256 → word (a ∷ b ∷ c ∷ d ∷ []) < 4294967296
unfolding word
word_fits a b c d ha hb hc hd = omega arith

pub bytes_signed : (a b c d : ℕ) → a < 256 → b < 256 → c < 256 → d < 256
    → pos (place_of (word (a ∷ b ∷ c ∷ d ∷ []))) ≡ to_z w32 (word (a ∷ b ∷ c ∷ d ∷ [])) +ℤ pos origin
bytes_signed a b c d ha hb hc hd = place_signed (word (a ∷ b ∷ c ∷ d ∷ [])) (word_fits a b c d ha hb hc hd)

-- A word and its place say the same: each is got back from the other.
pub word_place : (w : ℕ) → w < 4294967296 → word_of (place_of w) ≡ w
unfolding word_of place_of
word_place w h = omega arith

pub place_word : (p : ℕ) → p < 4294967296 → place_of (word_of p) ≡ p
unfolding word_of place_of
place_word p h = omega arith

-- The pulse buffer: the count of n CW pulses reads as n, and of n CCW pulses as less n.
pub count_cw : (n : ℕ) → n < 2147483648 → to_z w32 (count_of cw n) ≡ pos n
unfolding count_of
count_cw n h = rw (lt-ltb n 2147483648 h) refl

ccw_word : (n : ℕ) → n < 2147483647 → count_of ccw (suc n) ≡ 4294967296 - suc n
unfolding count_of
ccw_word n h = omega arith

pub count_ccw : (n : ℕ) → n < 2147483648 → to_z w32 (count_of ccw n) ≡ neg_ℤ (pos n)
count_ccw zero h = unfold count_of in refl
count_ccw (suc n) h =
    rw (ccw_word n (omega arith), le-ltb (4294967296 - suc n) 2147483648 (omega arith)) (ap negsuc (omega arith))

-- The same of the four bytes that stand in the pulse buffer.
count_fits : (going n : ℕ) → n < 2147483648 → count_of going n < 4294967296
unfolding count_of
count_fits going n h = grind arith

pub pulses_signed_cw : (n : ℕ) → n < 2147483648 → to_z w32 (word (word_bytes 4 (count_of cw n))) ≡ pos n
pulses_signed_cw n h = rw (word_bytes_law 4 (count_of cw n) (count_fits cw n h)) (count_cw n h)

pub pulses_signed_ccw : (n : ℕ) → n < 2147483648 → to_z w32 (word (word_bytes 4 (count_of ccw n))) ≡ neg_ℤ (pos n)
pulses_signed_ccw n h = rw (word_bytes_law 4 (count_of ccw n) (count_fits ccw n h)) (count_ccw n h)

-- A place is read back from the four bytes that it is written in, and the four bytes of a signed number are those that its
-- place is written in.
pub place_bytes_law : (p : ℕ) → p < 4294967296 → place_of (word (word_bytes 4 (word_of p))) ≡ p
place_bytes_law p h = rw (word_bytes_law 4 (word_of p) (unfold word_of in (omega arith))) (place_word p h)
