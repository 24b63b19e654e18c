-- The nets of the channels, a channel at a time, and how far they go. Assumes nothing.
use Prim.Native.Nat.{ℕ, zero, suc, ◌+◌, ◌*◌, ◌-◌, ◌%◌, ◌<◌, ◌≤◌}
use mathlib.Core.Path.{◌≡◌, refl}
use mathlib.Core.Bool.{Bool, true, false, cond, and-eq-true_iff}
use mathlib.Core.List.{List, [], ◌∷◌, ◌++◌, flat_map}
use native.Mathlib.Omega.{arith}
use lib.Dec.{eqb}
use lib.ListN.{replicate, length, take, drop, get_or, set}
use lib.Seq.{drop-drop, take_at, drop_at}
use borrow.Author.Tests.{eqb-true}
use Rattle.digits.proofs.WordLaws.{word_bytes_law, word_bytes_length}
use Rattle.digits.specs.Bytes.{part, every, all_zero}
use Rattle.digits.specs.Words.{word, word_bytes}
use Rattle.digits.specs.Places.{origin, place_of, cw, count_of}
use Rattle.jobs.specs.Texts.{nets_after}
use Rattle.jobs.specs.Bounds.{Near, NetsWithin, CountsWithin}

-- the place of a channel's count
abbrev pub count_at : List ℕ → ℕ → ℕ
count_at pulses c = place_of (word (part pulses (4 * c) 4))

-- the counts after the first are those of the rest of the buffer
count_rest : (pulses : List ℕ) (c : ℕ) → count_at (drop 4 pulses) c ≡ count_at pulses (suc c)
unfolding part
count_rest pulses c =
    let e : 4 + 4 * c ≡ 4 * suc c = omega arith in
    rw (drop-drop (4 * c) 4 pulses, e)

count_first : (pulses : List ℕ) → place_of (word (take 4 pulses)) ≡ count_at pulses 0
unfolding part
count_first pulses = refl

-- the nets as many channels as are counted: the first k have their counts, the others stand as they did
unfoldable pub nets_up_to : ℕ → List ℕ → List ℕ → List ℕ
nets_up_to k nets pulses = nets_after (take k nets) pulses ++ drop k nets

pub up_to_none : (nets pulses : List ℕ) → nets_up_to 0 nets pulses ≡ nets
unfolding nets_up_to nets_after
up_to_none nets pulses = refl

pub up_to_all : (nets pulses : List ℕ) → nets_up_to (length nets) nets pulses ≡ nets_after nets pulses
unfolding nets_up_to nets_after
up_to_all [] pulses = refl
up_to_all (n ∷ ns) pulses = rw (up_to_all ns (drop 4 pulses))

-- the next channel has not been counted yet
pub up_to_next : (k : ℕ) (nets pulses : List ℕ) → get_or (nets_up_to k nets pulses) k 0 ≡ get_or nets k 0
unfolding nets_up_to nets_after
up_to_next zero nets pulses = refl
up_to_next (suc k) [] pulses = refl
up_to_next (suc k) (n ∷ ns) pulses = up_to_next k ns (drop 4 pulses)

-- and with its count there is one channel more
pub up_to_more : (k : ℕ) (nets pulses : List ℕ) → k < length nets
    → set (nets_up_to k nets pulses) k (get_or nets k 0 + count_at pulses k - origin) ≡ nets_up_to (suc k) nets pulses
unfolding nets_up_to nets_after
up_to_more k [] pulses h = absurd (omega arith)
up_to_more zero (n ∷ ns) pulses h = rw (count_first pulses)
up_to_more (suc k) (n ∷ ns) pulses h =
    rw (← count_rest pulses k, up_to_more k ns (drop 4 pulses) (omega arith))

-- No net goes further than the one before and its count together.
pub nets_within : (nets pulses : List ℕ) (b d : ℕ) → NetsWithin b nets → CountsWithin d pulses → b + d ≤ origin
    → NetsWithin (b + d) (nets_after nets pulses)
unfolding nets_after
nets_within [] pulses b d f g h c = omega arith
nets_within (n ∷ ns) pulses b d f g h zero = rw (count_first pulses) (omega (arith, f 0, g 0))
nets_within (n ∷ ns) pulses b d f g h (suc c) =
    nets_within ns (drop 4 pulses) b d (λ k. f (suc k)) (λ k. rw (count_rest pulses k) (g (suc k))) h c

-- What lies within a distance lies within a longer one.
pub within_more : (nets : List ℕ) (b d : ℕ) → b ≤ d → NetsWithin b nets → NetsWithin d nets
within_more nets b d h f c = omega (arith, f c)

-- Where no channel has had a pulse, every net lies at the origin, and so does the place of every count of a buffer of zeros.
pub none_within : (n b : ℕ) → NetsWithin b (replicate n origin)
none_within zero b c = omega arith
none_within (suc n) b zero = omega arith
none_within (suc n) b (suc c) = none_within n b c

zero_word : (k : ℕ) (s : List ℕ) → all_zero s ≡ true → word (take k s) ≡ 0
unfolding word all_zero
zero_word zero s e = refl
zero_word (suc k) [] e = refl
zero_word (suc k) (b ∷ s) e =
    let both = (and-eq-true_iff (eqb b 0) (all_zero s)).0 e in
    let z : b ≡ 0 = eqb-true b 0 both.0 in
    let w = zero_word k s both.1 in
    omega arith

zeros_zero : (n k : ℕ) → all_zero (drop k (replicate n 0)) ≡ true
unfolding all_zero
zeros_zero zero zero = refl
zeros_zero zero (suc k) = refl
zeros_zero (suc n) zero = zeros_zero n zero
zeros_zero (suc n) (suc k) = zeros_zero n k

pub zeros_within : (n b : ℕ) → CountsWithin b (replicate n 0)
unfolding part place_of
zeros_within n b c = rw (zero_word 4 (drop (4 * c) (replicate n 0)) (zeros_zero n (4 * c))) (omega arith)

-- The count for n pulses in either direction lies n from the origin, and fits its four bytes.
pub count_near : (going n b : ℕ) → n ≤ b → b < 2147483648 → Near b (place_of (count_of going n)) × (count_of going n < 4294967296)
unfolding count_of place_of
count_near going n b h l = go (eqb going cw)
  where
    go : (t : Bool) → Near b ((cond t n ((4294967296 - n) % 4294967296) + 2147483648) % 4294967296) × (cond t n ((4294967296 - n) % 4294967296) < 4294967296)
    go true = omega arith
    go false = omega arith

-- the first word of a buffer, and the words after it
first_word : (n : ℕ) (s : List ℕ) → n < 4294967296 → count_at (word_bytes 4 n ++ s) 0 ≡ place_of n
unfolding part
first_word n s h = rw (take_at (word_bytes 4 n) s 4 (word_bytes_length 4 n), word_bytes_law 4 n h)

next_words : (n : ℕ) (s : List ℕ) (c : ℕ) → count_at (word_bytes 4 n ++ s) (suc c) ≡ count_at s c
next_words n s c = rw (← count_rest (word_bytes 4 n ++ s) c, drop_at (word_bytes 4 n) s 4 (word_bytes_length 4 n))

-- The counts of a buffer that is written a word for each record are near where each record's word is, if it passes a test.
pub words_within : (test : List ℕ → Bool) (f : List ℕ → ℕ) (b : ℕ)
    → ((r : List ℕ) → test r ≡ true → Near b (place_of (f r)) × (f r < 4294967296))
    → (rs : List (List ℕ)) → every test rs ≡ true → CountsWithin b (flat_map (λ r. word_bytes 4 (f r)) rs)
unfolding every flat_map
words_within test f b h [] e c = zeros_within 0 b c
words_within test f b h (r ∷ rs) e zero =
    let both = (and-eq-true_iff (test r) (every test rs)).0 e in
    let w = h r both.0 in
    rw (first_word (f r) (flat_map (λ r. word_bytes 4 (f r)) rs) w.1) w.0
words_within test f b h (r ∷ rs) e (suc c) =
    let both = (and-eq-true_iff (test r) (every test rs)).0 e in
    rw (next_words (f r) (flat_map (λ r. word_bytes 4 (f r)) rs) c) (words_within test f b h rs both.1 c)
