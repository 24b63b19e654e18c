-- Numbers in digits: what reading and writing them a byte at a time comes to, how long they are, and that a number that is
-- written is read back. Assumes nothing.
use Prim.Native.Char.{code}
use mathlib.Core.Path.{◌≡◌, refl, ap, ◌∙◌}
use mathlib.Core.List.{List, [], ◌∷◌, ◌++◌}
use mathlib.Core.Bool.{Bool, true, false, ◌&&◌, cond}
use Prim.Native.Nat.{ℕ, zero, suc, ◌+◌, ◌*◌, ◌-◌, ◌/◌, ◌%◌, ◌^◌, ◌<◌, ◌≤◌, max}
use native.Mathlib.Nat.{pow-zero, pow-suc, pow-succ', div-one, div-div-eq-div-mul, div-add-mod, div-lt_iff_lt-mul}
use native.Mathlib.Nat.{add-zero, add-suc, zero-add, suc-add, pow-le-pow_right, le-max_right, mul_assoc, mul-le-mul_right, lt_of_lt_of_le}
use native.Mathlib.Numerals.{add-one, one-add}
use native.Mathlib.Omega.{arith}
use lib.Dec.{leb}
use lib.ListN.{length, take, drop, get_or, set, length-append, length-drop, drop_of_length-le}
use lib.Seq.{drop-cons, get_or-drop, take-suc, take_at}
use borrow.Author.Tests.{leb-true, leb-false, le-leb, lt-leb}
use Rattle.digits.specs.Bytes.{put}
use Rattle.std.specs.Prelude.{Option, Some, None}
use Rattle.text.specs.declared.decimal.Digits.{Digits}
use Rattle.text.specs.Text.{is_digit, digit_value, digit_byte, digits_at_front, value_from, value_of, number_at_front}
use Rattle.text.specs.Text.{last_digits, powers_up_to, digit_count, decimal, distance, signed_decimal}
use Rattle.digits.proofs.PutLaws.{put_more}

-- Reading, a byte at a time: a digit counts one more; any other byte, and the end, ends the count.
pub digits_more : (s : List ℕ) (i : ℕ) → i < length s → is_digit (get_or s i 0) ≡ true
    → digits_at_front (drop i s) ≡ 1 + digits_at_front (drop (i + 1) s)
unfolding digits_at_front
digits_more s i h d = rw (add-one i, drop-cons s i 0 h, d) (omega arith)

pub digits_none : (s : List ℕ) (i : ℕ) → i < length s → is_digit (get_or s i 0) ≡ false → digits_at_front (drop i s) ≡ 0
unfolding digits_at_front
digits_none s i h d = rw (drop-cons s i 0 h, d)

pub digits_past : (s : List ℕ) (i : ℕ) → length s ≤ i → digits_at_front (drop i s) ≡ 0
unfolding digits_at_front
digits_past s i h = rw (drop_of_length-le s h)

-- The digits at the front of a text are within it.
pub digits_within : (s : List ℕ) → digits_at_front s ≤ length s
unfolding digits_at_front
digits_within [] = omega arith
digits_within (b ∷ s) = go (is_digit b) (digits_within s)
  where
    go : (t : Bool) → digits_at_front s ≤ length s → cond t (suc (digits_at_front s)) 0 ≤ suc (length s)
    go true h = omega arith
    go false h = omega arith

-- A test of both ends, as a fact.
pub between : (l h n : ℕ) → (leb l n && leb n h) ≡ true → (l ≤ n) × (n ≤ h)
between l h n e = go (leb l n) (leb n h) refl refl e
  where
    go : (t u : Bool) → leb l n ≡ t → leb n h ≡ u → (t && u) ≡ true → (l ≤ n) × (n ≤ h)
    go true true p q e = (leb-true l n p, leb-true n h q)
    go true false p q e = let z : ◌≡◌ {A = ℕ} 0 1 = cc in absurd (omega arith)
    go false u p q e = let z : ◌≡◌ {A = ℕ} 0 1 = cc in absurd (omega arith)

-- One digit more at the end of a number.
value_append : (t : List ℕ) (v b : ℕ) → value_from v (t ++ (b ∷ [])) ≡ 10 * value_from v t + digit_value b
unfolding value_from
value_append [] v b = refl
value_append (a ∷ t) v b = value_append t (10 * v + digit_value a) b

pub value_take : (t : List ℕ) (n : ℕ) → n < length t → value_of (take (suc n) t) ≡ 10 * value_of (take n t) + digit_value (get_or t n 0)
value_take t n h = rw (take-suc t n 0 h) (value_append (take n t) 0 (get_or t n 0))

-- what the digits from a place up to another are worth, and that they are no more than they are
abbrev pub Worth : List ℕ → ℕ → ℕ → ℕ → Type 0
Worth s at i v = (v < 10 ^ (i - at)) × (v ≡ value_of (take (i - at) (drop at s)))

-- A digit joins the number.
pub worth_more : (s : List ℕ) (at i v : ℕ) → at ≤ i → i < length s → is_digit (get_or s i 0) ≡ true → Worth s at i v
    → Worth s at (i + 1) (10 * v + digit_value (get_or s i 0))
worth_more s at i v a l d w =
    let n = i - at in
    let e : i + 1 - at ≡ suc n = omega arith in
    let p : at + n ≡ i = omega arith in
    let b = between (code "0") (code "9") (get_or s i 0) d in
    let q : get_or (drop at s) n 0 ≡ get_or s i 0 = get_or-drop at s n 0 ∙ ap (λ (k : ℕ). get_or s k 0) p in
    let t : n < length (drop at s) = omega (arith, length-drop at s) in
    rw e (
      rw (pow-suc 10 n) (omega (arith, w.0, b.0, b.1)),
      rw (value_take (drop at s) n t, q, ← w.1),
    )

-- The number by all the digits that stand, where they are ten at most.
pub number_counted : (s : List ℕ) (v n : ℕ) → n ≡ digits_at_front s → n ≤ 10 → v ≡ value_of (take n s)
    → cond (leb 1 n) (Some (record { value = v; count = n })) None ≡ number_at_front s
unfolding number_at_front
number_counted s v n e h w = rw (w, ← e, le-leb n 10 h) (go (leb 1 n))
  where
    d : Digits
    d = record { value = value_of (take n s); count = n }

    go : (t : Bool) → ◌≡◌ {A = Option Digits} (cond t (Some d) None) (cond (t && true) (Some d) None)
    go true = refl
    go false = refl

-- Eleven digits and more are no number.
pub number_long : (s : List ℕ) → 10 < digits_at_front s → None ≡ number_at_front s
unfolding number_at_front
number_long s h = rw (lt-leb (digits_at_front s) 10 h) (go (leb 1 (digits_at_front s)))
  where
    d : Digits
    d = record { value = value_of (take (digits_at_front s) s); count = digits_at_front s }

    go : (t : Bool) → ◌≡◌ {A = Option Digits} None (cond (t && false) (Some d) None)
    go true = refl
    go false = refl

-- What digits write is below the power of ten that has one more digit.
value_below : (s : List ℕ) (v : ℕ) → value_from v (take (digits_at_front s) s) < (v + 1) * 10 ^ digits_at_front s
unfolding digits_at_front value_from
value_below [] v = omega arith
value_below (b ∷ s) v = go (is_digit b) refl (value_below s (10 * v + digit_value b))
  where
    go : (t : Bool) → is_digit b ≡ t
        → value_from (10 * v + digit_value b) (take (digits_at_front s) s) < (10 * v + digit_value b + 1) * 10 ^ digits_at_front s
        → value_from v (take (cond t (suc (digits_at_front s)) 0) (b ∷ s)) < (v + 1) * 10 ^ cond t (suc (digits_at_front s)) 0
    go true e h =
        let d = between (code "0") (code "9") b e in
        rw (pow-succ' 10 (digits_at_front s), ← mul_assoc)
        (lt_of_lt_of_le h (mul-le-mul_right (10 ^ digits_at_front s) (omega (arith, d.0, d.1))))
    go false e h = omega arith

-- A number that is found has 1 to 10 digits, all of them in the text, and is below 10 to the 10.
pub record Found (s : List ℕ) (value count : ℕ) : Type 0 where
  pub some : 1 ≤ count
  pub few : count ≤ 10
  pub inside : count ≤ length s
  pub below : value < 10 ^ 10

pub number_found : (s : List ℕ) (d : Digits) → number_at_front s ≡ Some d → Found s d.value d.count
unfolding number_at_front
number_found s d e = go (leb 1 (digits_at_front s) && leb (digits_at_front s) 10) refl e
  where
    go : (t : Bool) → (leb 1 (digits_at_front s) && leb (digits_at_front s) 10) ≡ t
        → cond t (Some (record { value = value_of (take (digits_at_front s) s); count = digits_at_front s })) None ≡ Some d → Found s d.value d.count
    go true p e =
        let b = between 1 10 (digits_at_front s) p in
        let c : d.count ≡ digits_at_front s = cc in
        let w : d.value ≡ value_of (take (digits_at_front s) s) = cc in
        record {
          some = omega (arith, b.0);
          few = omega (arith, b.1);
          inside = omega (arith, digits_within s);
          below = omega (arith, value_below s 0, pow-le-pow_right {n = 10} (omega arith) b.1);
        }
    go false p e = let z : ◌≡◌ {A = ℕ} 0 1 = cc in absurd (omega arith)

-- Counting the digits of a number, a power of ten at a time.
one_small : (t : Bool) → cond t 1 0 ≤ 1
one_small true = omega arith
one_small false = omega arith

pub powers_more : (k n : ℕ) → powers_up_to k n + cond (leb (10 ^ suc k) n) 1 0 ≡ powers_up_to (k + 1) n
unfolding powers_up_to
powers_more k n = rw add-one

pub powers_within : (k n : ℕ) → powers_up_to k n ≤ k
unfolding powers_up_to
powers_within zero n = omega arith
powers_within (suc k) n = omega (arith, powers_within k n, one_small (leb (10 ^ suc k) n))

-- Where a power of ten is above the number, no later one counts.
pub powers_end : (k j n : ℕ) → n < 10 ^ suc k → powers_up_to (k + j) n ≡ powers_up_to k n
unfolding powers_up_to
powers_end k zero n h = rw (add-zero k)
powers_end k (suc j) n h =
    let above : n < 10 ^ suc (k + j) = omega (arith, pow-le-pow_right {n = 10} (omega arith) {i = suc k} {j = suc (k + j)} (omega arith)) in
    rw (add-suc k j, lt-leb (10 ^ suc (k + j)) n above, powers_end k j n h) (omega arith)

-- A number has 1 to 10 digits.
pub digit_count_within : (n : ℕ) → (1 ≤ digit_count n) × (digit_count n ≤ 10)
unfolding digit_count
digit_count_within n = omega (arith, powers_within 9 n)

-- Writing, from the last digit to the first.
pub last_digits_more : (j n : ℕ) → last_digits (suc j) n ≡ digit_byte (n / 10 ^ j % 10) ∷ last_digits j n
unfolding last_digits
last_digits_more zero n = rw (pow-zero 10, div-one n)
last_digits_more (suc j) n = rw (last_digits_more j (n / 10), div-div-eq-div-mul n 10 (10 ^ j), pow-succ' 10 j)

pub quotient_more : (n j : ℕ) → n / 10 ^ j / 10 ≡ n / 10 ^ suc j
quotient_more n j = rw (div-div-eq-div-mul, pow-suc)

-- The digits after place i of k are put, and one more before them.
pub written_more : (t : List ℕ) (k i n : ℕ) → 0 < i → i ≤ k → k ≤ length t
    → set (put t i (last_digits (k - i) n)) (i - 1) (digit_byte (n / 10 ^ (k - i) % 10)) ≡ put t (i - 1) (last_digits (k - (i - 1)) n)
written_more t k i n p q r =
    let e : i - 1 + 1 ≡ i = omega arith in
    let f : k - (i - 1) ≡ suc (k - i) = omega arith in
    rw (f, last_digits_more (k - i) n)
    (rw e at (put_more t (last_digits (k - i) n) (i - 1) (digit_byte (n / 10 ^ (k - i) % 10)) (omega arith)))

-- How long the texts are.
pub length_last_digits : (k n : ℕ) → length (last_digits k n) ≡ k
unfolding last_digits
length_last_digits zero n = refl
length_last_digits (suc k) n = rw (length-append, length_last_digits k (n / 10), add-one)

pub length_decimal : (k n : ℕ) → length (decimal k n) ≡ max k (digit_count n)
unfolding decimal
length_decimal k n = length_last_digits (max k (digit_count n)) n

pub length_signed : (k p : ℕ) → length (signed_decimal k p) ≡ 1 + length (decimal k (distance p))
unfolding signed_decimal
length_signed k p = rw one-add

-- Ten bytes are room enough for a number, and eleven for a signed one.
pub decimal_within : (k n : ℕ) → k ≤ 10 → length (decimal k n) ≤ 10
decimal_within k n h = omega (arith, length_decimal k n, (digit_count_within n).1)

pub signed_within : (k p : ℕ) → k ≤ 10 → length (signed_decimal k p) ≤ 11
signed_within k p h = omega (arith, length_signed k p, decimal_within k (distance p) h)

-- Reading back: every byte that is written for a number is a digit.
digit_is : (n : ℕ) → n < 10 → is_digit (digit_byte n) ≡ true
digit_is n h = rw (le-leb (code "0") (digit_byte n) (omega arith), le-leb (digit_byte n) (code "9") (omega arith))

pub last_digits_are : (k n i : ℕ) → i < k → is_digit (get_or (last_digits k n) i 0) ≡ true
last_digits_are zero n i h = absurd (omega arith)
last_digits_are (suc k) n zero h = rw (last_digits_more k n) (digit_is (n / 10 ^ k % 10) (omega arith))
last_digits_are (suc k) n (suc i) h = rw (last_digits_more k n) (last_digits_are k n i (omega arith))

-- So the digits at the front are those, and then those of what follows.
pub digits_written : (k n : ℕ) (t : List ℕ) → digits_at_front (last_digits k n ++ t) ≡ k + digits_at_front t
unfolding last_digits digits_at_front
digits_written zero n t = rw zero-add
digits_written (suc k) n t = rw (last_digits_more k n, digit_is (n / 10 ^ k % 10) (omega arith), digits_written k n t, suc-add)

-- The last digit of a text is worth one, and those before it ten times as much as without it.
value_last : (v : ℕ) (s : List ℕ) (b : ℕ) → value_from v (s ++ (b ∷ [])) ≡ 10 * value_from v s + digit_value b
unfolding value_from
value_last v [] b = refl
value_last v (a ∷ s) b = value_last (10 * v + digit_value a) s b

-- A number that k digits can write is read back from its last k digits.
pub value_written : (k n : ℕ) → n < 10 ^ k → value_of (last_digits k n) ≡ n
unfolding last_digits value_from
value_written zero n h = omega arith
value_written (suc k) n h =
    let below : n / 10 < 10 ^ k = (div-lt_iff_lt-mul {k = 10} (omega arith)).1 (rw (pow-suc 10 k) at h) in
    rw (value_last 0 (last_digits k (n / 10)) (digit_byte (n % 10)), value_written k (n / 10) below) (omega (arith, div-add-mod n 10))

pub power_below : (k : ℕ) → 10 ^ k ≤ 10 ^ suc k
power_below k = pow-le-pow_right {n = 10} (omega arith) (omega arith)

-- No number is written with too few digits: one above 10 to the k has all the powers up to that.
pub powers_all : (k n : ℕ) → 10 ^ k ≤ n → powers_up_to k n ≡ k
unfolding powers_up_to
powers_all zero n h = refl
powers_all (suc k) n h =
    rw (le-leb (10 ^ suc k) n h, powers_all k n (omega (arith, power_below k)), add-one)

pub count_enough : (k n : ℕ) → n < 10 ^ suc k → n < 10 ^ suc (powers_up_to k n)
unfolding powers_up_to
count_enough zero n h = h
count_enough (suc k) n h = go (leb (10 ^ suc k) n) refl (count_enough k n)
  where
    go : (t : Bool) → leb (10 ^ suc k) n ≡ t
        → (n < 10 ^ suc k → n < 10 ^ suc (powers_up_to k n)) → n < 10 ^ suc (powers_up_to k n + cond t 1 0)
    go true e f =
        rw (powers_all k n (omega (arith, leb-true (10 ^ suc k) n e, power_below k)), add-one) h
    go false e f = rw add-zero (f (leb-false (10 ^ suc k) n e))

-- Every number below 10 to the 10 is read back, with however many digits it was written at least.
pub decimal_back : (k n : ℕ) → n < 10 ^ 10 → value_of (decimal k n) ≡ n
unfolding decimal digit_count
decimal_back k n h =
    value_written (max k (digit_count n)) n
    (omega (arith, count_enough 9 n h, pow-le-pow_right {n = 10} (omega arith) (le-max_right k (digit_count n))))

-- And the reader finds it, where no further digit follows: its value, and how many digits it has.
decimal_digits : (k n : ℕ) (t : List ℕ) → digits_at_front t ≡ 0 → digits_at_front (decimal k n ++ t) ≡ length (decimal k n)
unfolding decimal
decimal_digits k n t e =
    let w = max k (digit_count n) in
    rw (digits_written w n t, e, add-zero, length_last_digits w n)

pub number_back : (k n : ℕ) (t : List ℕ) → k ≤ 10 → n < 10 ^ 10 → digits_at_front t ≡ 0
    → number_at_front (decimal k n ++ t) ≡ Some (record { value = n; count = length (decimal k n) })
unfolding number_at_front
number_back k n t h l e =
    let s = decimal k n in
    let low : 1 ≤ length s = omega (arith, length_decimal k n, (digit_count_within n).0) in
    rw (
      decimal_digits k n t e,
      le-leb 1 (length s) low,
      le-leb (length s) 10 (decimal_within k n h),
      take_at s t (length s) refl,
      decimal_back k n l,
    )
