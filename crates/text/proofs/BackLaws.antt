-- What is written in digits, as a reader finds it: a hex digit, how many digits a number has, and its first two. Assumes nothing.
use Prim.Native.Char.{code}
use mathlib.Core.Path.{◌≡◌, refl}
use mathlib.Core.Bool.{Bool, true, false, cond}
use Prim.Native.Nat.{ℕ, zero, suc, ◌+◌, ◌-◌, ◌/◌, ◌^◌, ◌<◌, ◌≤◌, max}
use native.Mathlib.Nat.{add-zero, pow-zero, div-lt_iff_lt-mul, le-div_iff_mul-le, mod-eq_of_lt, one-mul, pow-succ', pow-le-pow_right, lt_of_lt_of_le}
use native.Mathlib.Numerals.{add-one}
use native.Mathlib.Omega.{arith}
use lib.Dec.{leb, ltb}
use lib.ListN.{length, get_or}
use borrow.Author.Tests.{leb-true, le-leb, lt-leb, ltb-true, ltb-false}
use Rattle.text.specs.Text.{is_digit, is_hex, hex_value, hex_digit, digit_byte, powers_up_to, digit_count, decimal}
use Rattle.text.proofs.TextLaws.{last_digits_more, last_digits_are, length_decimal, powers_within, powers_end, powers_all, power_below, count_enough}

-- The hex digit of a number below 16 is one, and stands for it.
pub hex_back : (n : ℕ) → n < 16 → (is_hex (hex_digit n) ≡ true) × (hex_value (hex_digit n) ≡ n)
unfolding hex_digit hex_value
hex_back n h = go (ltb n 10) refl
  where
    go : (t : Bool) → ltb n 10 ≡ t
        → (is_hex (cond t (digit_byte n) (code "A" + (n - 10))) ≡ true) × (hex_value (cond t (digit_byte n) (code "A" + (n - 10))) ≡ n)
    go true e =
        let l = ltb-true n 10 e in
        let d : is_digit (digit_byte n) ≡ true = rw (le-leb (code "0") (digit_byte n) (omega arith), le-leb (digit_byte n) (code "9") (omega arith)) in
        (rw d, rw d (omega arith))
    go false e =
        let l = ltb-false n 10 e in
        let b = code "A" + (n - 10) in
        let d : is_digit b ≡ false = rw (lt-leb b (code "9") (omega arith), le-leb (code "0") b (omega arith)) in
        (rw (d, le-leb (code "A") b (omega arith), le-leb b (code "F") (omega arith)), rw d (omega arith))

-- ---- how many digits a number has

-- so many powers of ten are not above it
powers_reach : (k n : ℕ) → 1 ≤ n → 10 ^ powers_up_to k n ≤ n
unfolding powers_up_to
powers_reach zero n h = rw (pow-zero 10) h
powers_reach (suc k) n h = go (leb (10 ^ suc k) n) refl (powers_reach k n h)
  where
    go : (t : Bool) → leb (10 ^ suc k) n ≡ t → 10 ^ powers_up_to k n ≤ n → 10 ^ (powers_up_to k n + cond t 1 0) ≤ n
    go true e f =
        let l : 10 ^ suc k ≤ n = leb-true (10 ^ suc k) n e in
        rw (powers_all k n (omega (arith, power_below k)), add-one) l
    go false e f = rw add-zero f

-- a number below 10 to the 5 has five at most
pub five_within : (n : ℕ) → n < 100000 → length (decimal 1 n) ≤ 5
unfolding digit_count
five_within n h = omega (arith, length_decimal 1 n, powers_end 4 5 n h, powers_within 4 n)

-- one from 10 on has two at least
pub two_reached : (n : ℕ) → 10 ≤ n → n < 10000000000 → 2 ≤ length (decimal 1 n)
unfolding digit_count
two_reached n h l = omega (arith, length_decimal 1 n, more (powers_up_to 9 n) (count_enough 9 n l))
  where
    more : (j : ℕ) → n < 10 ^ suc j → 1 ≤ j
    more zero k = absurd (omega arith)
    more (suc j) k = omega arith

-- ---- its first digits

-- a number from 1 on begins with no zero
pub first_digit : (n : ℕ) → 1 ≤ n → n < 10000000000 → code "0" < get_or (decimal 1 n) 0 0
unfolding decimal digit_count
first_digit n h l =
    let j = powers_up_to 9 n in
    let w : max 1 (suc j) ≡ suc j = omega arith in
    let low : 1 ≤ n / 10 ^ j = (le-div_iff_mul-le (power_pos j)).1 (rw one-mul (powers_reach 9 n h)) in
    let high : n / 10 ^ j < 10 = (div-lt_iff_lt-mul (power_pos j)).1 (rw (pow-succ' 10 j) at (count_enough 9 n l)) in
    rw (w, last_digits_more j n) (omega (arith, low, high, mod-eq_of_lt high))
  where
    power_pos : (i : ℕ) → 0 < 10 ^ i
    power_pos i = lt_of_lt_of_le (omega arith) (pow-le-pow_right {n = 10} (omega arith) {i = 0} {j = i} (omega arith))

-- every byte of a number is a digit
pub digit_at_law : (k n i : ℕ) → i < length (decimal k n) → is_digit (get_or (decimal k n) i 0) ≡ true
unfolding decimal
digit_at_law k n i h = last_digits_are (max k (digit_count n)) n i (omega (arith, length_decimal k n))
