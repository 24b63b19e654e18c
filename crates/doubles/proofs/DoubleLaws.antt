-- What a pattern of bits is as a whole number, by its sign, its exponent's field and its digits. Assumes nothing.
use mathlib.Core.Path.{◌≡◌, refl, sym, ap, ◌∙◌}
use mathlib.Core.Bool.{Bool, true, false, cond}
use Prim.Native.Nat.{ℕ, zero, suc, ◌+◌, ◌-◌, ◌*◌, ◌/◌, ◌%◌, ◌^◌, ◌≤◌, ◌<◌, min}
use native.Mathlib.Nat.{mul_comm, mul_assoc, mul_right_comm, mul-one, zero-mul, add-mul, suc-mul, div-add-mod', div-one, mod-one, mod-eq_of_lt, div-eq_of_lt, mod-lt, lt_of_lt_of_le, mul-le-mul_left, le_trans, le_of_eq, lt_of_le_of_lt}
use native.Mathlib.Omega.{arith}
use lib.Dec.{leb, eqb, lit≤}
use lib.Pow.{pow-add, pow_pos, pow_mono, shr_lt}
use borrow.Author.Tests.{eq-eqb, ne_eqb}
use lib.Ieee.{Float, nan, inf, fin, binary64, up, down, odd, of_fields, of_bits}
use lib.Ieee.Fits.{down_pos}
use lib.Ieee.Exact.{HasValue, odd_sign}
use lib.Ieee.Nearest.{div_same}
use Rattle.std.specs.Prelude.{None}
use Rattle.doubles.specs.Doubles.{is_whole, size_of, is_minus}
use Rattle.doubles.specs.Measures.{largest, whole, measure_of, fraction}

-- ---- a fraction may be written in several ways, which are whole together

-- n / d is a / c: then what is left of n is to d as what is left of a is to c
rests : (n d a c : ℕ) → 0 < d → 0 < c → n * c ≡ a * d → n % d * c ≡ a % c * d
rests n d a c D C e =
    let q = n / d in
    let same : a / c ≡ q = sym (div_same n d a c D C e) in
    let left : q * d * c + n % d * c ≡ n * c = sym (add-mul (q * d) (n % d) c) ∙ ap (λ (x : ℕ). x * c) (div-add-mod' n d) in
    let right : q * c * d + a % c * d ≡ a * d =
    sym (add-mul (q * c) (a % c) d) ∙ ap (λ (x : ℕ). (x * c + a % c) * d) (sym same) ∙ ap (λ (x : ℕ). x * d) (div-add-mod' a c) in
    let swap : q * d * c ≡ q * c * d = mul_right_comm q d c in
    go (q * d * c) (q * c * d) (n % d * c) (a % c * d) swap (left ∙ e ∙ sym right)
  where
    go : (x y u v : ℕ) → x ≡ y → x + u ≡ y + v → u ≡ v
    go x y u v p h = omega arith

none : (r d s c : ℕ) → 0 < d → r * c ≡ s * d → r ≡ 0 → s ≡ 0
none r d zero c D e z = refl
none r d (suc s) c D e z = absurd (go (s * d) (r * c) (ap (λ (x : ℕ). x * c) z ∙ zero-mul c) (e ∙ suc-mul s d))
  where
    go : (x y : ℕ) → y ≡ 0 → y ≡ x + d → ⊥
    go x y p h = omega arith

same_test : (r s : ℕ) → (r ≡ 0 → s ≡ 0) → (s ≡ 0 → r ≡ 0) → eqb r 0 ≡ eqb s 0
same_test zero s f g = sym (eq-eqb s 0 (f refl))
same_test (suc r) s f g = ne_eqb (suc r) 0 (λ h. omega arith) ∙ sym (ne_eqb s 0 (λ h. absurd (no (g h))))
  where
    no : suc r ≡ 0 → ⊥
    no h = omega arith

pub fraction_same : (m : Bool) (n d a c : ℕ) → 0 < d → 0 < c → n * c ≡ a * d → fraction m n d ≡ fraction m a c
fraction_same m n d a c D C e =
    let r = rests n d a c D C e in
    rw (same_test (n % d) (a % c) (none (n % d) d (a % c) c D r) (none (a % c) c (n % d) d C (sym r)), div_same n d a c D C e)

-- a double with the value a / c
pub measured : (x : Float) (s : Bool) (a c : ℕ) → 0 < c → HasValue x s a c → measure_of x ≡ fraction s a c
unfolding measure_of is_whole size_of is_minus
measured nan s a c C h = absurd h
measured (inf t) s a c C h = absurd h
measured (fin t m e) s a c C h = rw h.0 (fraction_same s (m * up e) (down e) a c (down_pos e) C h.1)

-- ---- by the exponent's field

top : (s b : Bool) → measure_of (cond b (inf s) nan) ≡ None
unfolding measure_of is_whole
top s true = refl
top s false = refl

-- the highest: an infinity, or a NaN
pub at_top : (s : Bool) (x t : ℕ) → x ≡ 2047 → measure_of (of_fields binary64 s x t) ≡ None
unfolding of_fields
at_top s zero t h = absurd (omega arith)
at_top s (suc x) t h = rw (eq-eqb (suc x) 2047 h) (top s (eqb t 0))

-- another one that is not 0: the digits under a leading one
pub between : (s : Bool) (x t : ℕ) → (suc x ≡ 2047 → ⊥) → measure_of (of_fields binary64 s (suc x) t) ≡ fraction s ((2 ^ 52 + t) * 2 ^ x) (2 ^ 1074)
unfolding of_fields
between s x t h = rw (ne_eqb (suc x) 2047 h) (measured (odd 53 s (2 ^ 52 + t) x 1074) s ((2 ^ 52 + t) * 2 ^ x) (2 ^ 1074) (pow_pos 1074) (odd_sign 53 s (2 ^ 52 + t) x 1074))

-- 0: the digits alone
pub lowest : (s : Bool) (t : ℕ) → measure_of (of_fields binary64 s 0 t) ≡ fraction s (t * 2 ^ 0) (2 ^ 1074)
unfolding of_fields
lowest s t = measured (odd 53 s t 0 1074) s (t * 2 ^ 0) (2 ^ 1074) (pow_pos 1074) (odd_sign 53 s t 0 1074)

-- ---- by the size of the field; q stands for the digits with their leading one

-- 2 to the 52 and more
large : (s : Bool) (q i : ℕ) → largest ≤ q → fraction s (q * 2 ^ (1074 + i)) (2 ^ 1074) ≡ whole s largest
large s q i h =
    let n = q * 2 ^ i in
    let e : q * 2 ^ (1074 + i) * 1 ≡ n * 2 ^ 1074 = mul-one (q * 2 ^ (1074 + i)) ∙ ap (λ (x : ℕ). q * x) (pow-add 2 1074 i ∙ mul_comm (2 ^ 1074) (2 ^ i)) ∙ sym (mul_assoc q (2 ^ i) (2 ^ 1074)) in
    let wide : largest ≤ n = le_trans h (le_trans (le_of_eq (sym (mul-one q))) (mul-le-mul_left q (pow_pos i))) in
    fraction_same s (q * 2 ^ (1074 + i)) (2 ^ 1074) n 1 (pow_pos 1074) (omega arith) e
    ∙ rw (mod-one n, div-one n) (ap (λ (x : ℕ). whole s x) (cap n wide))
  where
    cap : (n : ℕ) → largest ≤ n → min n largest ≡ largest
    cap n h = omega arith

-- k of the digits past the point
mixed : (s : Bool) (q j k : ℕ) → j + k ≡ 1074 → fraction s (q * 2 ^ j) (2 ^ 1074) ≡ fraction s q (2 ^ k)
mixed s q j k e =
    fraction_same s (q * 2 ^ j) (2 ^ 1074) q (2 ^ k) (pow_pos 1074) (pow_pos k)
    (mul_assoc q (2 ^ j) (2 ^ k) ∙ ap (λ (x : ℕ). q * x) (sym (pow-add 2 j k) ∙ ap (λ (x : ℕ). 2 ^ x) e))

-- all of them past the point
small : (s : Bool) (q c : ℕ) → 0 < q → q < c → fraction s q c ≡ None
small s q c P h = rw (mod-eq_of_lt h, ne_eqb q 0 (λ e. omega arith))

nothing : (s : Bool) (c : ℕ) → 0 < c → fraction s 0 c ≡ whole s 0
nothing s c C = rw (mod-eq_of_lt C, div-eq_of_lt C)

module _ (b : ℕ) where
  abbrev sign : Bool
  sign = leb 9223372036854775808 b

  abbrev field : ℕ
  field = b % 9223372036854775808 / 4503599627370496

  abbrev digits : ℕ
  digits = b % 4503599627370496

  read_as : of_bits binary64 b ≡ of_fields binary64 sign field digits
  unfolding of_bits
  read_as = refl

  pub field_top : field ≡ 2047 → measure_of (of_bits binary64 b) ≡ None
  field_top h = rw read_as (at_top sign field digits h)

  pub field_large : 1075 ≤ field → (field ≡ 2047 → ⊥) → measure_of (of_bits binary64 b) ≡ whole sign largest
  field_large h n = rw read_as (go field (field - 1075) (omega arith) n)
    where
      go : (x i : ℕ) → x ≡ suc (1074 + i) → (x ≡ 2047 → ⊥) → measure_of (of_fields binary64 sign x digits) ≡ whole sign largest
      go x i e m = rw e (between sign (1074 + i) digits (λ z. m (e ∙ z)) ∙ large sign (2 ^ 52 + digits) i (omega arith))

  pub field_mixed : 1023 ≤ field → field < 1075 → measure_of (of_bits binary64 b) ≡ fraction sign (4503599627370496 + digits) (2 ^ (1075 - field))
  field_mixed h l = rw read_as (go field (field - 1) (omega arith) (omega arith))
    where
      go : (x j : ℕ) → x ≡ suc j → j < 1074 → measure_of (of_fields binary64 sign x digits) ≡ fraction sign (4503599627370496 + digits) (2 ^ (1075 - x))
      go x j e m = rw e (between sign j digits (λ z. omega arith) ∙ mixed sign (2 ^ 52 + digits) j (1075 - suc j) (omega arith))

  pub field_small : field < 1023 → (b % 9223372036854775808 ≡ 0 → ⊥) → measure_of (of_bits binary64 b) ≡ None
  field_small h n = rw read_as (go field (omega arith) (λ e. omega arith))
    where
      go : (x : ℕ) → x < 1023 → (x ≡ 0 → 0 < digits) → measure_of (of_fields binary64 sign x digits) ≡ None
      go zero l some =
          let wide : 52 ≤ 1074 = lit≤ tt in
          let few : digits * 1 < 2 ^ 1074 = lt_of_lt_of_le (lt_of_le_of_lt (le_of_eq (mul-one digits)) (mod-lt b (pow_pos 52))) (pow_mono wide) in
          lowest sign digits ∙ small sign (digits * 1) (2 ^ 1074) (lt_of_lt_of_le (some refl) (le_of_eq (sym (mul-one digits)))) few
      go (suc j) l some =
          let k = 1074 - j in
          let many : 53 ≤ k = omega arith in
          let few : 2 ^ 52 + digits < 2 ^ 53 = omega arith in
          between sign j digits (λ z. omega arith)
          ∙ mixed sign (2 ^ 52 + digits) j k (omega arith)
          ∙ small sign (2 ^ 52 + digits) (2 ^ k) (omega arith) (lt_of_lt_of_le few (pow_mono many))

  pub field_zero : b % 9223372036854775808 ≡ 0 → measure_of (of_bits binary64 b) ≡ whole sign 0
  field_zero h =
      let none : field ≡ 0 = omega arith in
      let empty : digits ≡ 0 = omega arith in
      rw (read_as, none, empty) (lowest sign 0 ∙ nothing sign (2 ^ 1074) (pow_pos 1074))

-- ---- the digits shifted down and back

pub shifted : (q c : ℕ) → 0 < c → q < 18446744073709551616 → q / c * c % 18446744073709551616 ≡ q → q % c ≡ 0
shifted q c C h e =
    let parts : q / c * c + q % c ≡ q = div-add-mod' q c in
    let kept : q / c * c % 18446744073709551616 ≡ q / c * c = mod-eq_of_lt (omega arith) in
    omega arith

-- a size below 2 to the 53 halved at least once is told whole
pub told : (q k : ℕ) → q < 9007199254740992 → 1 ≤ k → min (q / 2 ^ k) largest ≡ q / 2 ^ k
told q k h l =
    let more : 53 ≤ 52 + k = omega arith in
    uncut (q / 2 ^ k) (shr_lt 52 k (lt_of_lt_of_le h (pow_mono more)))
  where
    uncut : (n : ℕ) → n < largest → min n largest ≡ n
    uncut n h = omega arith
