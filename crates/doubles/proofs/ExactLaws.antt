-- A whole double of up to 2 to the 53 is the double of its sign and its size, and the other way round; so -0 is that of a minus and 0.
-- Assumes nothing.
use mathlib.Core.Path.{◌≡◌, refl, sym, ap, ◌∙◌}
use mathlib.Core.Bool.{Bool, true, true≢false}
use Prim.Native.Nat.{ℕ, ◌*◌, ◌/◌, ◌%◌, ◌≤◌}
use native.Mathlib.Nat.{mul-one, mul-div_cancel, mul-mod_left}
use lib.Dec.{T}
use borrow.Author.Tests.{eq-eqb}
use lib.Ieee.{Float, nan, inf, fin, binary64, up, down, round, fits}
use lib.Ieee.Fits.{down_pos, round-fits}
use lib.Ieee.Exact.{HasValue}
use lib.Ieee.Back.{round_whole, whole_unique}
use Rattle.doubles.specs.Doubles.{is_whole, size_of, is_minus}
use Rattle.doubles.proofs.SumLaws.{whole_is}

-- the double of a whole number with a sign
abbrev pub whole_double : Bool → ℕ → Float
whole_double minus n = round binary64 minus n 1

valued : (x : Float) → is_whole x ≡ true → HasValue x (is_minus x) (size_of x) 1
unfolding is_whole size_of is_minus
valued nan h = absurd (true≢false (sym h))
valued (inf s) h = absurd (true≢false (sym h))
valued (fin s m e) h = (refl, mul-one (m * up e) ∙ whole_is s m e h)

pub whole_double_law : (x : Float) → T (fits binary64 x) → is_whole x ≡ true → size_of x ≤ 9007199254740992 → x ≡ whole_double (is_minus x) (size_of x)
whole_double_law x f h l =
    whole_unique binary64 x (whole_double (is_minus x) (size_of x)) (is_minus x) (size_of x) f (round-fits binary64 (is_minus x) (size_of x) 1) (valued x h) (round_whole binary64 (is_minus x) (size_of x) l)

told : (x : Float) (s : Bool) (n : ℕ) → HasValue x s n 1 → (is_whole x ≡ true) × (is_minus x ≡ s) × (size_of x ≡ n)
unfolding is_whole size_of is_minus
told nan s n v = absurd v
told (inf t) s n v = absurd v
told (fin t m e) s n v =
    let q : m * up e ≡ n * down e = sym (mul-one (m * up e)) ∙ v.1 in
    (eq-eqb (m * up e % down e) 0 (ap (λ (i : ℕ). i % down e) q ∙ mul-mod_left n (down e)), v.0, ap (λ (i : ℕ). i / down e) q ∙ mul-div_cancel n (down_pos e))

pub double_whole : (minus : Bool) (n : ℕ) → n ≤ 9007199254740992
    → (is_whole (whole_double minus n) ≡ true) × (is_minus (whole_double minus n) ≡ minus) × (size_of (whole_double minus n) ≡ n)
double_whole minus n h = told (whole_double minus n) minus n (round_whole binary64 minus n h)
