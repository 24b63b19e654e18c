-- 02 §8: "A double is taken exactly when it is finite, whole and in range (positions and speeds as in 01, dwell 1 to 10,000); -0 is 0."
-- Of the double of every field: it is taken for a number where it is that number's double, and nowhere else. Assumes nothing.
use mathlib.Core.Path.{◌≡◌, sym, ◌∙◌}
use mathlib.Core.Bool.{Bool, false, cond}
use mathlib.Core.List.{List}
use Prim.Native.Nat.{ℕ, ◌+◌, ◌≤◌}
use native.Mathlib.Omega.{arith}
use lib.Dec.{T, leb}
use lib.Ieee.{Float, binary64, fits}
use lib.Ieee.Bits.{of_bits-fits}
use borrow.Author.Tests.{leb-true, le-leb}
use Rattle.digits.specs.Bytes.{part}
use Rattle.digits.specs.Words.{word}
use Rattle.digits.specs.Places.{origin, cw, ccw, moved}
use Rattle.doubles.specs.Doubles.{size_of, is_minus}
use Rattle.doubles.proofs.ExactLaws.{whole_double, whole_double_law, double_whole}
use Rattle.std.specs.Prelude.{Result, Ok, Err}
use Rattle.steps.specs.declared.Cause.{Cause}
use Rattle.steps.specs.declared.SetPoint.{SetPoint}
use Rattle.steps.specs.declared.SetPoint.TheVariants.{Target, Distance, Dwell}
use Rattle.steps.specs.Fields.{double_at}
use Rattle.steps.specs.Judging.{judged_as, judged_place, judged_number, judged_point, judged_speed}
use Rattle.steps.specs.Parts.{double_in}
use Rattle.steps.proofs.MadeLaws.{Fit, fit, Counted, counted}

-- a double that is read from bytes is one of the format's
read_fits : (s : List ℕ) (at : ℕ) → T (fits binary64 (double_at s at))
unfolding double_at
read_fits s at = of_bits-fits binary64 (word (part s (at + 3) 8))

-- a number from 1 on
number_exactly : (most : ℕ) (x : Float) (n : ℕ) → T (fits binary64 x) → most ≤ 5000000
    → (judged_number most x ≡ Ok n → (x ≡ whole_double false n) × (1 ≤ n) × (n ≤ most))
    × ((x ≡ whole_double false n) × (1 ≤ n) × (n ≤ most) → judged_number most x ≡ Ok n)
number_exactly most x n f l = (λ e. go (judged_number most x) (counted most x) e, λ h. back h)
  where
    go : (j : Result ℕ Cause) → Counted most x j → j ≡ Ok n → (x ≡ whole_double false n) × (1 ≤ n) × (n ≤ most)
    go (Ok k) c e =
        let same : k ≡ n = cc in
        (whole_double_law x f c.0 (omega (arith, c.2, c.4)) ∙ rw (c.1, c.2, same), omega (arith, c.3), omega (arith, c.4))
    go (Err k) c e = absurd cc

    back : (x ≡ whole_double false n) × (1 ≤ n) × (n ≤ most) → judged_number most x ≡ Ok n
    back h =
        let d = double_whole false n (omega (arith, h.2)) in
        unfold judged_number in rw (h.0, d.0, d.1, d.2, le-leb 1 n h.1, le-leb n most h.2)

-- a position or a distance, by its place
pub record Positioned (x : Float) (p : ℕ) : Type 0 where
  pub minus : Bool
  pub size : ℕ
  pub double : x ≡ whole_double minus size
  pub small : size ≤ 2147483647
  pub place : p ≡ moved (cond minus ccw cw) origin size

place_exactly : (x : Float) (p : ℕ) → T (fits binary64 x) → (judged_place x ≡ Ok p → Positioned x p) × (Positioned x p → judged_place x ≡ Ok p)
place_exactly x p f = (λ e. unfold judged_place in go (judged_as x (leb (size_of x) 2147483647) (moved (cond (is_minus x) ccw cw) origin (size_of x))) (fit x (leb (size_of x) 2147483647) (moved (cond (is_minus x) ccw cw) origin (size_of x))) e, λ h. back h)
  where
    go : (j : Result ℕ Cause) → Fit x (leb (size_of x) 2147483647) (moved (cond (is_minus x) ccw cw) origin (size_of x)) j → j ≡ Ok p → Positioned x p
    go (Ok k) c e =
        let same : k ≡ p = cc in
        let few : size_of x ≤ 2147483647 = leb-true (size_of x) 2147483647 c.1 in
        record { minus = is_minus x; size = size_of x; double = whole_double_law x f c.0 (omega arith); small = few; place = sym same ∙ c.2 }
    go (Err k) c e = absurd cc

    back : Positioned x p → judged_place x ≡ Ok p
    back h =
        let d = double_whole h.minus h.size (omega (arith, h.small)) in
        unfold judged_place in rw (h.double, d.0, d.1, d.2, le-leb h.size 2147483647 h.small, ← h.place)

-- a target, a distance and a dwell
abbrev pub Fitting : SetPoint → ℕ → Type 0
Fitting (Target x) p = Positioned x p
Fitting (Distance x) p = Positioned x p
Fitting (Dwell x) n = (x ≡ whole_double false n) × (1 ≤ n) × (n ≤ 10000)

point_exactly_of : (p : SetPoint) (n : ℕ) → T (fits binary64 (double_in p)) → (judged_point p ≡ Ok n → Fitting p n) × (Fitting p n → judged_point p ≡ Ok n)
unfolding judged_point
point_exactly_of (Target x) n f = place_exactly x n f
point_exactly_of (Distance x) n f = place_exactly x n f
point_exactly_of (Dwell x) n f = number_exactly 10000 x n f (omega arith)

-- Every set-point that is read from a list: a target or a distance, or a dwell.
pub point_exactly : (s : List ℕ) (at : ℕ) (kind : Float → SetPoint) (n : ℕ) → ((x : Float) → double_in (kind x) ≡ x)
    → (judged_point (kind (double_at s at)) ≡ Ok n → Fitting (kind (double_at s at)) n) × (Fitting (kind (double_at s at)) n → judged_point (kind (double_at s at)) ≡ Ok n)
point_exactly s at kind n same = point_exactly_of (kind (double_at s at)) n (rw (same (double_at s at)) (read_fits s at))

-- Every speed.
pub speed_exactly : (s : List ℕ) (at n : ℕ)
    → (judged_speed (double_at s at) ≡ Ok n → (double_at s at ≡ whole_double false n) × (1 ≤ n) × (n ≤ 5000000))
    × ((double_at s at ≡ whole_double false n) × (1 ≤ n) × (n ≤ 5000000) → judged_speed (double_at s at) ≡ Ok n)
unfolding judged_speed
speed_exactly s at n = number_exactly 5000000 (double_at s at) n (read_fits s at) (omega arith)
