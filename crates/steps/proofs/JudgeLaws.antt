-- What a double is judged to be, by what the code tells of it. Assumes nothing.
use mathlib.Core.Path.{◌≡◌, refl, sym}
use mathlib.Core.Bool.{Bool, true, false, ◌&&◌, not, cond, true≢false}
use Prim.Native.Nat.{ℕ, ◌≤◌, ◌<◌, min}
use native.Mathlib.Omega.{arith}
use lib.Dec.{leb}
use lib.Ieee.{Float}
use borrow.Author.Tests.{leb-true, leb-false, lt-leb}
use Rattle.digits.specs.Places.{origin, cw, ccw, moved}
use Rattle.std.specs.Prelude.{Option, None, Some, Result, Ok, Err}
use Rattle.doubles.specs.declared.Whole.{Whole}
use Rattle.doubles.specs.Doubles.{is_whole, size_of, is_minus}
use Rattle.doubles.specs.Measures.{largest, whole, measure_of}
use Rattle.steps.specs.declared.Cause.{Cause}
use Rattle.steps.specs.declared.Cause.TheVariants.{NotWhole, OutOfRange}
use Rattle.steps.specs.Judging.{judged_place, judged_number}

-- a size is as much in a range as what is told of it, and then it is told whole
told : {A : Type 0} (most n : ℕ) (f : ℕ → A) (z : A) → most < largest → cond (leb n most) (f n) z ≡ cond (leb (min n largest) most) (f (min n largest)) z
told {A} most n f z h = go (leb n most) refl
  where
    go : (t : Bool) → leb n most ≡ t → cond t (f n) z ≡ cond (leb (min n largest) most) (f (min n largest)) z
    go true e = let same : min n largest ≡ n = omega (arith, leb-true n most e) in rw (same, e)
    go false e = rw (lt-leb (min n largest) most (omega (arith, leb-false n most e)))

abbrev pub place_by : Option Whole → Result ℕ Cause
place_by (Some w) = cond (leb w.size 2147483647) (Ok (moved (cond w.minus ccw cw) origin w.size)) (Err OutOfRange)
place_by None = Err NotWhole

pub placed : (x : Float) → judged_place x ≡ place_by (measure_of x)
unfolding judged_place measure_of
placed x = go (is_whole x)
  where
    go : (t : Bool)
        → cond t (cond (leb (size_of x) 2147483647) (Ok (moved (cond (is_minus x) ccw cw) origin (size_of x))) (Err OutOfRange)) (Err NotWhole)
        ≡ place_by (cond t (whole (is_minus x) (min (size_of x) largest)) None)
    go true = told 2147483647 (size_of x) (λ n. Ok (moved (cond (is_minus x) ccw cw) origin n)) (Err OutOfRange) (omega arith)
    go false = refl

abbrev pub number_by : ℕ → Option Whole → Result ℕ Cause
number_by most (Some w) = cond (leb 1 w.size && not w.minus && leb w.size most) (Ok w.size) (Err OutOfRange)
number_by most None = Err NotWhole

neither : (p : Bool) → (p && false) ≡ false
neither true = refl
neither false = refl

pub numbered : (most : ℕ) (x : Float) → most < largest → judged_number most x ≡ number_by most (measure_of x)
unfolding judged_number measure_of
numbered most x h = go (is_whole x)
  where
    sized : (n : ℕ) (t : Bool) → leb n most ≡ t
        → cond (leb 1 n && not (is_minus x) && leb n most) (Ok n) (Err OutOfRange)
        ≡ cond (leb 1 (min n largest) && not (is_minus x) && leb (min n largest) most) (Ok (min n largest)) (Err OutOfRange)
    sized n true e = let same : min n largest ≡ n = omega (arith, leb-true n most e) in rw same
    sized n false e =
        rw (e, lt-leb (min n largest) most (omega (arith, leb-false n most e)), neither (leb 1 n && not (is_minus x)), neither (leb 1 (min n largest) && not (is_minus x)))

    go : (t : Bool)
        → cond t (cond (leb 1 (size_of x) && not (is_minus x) && leb (size_of x) most) (Ok (size_of x)) (Err OutOfRange)) (Err NotWhole)
        ≡ number_by most (cond t (whole (is_minus x) (min (size_of x) largest)) None)
    go true = sized (size_of x) (leb (size_of x) most) refl
    go false = refl

-- a size that is taken is in its range
pub in_range_law : (p : Bool) (n most : ℕ) → (p && leb n most) ≡ true → n ≤ most
in_range_law true n most e = leb-true n most e
in_range_law false n most e = absurd (true≢false (sym e))
