-- 02 §8: "the first fault in the list counts, and in one field the lower number". A list that is refused at a step is refused by the
-- first of its fields that has a fault, for that field's own cause and at its offset. Assumes nothing.
use mathlib.Core.Path.{◌≡◌, refl, ap, ◌∙◌}
use mathlib.Core.List.{List, [], ◌∷◌}
use mathlib.Core.Bool.{Bool, true, false, cond}
use Prim.Native.Nat.{ℕ, ◌+◌}
use native.Mathlib.Omega.{arith}
use lib.Dec.{leb, eqb}
use lib.Ieee.{Float}
use Rattle.std.specs.Prelude.{Option, None, Some, Result, Ok, Err}
use Rattle.std.specs.Result.{result_err}
use Rattle.steps.specs.declared.SetPoint.TheVariants.{Dwell}
use Rattle.steps.specs.declared.Cause.{Cause}
use Rattle.steps.specs.declared.Cause.TheVariants.{WrongChannel, TooMany}
use Rattle.steps.specs.declared.Fault.{Fault}
use Rattle.steps.specs.declared.Opening.{Opening}
use Rattle.steps.specs.declared.Opening.TheVariants.{Channel, Dwelling}
use Rattle.steps.specs.Numbers.{fault_at}
use Rattle.steps.specs.Fields.{tag_at, channel_at, ended, frame_fault, framed, double_at}
use Rattle.steps.specs.Judging.{judged_point, judged_speed}
use Rattle.steps.specs.Steps.{and_then, judged_at, channel_of, dwell_of, opening_at, aim_of, aim_at, rate_at, is_distance, sped, aimed_by, move_at, opened_by, step_at, beyond_at}
use Rattle.steps.specs.Faults.{lower, opening_cause, aim_cause, rate_cause, faulted, faults_of, first_fault}

-- a speed's field, where what stands before it is good
rate_fault_law : (s : List ℕ) (at c p : ℕ) (relative : Bool)
    → result_err (and_then (rate_at s at) (λ x. sped c relative p (judged_at at (judged_speed x)))) ≡ first_fault (faulted at (rate_cause s at) ∷ [])
unfolding rate_at rate_cause first_fault
rate_fault_law s at c p relative = go (frame_fault 4 4 s at)
  where
    by : (j : Result ℕ Cause) → result_err (sped c relative p (judged_at at j)) ≡ first_fault (faulted at (result_err j) ∷ [])
    by (Ok v) = refl
    by (Err k) = refl

    go : (o : Option Cause)
        → result_err (and_then (and_then (framed (tag_at s at) at o) (λ tag. Ok (double_at s at))) (λ x. sped c relative p (judged_at at (judged_speed x))))
        ≡ first_fault (faulted at (lower o (result_err (judged_speed (double_at s at)))) ∷ [])
    go None = by (judged_speed (double_at s at))
    go (Some k) = refl

-- a target's field and its speed's
move_fault : (s : List ℕ) (at c : ℕ) → result_err (move_at s at c) ≡ first_fault (faulted at (aim_cause s at) ∷ faulted (at + 11) (rate_cause s (at + 11)) ∷ [])
unfolding move_at aim_at aim_cause first_fault
move_fault s at c = go (frame_fault 2 3 s at)
  where
    by : (relative : Bool) (j : Result ℕ Cause)
        → result_err (aimed_by c relative (at + 11) (rate_at s (at + 11)) (judged_at at j)) ≡ first_fault (faulted at (result_err j) ∷ faulted (at + 11) (rate_cause s (at + 11)) ∷ [])
    by relative (Ok p) = rate_fault_law s (at + 11) c p relative
    by relative (Err k) = refl

    go : (o : Option Cause)
        → result_err (and_then (and_then (framed (tag_at s at) at o) (λ tag. Ok (aim_of (eqb tag 3) (double_at s at)))) (λ p. aimed_by c (is_distance p) (at + 11) (rate_at s (at + 11)) (judged_at at (judged_point p))))
        ≡ first_fault (faulted at (lower o (result_err (judged_point (aim_of (eqb (tag_at s at) 3) (double_at s at))))) ∷ faulted (at + 11) (rate_cause s (at + 11)) ∷ [])
    go None = by (is_distance (aim_of (eqb (tag_at s at) 3) (double_at s at))) (judged_point (aim_of (eqb (tag_at s at) 3) (double_at s at)))
    go (Some k) = refl

-- a whole step
pub first_fault_law : (s : List ℕ) (at : ℕ) → ended s at ≡ false → result_err (step_at s at) ≡ first_fault (faults_of s at)
unfolding step_at opening_at opening_cause faults_of first_fault
first_fault_law s at h = rw h (same (and_then (opening_at s at) (opened_by s at)) ∙ go (frame_fault 1 5 s at))
  where
    same : {A : Type 0} (r : Result A Fault) → result_err (and_then r (λ x. Ok (Some x))) ≡ result_err r
    same (Ok x) = refl
    same (Err f) = refl

    rest : List (Option Fault)
    rest = faulted (at + 4) (aim_cause s (at + 4)) ∷ faulted (at + 15) (rate_cause s (at + 15)) ∷ []

    move : result_err (move_at s (at + 4) (channel_at s at)) ≡ first_fault rest
    move = let far : at + 4 + 11 ≡ at + 15 = omega arith in move_fault s (at + 4) (channel_at s at) ∙ ap (λ (o : ℕ). first_fault (faulted (at + 4) (aim_cause s (at + 4)) ∷ faulted o (rate_cause s o) ∷ [])) far

    channel : (t : Bool) → result_err (and_then (cond t (Ok (Channel (channel_at s at))) (Err (fault_at WrongChannel at))) (opened_by s at)) ≡ first_fault (faulted at (cond t None (Some WrongChannel)) ∷ rest)
    channel true = move
    channel false = refl

    dwell : (x : Float) (j : Result ℕ Cause) → result_err (and_then (and_then (judged_at at j) (λ n. Ok (Dwelling x n))) (opened_by s at)) ≡ first_fault (faulted at (result_err j) ∷ [])
    dwell x (Ok n) = refl
    dwell x (Err k) = refl

    tagged : (u : Bool)
        → result_err (and_then (cond u (channel_of (channel_at s at) at) (dwell_of (double_at s at) at)) (opened_by s at))
        ≡ first_fault (faulted at (cond u (cond (leb (channel_at s at) 15) None (Some WrongChannel)) (result_err (judged_point (Dwell (double_at s at))))) ∷ cond u rest [])
    tagged true = channel (leb (channel_at s at) 15)
    tagged false = dwell (double_at s at) (judged_point (Dwell (double_at s at)))

    go : (o : Option Cause)
        → result_err (and_then (and_then (framed (tag_at s at) at o) (λ tag. cond (eqb tag 1) (channel_of (channel_at s at) at) (dwell_of (double_at s at) at))) (opened_by s at))
        ≡ first_fault (faulted at (lower o (cond (eqb (tag_at s at) 1) (cond (leb (channel_at s at) 15) None (Some WrongChannel)) (result_err (judged_point (Dwell (double_at s at)))))) ∷ cond (eqb (tag_at s at) 1) rest [])
    go None = tagged (eqb (tag_at s at) 1)
    go (Some k) = refl

-- "26 a step after the 10,000th", "in one field the lower number": the field that stands where no more step may
pub beyond_fault : (s : List ℕ) (at : ℕ) → ended s at ≡ false → result_err (beyond_at s at) ≡ faulted at (lower (opening_cause s at) (Some TooMany))
unfolding beyond_at opening_at opening_cause
beyond_fault s at h = rw h (go (frame_fault 1 5 s at))
  where
    excess : Opening → Result Unit Fault
    excess o = Err (fault_at TooMany at)

    channel : (t : Bool) → result_err (and_then (cond t (Ok (Channel (channel_at s at))) (Err (fault_at WrongChannel at))) excess) ≡ faulted at (lower (cond t None (Some WrongChannel)) (Some TooMany))
    channel true = refl
    channel false = refl

    dwell : (x : Float) (j : Result ℕ Cause) → result_err (and_then (and_then (judged_at at j) (λ n. Ok (Dwelling x n))) excess) ≡ faulted at (lower (result_err j) (Some TooMany))
    dwell x (Ok n) = refl
    dwell x (Err k) = refl

    tagged : (u : Bool)
        → result_err (and_then (cond u (channel_of (channel_at s at) at) (dwell_of (double_at s at) at)) excess)
        ≡ faulted at (lower (cond u (cond (leb (channel_at s at) 15) None (Some WrongChannel)) (result_err (judged_point (Dwell (double_at s at))))) (Some TooMany))
    tagged true = channel (leb (channel_at s at) 15)
    tagged false = dwell (double_at s at) (judged_point (Dwell (double_at s at)))

    go : (o : Option Cause)
        → result_err (and_then (and_then (framed (tag_at s at) at o) (λ tag. cond (eqb tag 1) (channel_of (channel_at s at) at) (dwell_of (double_at s at) at))) excess)
        ≡ faulted at (lower (lower o (cond (eqb (tag_at s at) 1) (cond (leb (channel_at s at) 15) None (Some WrongChannel)) (result_err (judged_point (Dwell (double_at s at)))))) (Some TooMany))
    go None = tagged (eqb (tag_at s at) 1)
    go (Some k) = refl
