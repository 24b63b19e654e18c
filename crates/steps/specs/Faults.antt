-- 02 §8: "the first fault in the list counts, and in one field the lower number", said of the fields of a step one by one: what refuses
-- each by itself, whatever the others are, and the first field that is refused. Nothing else goes by this; a law says that the steps do.
use Rattle.std.specs.Prelude.{ℕ, ◌+◌, List, [], ◌∷◌, cond, leb, eqb, Option, None, Some, option_map}
use Rattle.std.specs.Option.{option_or}
use Rattle.std.specs.Result.{result_err}
use Rattle.steps.specs.declared.SetPoint.TheVariants.{Dwell}
use Rattle.steps.specs.declared.Cause.{Cause}
use Rattle.steps.specs.declared.Cause.TheVariants.{WrongChannel}
use Rattle.steps.specs.declared.Fault.{Fault}
use Rattle.steps.specs.Numbers.{fault_at}
use Rattle.steps.specs.Fields.{tag_at, channel_at, frame_fault, double_at}
use Rattle.steps.specs.Judging.{judged_point, judged_speed}
use Rattle.steps.specs.Steps.{aim_of}

-- "in one field the lower number": what is wrong with the frame of a field counts before what is wrong with its value
abbrev pub lower : Option Cause → Option Cause → Option Cause
lower frame value = option_or frame value

-- the field of a channel or a dwell
unfoldable pub opening_cause : List ℕ → ℕ → Option Cause
opening_cause s at =
    lower (frame_fault 1 5 s at) (cond (eqb (tag_at s at) 1) (cond (leb (channel_at s at) 15) None (Some WrongChannel)) (result_err (judged_point (Dwell (double_at s at)))))

-- the field of a target or a distance
unfoldable pub aim_cause : List ℕ → ℕ → Option Cause
aim_cause s at = lower (frame_fault 2 3 s at) (result_err (judged_point (aim_of (eqb (tag_at s at) 3) (double_at s at))))

-- the field of a speed
unfoldable pub rate_cause : List ℕ → ℕ → Option Cause
rate_cause s at = lower (frame_fault 4 4 s at) (result_err (judged_speed (double_at s at)))

-- what refuses a field, with its offset
abbrev pub faulted : ℕ → Option Cause → Option Fault
faulted at k = option_map (λ k. fault_at k at) k

-- the fields of a step in the list's order, "1, then 2 or 3, then 4; or 5 alone", each with its offset and what refuses it
unfoldable pub faults_of : List ℕ → ℕ → List (Option Fault)
faults_of s at =
    faulted at (opening_cause s at)
    ∷ cond (eqb (tag_at s at) 1) (faulted (at + 4) (aim_cause s (at + 4)) ∷ faulted (at + 15) (rate_cause s (at + 15)) ∷ []) []

-- "the first fault in the list counts"
unfoldable pub first_fault : List (Option Fault) → Option Fault
first_fault [] = None
first_fault (f ∷ fs) = option_or f (first_fault fs)
