-- 02 §8: "A step is 1, then 2 or 3, then 4; or 5 alone."
use Rattle.std.specs.Prelude.{ℕ, ◌+◌, List, Bool, true, false, cond, leb, eqb, Option, None, Some, Result, Ok, Err, Float}
use Rattle.steps.specs.declared.SetPoint.{SetPoint}
use Rattle.steps.specs.declared.SetPoint.TheVariants.{Target, Distance, Dwell}
use Rattle.steps.specs.declared.Cause.{Cause}
use Rattle.steps.specs.declared.Cause.TheVariants.{WrongChannel, TooMany}
use Rattle.steps.specs.declared.Fault.{Fault}
use Rattle.steps.specs.declared.Opening.{Opening}
use Rattle.steps.specs.declared.Opening.TheVariants.{Channel, Dwelling}
use Rattle.steps.specs.declared.Step.{Step}
use Rattle.steps.specs.declared.Step.TheVariants.{Drive, Wait}
use Rattle.steps.specs.Numbers.{fault_at}
use Rattle.steps.specs.Fields.{channel_at, ended, frame_at, double_at}
use Rattle.steps.specs.Judging.{judged_point, judged_speed}

-- ---- what may be refused

-- "the first fault in the list counts": what follows is looked at only where nothing before it is refused
abbrev pub and_then : {A B : Type 0} → Result A Fault → (A → Result B Fault) → Result B Fault
and_then (Ok x) next = next x
and_then (Err f) next = Err f

-- "Refusals, each with its field's byte offset": what is judged, by the field at a place
abbrev pub judged_at : ℕ → Result ℕ Cause → Result ℕ Fault
judged_at at (Ok n) = Ok n
judged_at at (Err k) = Err (fault_at k at)

-- ---- the fields

-- the channel is one of 0 to 15
abbrev pub channel_of : ℕ → ℕ → Result Opening Fault
channel_of b at = cond (leb b 15) (Ok (Channel b)) (Err (fault_at WrongChannel at))

-- a dwell, judged
abbrev pub dwell_of : Float → ℕ → Result Opening Fault
dwell_of x at = and_then (judged_at at (judged_point (Dwell x))) (λ n. Ok (Dwelling x n))

-- "1 .. or 5": the first field of a step, with all that may be wrong in it
unfoldable pub opening_at : List ℕ → ℕ → Result Opening Fault
opening_at s at = and_then (frame_at 1 5 s at) (λ tag. cond (eqb tag 1) (channel_of (channel_at s at) at) (dwell_of (double_at s at) at))

-- "2 absolute target, 3 distance"
abbrev pub aim_of : Bool → Float → SetPoint
aim_of relative x = cond relative (Distance x) (Target x)

-- "2 or 3"
unfoldable pub aim_at : List ℕ → ℕ → Result SetPoint Fault
aim_at s at = and_then (frame_at 2 3 s at) (λ tag. Ok (aim_of (eqb tag 3) (double_at s at)))

-- "4"
unfoldable pub rate_at : List ℕ → ℕ → Result Float Fault
rate_at s at = and_then (frame_at 4 4 s at) (λ tag. Ok (double_at s at))

-- ---- a move

-- a set-point is a distance, for which REL is printed
abbrev pub is_distance : SetPoint → Bool
is_distance (Target x) = false
is_distance (Distance x) = true
is_distance (Dwell x) = false

-- a speed that is judged
abbrev pub sped : ℕ → Bool → ℕ → Result ℕ Fault → Result Step Fault
sped c relative p v = and_then v (λ v. Ok (Drive (record { channel = c; relative = relative; place = p; speed = v })))

-- "the first fault in the list counts": a target that is judged comes before anything of its speed's field, which stands at a place
abbrev pub aimed_by : ℕ → Bool → ℕ → Result Float Fault → Result ℕ Fault → Result Step Fault
aimed_by c relative at rate j = and_then j (λ p. and_then rate (λ x. sped c relative p (judged_at at (judged_speed x))))

-- "then 2 or 3, then 4": what follows the channel's field, from a place on
unfoldable pub move_at : List ℕ → ℕ → ℕ → Result Step Fault
move_at s at c = and_then (aim_at s at) (λ p. aimed_by c (is_distance p) (at + 11) (rate_at s (at + 11)) (judged_at at (judged_point p)))

-- ---- a step

-- what the first field begins
abbrev pub opened_by : List ℕ → ℕ → Opening → Result Step Fault
opened_by s at (Channel c) = move_at s (at + 4) c
opened_by s at (Dwelling x n) = Ok (Wait x n)

-- the step at a place, where the list may end
unfoldable pub step_at : List ℕ → ℕ → Result (Option Step) Fault
step_at s at = cond (ended s at) (Ok None) (and_then (and_then (opening_at s at) (opened_by s at)) (λ x. Ok (Some x)))

-- "26 a step after the 10,000th", "in one field the lower number": what stands at a place where no more step may
unfoldable pub beyond_at : List ℕ → ℕ → Result Unit Fault
beyond_at s at = cond (ended s at) (Ok tt) (and_then (opening_at s at) (λ o. Err (fault_at TooMany at)))
