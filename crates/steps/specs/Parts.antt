-- Parts of a step as the code takes them, for the promises of its functions; nobody need believe them, since what they come to is `step_at`.
use Rattle.std.specs.Prelude.{ℕ, ◌+◌, Bool, Result, Ok, Err, Float}
use Rattle.steps.specs.declared.SetPoint.{SetPoint}
use Rattle.steps.specs.declared.SetPoint.TheVariants.{Target, Distance, Dwell}
use Rattle.steps.specs.declared.Cause.{Cause}
use Rattle.steps.specs.declared.Fault.{Fault}
use Rattle.steps.specs.declared.Step.{Step}
use Rattle.steps.specs.Numbers.{fault_at}
use Rattle.steps.specs.Judging.{judged_point}
use Rattle.steps.specs.Steps.{judged_at, aim_of, aimed_by}

-- a set-point's own double
abbrev pub double_in : SetPoint → Float
double_in (Target x) = x
double_in (Distance x) = x
double_in (Dwell x) = x

-- a target whose speed's field is refused: its own fault comes before
abbrev pub unrated : ℕ → Fault → Result ℕ Cause → Fault
unrated at f (Ok p) = f
unrated at f (Err k) = fault_at k at

-- a move, by its two doubles; its target's field stands at a place
abbrev pub judged_move : ℕ → Bool → Float → Float → ℕ → Result Step Fault
judged_move c relative target speed at = aimed_by c relative (at + 11) (Ok speed) (judged_at at (judged_point (aim_of relative target)))
