-- 02 §8: "A double is taken exactly when it is finite, whole and in range (positions and speeds as in 01, dwell 1 to 10,000); -0 is 0."
use Rattle.std.specs.Prelude.{ℕ, Bool, ◌&&◌, not, cond, leb, Result, Ok, Err, Float}
use Rattle.digits.specs.Places.{origin, cw, ccw, moved}
use Rattle.doubles.specs.Doubles.{is_whole, size_of, is_minus}
use Rattle.steps.specs.declared.SetPoint.{SetPoint}
use Rattle.steps.specs.declared.SetPoint.TheVariants.{Target, Distance, Dwell}
use Rattle.steps.specs.declared.Cause.{Cause}
use Rattle.steps.specs.declared.Cause.TheVariants.{NotWhole, OutOfRange}

-- not finite or not whole, then out of range, "the lower number" first; else the number that it stands for
abbrev pub judged_as : Float → Bool → ℕ → Result ℕ Cause
judged_as x fits n = cond (is_whole x) (cond fits (Ok n) (Err OutOfRange)) (Err NotWhole)

-- "positions .. as in 01": from -2,147,483,647 to +2,147,483,647, by its place
unfoldable pub judged_place : Float → Result ℕ Cause
judged_place x = judged_as x (leb (size_of x) 2147483647) (moved (cond (is_minus x) ccw cw) origin (size_of x))

-- from 1 to the most that it may be
unfoldable pub judged_number : ℕ → Float → Result ℕ Cause
judged_number most x = judged_as x (leb 1 (size_of x) && not (is_minus x) && leb (size_of x) most) (size_of x)

-- "Each set-point is an absolute target, a distance or a dwell and keeps its own double until it is judged."
unfoldable pub judged_point : SetPoint → Result ℕ Cause
judged_point (Target x) = judged_place x
judged_point (Distance x) = judged_place x
judged_point (Dwell x) = judged_number 10000 x

-- "speeds as in 01": "from 1 to 5,000,000"
unfoldable pub judged_speed : Float → Result ℕ Cause
judged_speed x = judged_number 5000000 x
