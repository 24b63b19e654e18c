-- What the code tells of a double, for the promises of its functions; nobody need believe it, since the judge of a list is said of the
-- double itself.
use Rattle.std.specs.Prelude.{ℕ, ◌/◌, ◌%◌, min, Bool, cond, eqb, Option, Some, None, Float}
use Rattle.doubles.specs.declared.Whole.{Whole}
use Rattle.doubles.specs.Doubles.{is_whole, size_of, is_minus}

-- From 2 to the 52 on every double is whole, and none is in a range that the documents give: so much of a size is told.
abbrev pub largest : ℕ
largest = 4503599627370496

-- a sign and a size
abbrev pub whole : Bool → ℕ → Option Whole
whole minus size = Some (record { minus = minus; size = size })

-- what the code tells of a double: its sign and size, where it is whole
unfoldable pub measure_of : Float → Option Whole
measure_of x = cond (is_whole x) (whole (is_minus x) (min (size_of x) largest)) None

-- the same of the fraction a / c, with its sign
abbrev pub fraction : Bool → ℕ → ℕ → Option Whole
fraction s a c = cond (eqb (a % c) 0) (whole s (min (a / c) largest)) None
