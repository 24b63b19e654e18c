-- 02 §8: "Output is a bench script": what the printed lines are to *bench*.
use Rattle.std.specs.Prelude.{ℕ, List, [], ◌∷◌, Bool, true, false, ◌&&◌, Option, Some, None, drop}
use Rattle.line.specs.declared.Order.{Order}
use Rattle.line.specs.Forms.{order_of}
use Rattle.orders.specs.Values.{value_in_range}
use Rattle.jobs.specs.declared.Job.{Job}
use Rattle.jobs.specs.declared.Job.TheVariants.{Send, Touch, Wait, FourMotors}
use Rattle.jobs.specs.Jobs.{job_of}

-- a command line has one of the forms, and its value is in its range
abbrev pub in_form : Option Order → Bool
in_form (Some o) = value_in_range o
in_form None = false

-- a line of a script that a list may give: a command line that has its form and its value in range, or ticks
abbrev pub taken_as : List ℕ → Option Job → Bool
taken_as l (Some Send) = in_form (order_of (drop 2 l))
taken_as l (Some (Touch x n)) = false
taken_as l (Some (Wait n)) = true
taken_as l (Some FourMotors) = false
taken_as l None = false

-- "Any other line prints `?`."
abbrev pub is_other : Option Job → Bool
is_other (Some Send) = false
is_other (Some (Touch x n)) = false
is_other (Some (Wait n)) = false
is_other (Some FourMotors) = false
is_other None = true

-- Lines all of which are such but for the last one, which is no line of a script. Whether a line is the very first of a script makes a
-- difference to `K 1` alone, so it is left open here.
unfoldable pub script_from : Bool → List ℕ → List (List ℕ) → Bool
script_from first l [] = is_other (job_of first l)
script_from first l (m ∷ ls) = taken_as l (job_of first l) && script_from first m ls

abbrev pub is_script : Bool → List (List ℕ) → Bool
is_script first [] = false
is_script first (l ∷ ls) = script_from first l ls
