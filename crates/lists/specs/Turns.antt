-- One step of a list as the code takes it, for the promises of its functions; nobody need believe it, since what it comes to is `printed`.
use Rattle.std.specs.Prelude.{ℕ, ◌+◌, List, Option, None, Some, Result, Ok, Err, Float}
use Rattle.steps.specs.declared.Fault.{Fault}
use Rattle.steps.specs.declared.Step.{Step}
use Rattle.steps.specs.declared.Step.TheVariants.{Drive, Wait}
use Rattle.lists.specs.declared.listing.Reached.{Reached}
use Rattle.lists.specs.Lines.{move_text, wait_text}
use Rattle.lists.specs.Listing.{as_doubles, last_text}

-- the offset that is printed in a last line; 0 where there is none
abbrev pub offset_in : Result Unit Fault → ℕ
offset_in (Ok u) = 0
offset_in (Err f) = f.offset

-- the lines of a step, or the last line
abbrev pub text_of : Float → Result (Option Step) Fault → List ℕ
text_of total (Ok None) = last_text as_doubles total (Ok tt)
text_of total (Err f) = last_text as_doubles total (Err f)
text_of total (Ok (Some (Drive m))) = move_text m
text_of total (Ok (Some (Wait x n))) = wait_text n

-- how far the list is taken after it; none where nothing is printed after it
abbrev pub reached_after : Reached → Result (Option Step) Fault → Option Reached
reached_after r (Ok None) = None
reached_after r (Err f) = None
reached_after r (Ok (Some (Drive m))) = Some (record { at = r.at + 26; total = r.total })
reached_after r (Ok (Some (Wait x n))) = Some (record { at = r.at + 11; total = as_doubles.more r.total x n })
