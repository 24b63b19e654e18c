-- To compute what is printed for a list, a statement says `unfolding computing_lists`: it opens every definition that is otherwise
-- shut. It says nothing itself.
use Rattle.std.specs.Float.Ieee.{round, units, size, span, climb, add, sum, of_int, to_unsigned}
use Rattle.text.specs.Computing.{computing_text}
use Rattle.steps.specs.Computing.{computing_steps}
use Rattle.lists.specs.Lines.{setting_text, select_text, going_text, move_text, wait_text, total_text, fault_text}
use Rattle.lists.specs.Listing.{printed_from, printed_with, printed, total_from, total_with}
use Rattle.lists.specs.Script.{script_from}

unfoldable pub computing_lists : Unit {0}
unfolding computing_text computing_steps round units size span climb add sum of_int to_unsigned setting_text select_text going_text move_text wait_text total_text fault_text printed_from printed_with printed total_from total_with script_from
computing_lists = tt
