-- To compute what orders do to a table down to numbers and bytes, a statement says `unfolding computing_commands`: it opens
-- every definition that is otherwise shut. It says nothing itself.
use Rattle.drive.specs.Computing.{computing_drive}
use Rattle.table.specs.Computing.{computing_table}
use Rattle.orders.specs.Computing.{computing_orders}
use Rattle.replies.specs.Computing.{computing_replies}
use Rattle.commands.specs.Judging.{meets_busy, judge_motor, judge_where, judge}
use Rattle.commands.specs.Changing.{head_changed, changed, flagged}
use Rattle.commands.specs.Answers.{answer}

unfoldable pub computing_commands : Unit {0}
unfolding computing_drive computing_table computing_orders computing_replies meets_busy judge_motor judge_where judge head_changed changed flagged answer
computing_commands = tt
