-- To compute replies down to bytes, a statement says `unfolding computing_replies`: it opens every definition that is otherwise
-- shut. It says nothing itself.
use Rattle.status.specs.Computing.{computing_status}
use Rattle.drive.specs.Computing.{computing_drive}
use Rattle.replies.specs.Replies.{text_of, selected_text, switches_text, motor_text, question_text, error_text, echo, all_reply_text, pause_text, free_text, head_text}

unfoldable pub computing_replies : Unit {0}
unfolding computing_status computing_drive text_of selected_text switches_text motor_text question_text error_text echo all_reply_text pause_text free_text head_text
computing_replies = tt
