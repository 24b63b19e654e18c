-- To compute the steps of a list, a statement says `unfolding computing_steps`: it opens every definition that is otherwise
-- shut. It says nothing itself.
use Rattle.digits.specs.Computing.{computing_digits}
use Rattle.doubles.specs.Computing.{computing_doubles}
use Rattle.steps.specs.Fields.{tag_at, length_at, channel_at, is_cut, frame_fault, double_at}
use Rattle.steps.specs.Judging.{judged_place, judged_number, judged_point, judged_speed}
use Rattle.steps.specs.Steps.{opening_at, aim_at, rate_at, move_at, step_at, beyond_at}
use Rattle.steps.specs.Faults.{opening_cause, aim_cause, rate_cause, faults_of, first_fault}

unfoldable pub computing_steps : Unit {0}
unfolding computing_digits computing_doubles tag_at length_at channel_at is_cut frame_fault double_at judged_place judged_number judged_point judged_speed opening_at aim_at rate_at move_at step_at beyond_at opening_cause aim_cause rate_cause faults_of first_fault
computing_steps = tt
