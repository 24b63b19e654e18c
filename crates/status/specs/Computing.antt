-- To compute a status down to bytes, a statement says `unfolding computing_status`: it opens every definition that is otherwise
-- shut. It says nothing itself.
use Rattle.text.specs.Computing.{computing_text}
use Rattle.motor.specs.Computing.{computing_motor}
use Rattle.status.specs.Status.{switch_bits, status_v, status_hh, mode_letter, going_letter, status_text}

unfoldable pub computing_status : Unit {0}
unfolding computing_text computing_motor switch_bits status_v status_hh mode_letter going_letter status_text
computing_status = tt
