-- To compute the rules of a drive down to numbers and bytes, a statement says `unfolding computing_drive`: it opens every
-- definition that is otherwise shut. It says nothing itself.
use Rattle.motor.specs.Computing.{computing_motor}
use Rattle.drive.specs.Numbers.{number_of, flag_bit}
use Rattle.drive.specs.Drives.{speed_numbered, course_to, towards, hindrance, judge_start, started, released, stopped, speed_changed, switch_read}

unfoldable pub computing_drive : Unit {0}
unfolding computing_motor number_of flag_bit speed_numbered course_to towards hindrance judge_start started released stopped speed_changed switch_read
computing_drive = tt
