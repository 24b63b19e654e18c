-- To compute a tick down to numbers and bytes, a statement says `unfolding computing_pulses`: it opens every definition that is
-- otherwise shut. It says nothing itself.
use Rattle.drive.specs.Computing.{computing_drive}
use Rattle.pulses.specs.Ticks.{tick_speed, due, rest, distance_left, given, reached, used_up, driven_on, tick_motor, tick_count, ticks}

unfoldable pub computing_pulses : Unit {0}
unfolding computing_drive tick_speed due rest distance_left given reached used_up driven_on tick_motor tick_count ticks
computing_pulses = tt
