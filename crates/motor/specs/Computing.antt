-- To compute the rules of a motor that stands down to numbers and bytes, a statement says `unfolding computing_motor`: it opens every
-- definition that is otherwise shut. It says nothing itself.
use Rattle.record.specs.Computing.{computing_record}
use Rattle.motor.specs.Switches.{active, blocked, edge, room}
use Rattle.motor.specs.Sound.{limits_in_range, speeds_in_range, wiring_in_range, contacts_right, setup_in_range, drive_in_range, settings_in_range, in_range, at_rest, aim_right, under_way, moving, sound_motor, sound_record, sound_under}

unfoldable pub computing_motor : Unit {0}
unfolding computing_record active blocked edge room limits_in_range speeds_in_range wiring_in_range contacts_right setup_in_range drive_in_range settings_in_range in_range at_rest aim_right under_way moving sound_motor sound_record sound_under
computing_motor = tt
