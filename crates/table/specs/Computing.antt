-- To compute the table down to numbers and bytes, a statement says `unfolding computing_table`: it opens every
-- definition that is otherwise shut. It says nothing itself.
use Rattle.motor.specs.Computing.{computing_motor}
use mathlib.Core.List.{flat_map}
use Rattle.table.specs.Layout.{head_of, card_full, with_head, motor_at, busy_set, sealed, with_motor, with_motors, fresh_table}
use Rattle.table.specs.Sound.{head_in_range, sound_head, sound_table}

unfoldable pub computing_table : Unit {0}
unfolding computing_motor flat_map head_of card_full with_head motor_at busy_set sealed with_motor with_motors fresh_table head_in_range sound_head sound_table
computing_table = tt
