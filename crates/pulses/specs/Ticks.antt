-- Document 01, "One tick", of one motor.
use Rattle.std.specs.Prelude.{ℕ, zero, suc, ◌+◌, ◌-◌, ◌/◌, ◌%◌, min, Bool, ◌&&◌, cond, eqb}
use Rattle.digits.specs.Places.{moved, ahead, count_of}
use Rattle.record.specs.declared.Motor.{Motor}
use Rattle.pulses.specs.declared.Ticked.{Ticked}
use Rattle.record.specs.Record.{with_place, with_drive, with_fraction}
use Rattle.motor.specs.Switches.{room}
use Rattle.motor.specs.Sound.{moving}
use Rattle.drive.specs.Drives.{ended_with, lsend}

-- the speed that a tick goes at: "the speed in force"; a motor that does not move goes at none
unfoldable pub tick_speed : Motor → ℕ
tick_speed m = cond (moving m) m.drive.speed 0

-- "add the speed to the fraction; the thousands are due"
unfoldable pub due : Motor → ℕ
due m = (m.drive.fraction + tick_speed m) / 1000

-- "the rest is the new fraction"
unfoldable pub rest : Motor → ℕ
rest m = (m.drive.fraction + tick_speed m) % 1000

-- "kind: 0 scan, 1 to a target"
abbrev pub to_target : Motor → Bool
to_target m = eqb m.drive.kind 1

-- "the distance left"
unfoldable pub distance_left : Motor → ℕ
distance_left m = ahead m.drive.going m.place m.drive.target

-- "room", in the direction of the drive
abbrev pub room_left : Motor → ℕ
room_left m = room m.drive.going m

-- "room and, for a target, the distance left": the least of them
abbrev pub allowed : Motor → ℕ
allowed m = cond (to_target m) (min (room_left m) (distance_left m)) (room_left m)

-- "Pulses given are the least of due, room and, for a target, the distance left."
unfoldable pub given : Motor → ℕ
given m = min (due m) (allowed m)

-- "If the target is reached"
unfoldable pub reached : Motor → Bool
reached m = to_target m && eqb (given m) (distance_left m)

-- "if room is used up"
unfoldable pub used_up : Motor → Bool
used_up m = eqb (given m) (room_left m)

-- "Position moves by them."
abbrev pub advanced : Motor → Motor
advanced m = with_place m (moved m.drive.going m.place (given m))

-- "the rest is the new fraction": the drive goes on with it
abbrev pub goes_on : Motor → Motor
goes_on m = with_drive (advanced m) m.ended (with_fraction m.drive (rest m))

-- "If the target is reached the drive ends with flags 0, also where it lies on a limit; otherwise, if room is used up, it
-- ends with LSEND."
unfoldable pub driven_on : Motor → Motor
driven_on m = cond (reached m) (ended_with 0 (advanced m)) (cond (used_up m) (ended_with lsend (advanced m)) (goes_on m))

-- one tick of one motor: the motor after it, and the pulses given, none to a motor that does not move
unfoldable pub tick_motor : Motor → Ticked
tick_motor m =
    cond (moving m) (record { motor = driven_on m; pulses = given m }) (record { motor = m; pulses = 0 })

-- the count that a tick puts into the pulse buffer: "CW positive, 0 for a stopped motor"
unfoldable pub tick_count : Motor → ℕ
tick_count m = count_of m.drive.going (tick_motor m).pulses

-- k ticks of one motor, with no stop, SPC or switch reading between them
unfoldable pub ticks : ℕ → Motor → Motor
ticks zero m = m
ticks (suc k) m = (tick_motor (ticks k m)).motor

-- "rounded up": a / v, for v from 1 on
abbrev pub rounded_up : ℕ → ℕ → ℕ
rounded_up a v = (a + (v - 1)) / v
