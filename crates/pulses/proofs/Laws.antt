-- Laws of a tick's pulses, for every motor, sound or not. Assumes nothing.
use mathlib.Core.Path.{◌≡◌}
use mathlib.Core.Bool.{true, false}
use Prim.Native.Nat.{ℕ, ◌+◌, ◌*◌, ◌<◌, ◌≤◌}
use native.Mathlib.Nat.{div-add-mod, mod-lt}
use native.Mathlib.Omega.{arith}
use Rattle.digits.specs.Places.{count_of}
use Rattle.record.specs.declared.Motor.{Motor}
use Rattle.motor.specs.Sound.{moving}
use Rattle.pulses.specs.Ticks.{tick_speed, due, rest, to_target, distance_left, room_left, given, tick_motor, tick_count}

-- Nothing is rounded: what is due and what is carried are the fraction and the speed, to the thousandth, and less than a
-- pulse is carried.
pub nothing_rounded : (m : Motor) → 1000 * due m + rest m ≡ m.drive.fraction + tick_speed m
unfolding due rest
nothing_rounded m = div-add-mod (m.drive.fraction + tick_speed m) 1000

pub carried_below : (m : Motor) → rest m < 1000
unfolding rest
carried_below m = mod-lt (m.drive.fraction + tick_speed m) (omega arith)

-- The pulses given are capped by what is due, by room and, for a target, by the distance left.
pub given_due : (m : Motor) → given m ≤ due m
unfolding given
given_due m = omega arith

pub given_room : (m : Motor) → given m ≤ room_left m
unfolding given
given_room m = grind arith

pub given_distance : (m : Motor) → to_target m ≡ true → given m ≤ distance_left m
unfolding given
given_distance m e = rw e (omega arith)

-- A motor that moves goes at its speed in force.
pub speed_in_force : (m : Motor) → moving m ≡ true → tick_speed m ≡ m.drive.speed
unfolding tick_speed
speed_in_force m e = rw e

-- A motor that does not move goes at no speed, gets no pulse and stays as it is.
pub still_speed : (m : Motor) → moving m ≡ false → tick_speed m ≡ 0
unfolding tick_speed
still_speed m e = rw e

pub stopped_given_none : (m : Motor) → moving m ≡ false → tick_motor m ≡ record { motor = m; pulses = 0 }
unfolding tick_motor
stopped_given_none m e = rw e

-- Its count is 0: no pulses are counted 0 in either direction.
none_counted : (going : ℕ) → count_of going 0 ≡ 0
unfolding count_of
none_counted going = grind arith

pub stopped_count : (m : Motor) → moving m ≡ false → tick_count m ≡ 0
unfolding tick_count
stopped_count m e = rw (stopped_given_none m e) (none_counted _)
