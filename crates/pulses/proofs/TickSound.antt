-- A tick of a sound motor leaves a sound motor, and is small. Assumes nothing.
use mathlib.Core.Path.{◌≡◌, refl}
use mathlib.Core.Bool.{Bool, true, false, cond}
use Prim.Native.Nat.{ℕ, ◌≤◌}
use native.Mathlib.Omega.{arith}
use lib.Dec.{eqb, leb}
use borrow.Author.Tests.{le-leb}
use Rattle.digits.specs.Places.{origin, ahead}
use Rattle.record.specs.declared.Motor.{Motor}
use Rattle.motor.specs.Switches.{blocked, edge, room}
use Rattle.motor.specs.Sound.{aim_right, moving, sound_motor}
use Rattle.motor.proofs.MovingLaws.{moving_busy}
use Rattle.motor.proofs.SoundLaws.{InRange, sound_parts, sound_busy, busy_sound, range_bounds, sound_bounds, target_position, bounds_drive}
use Rattle.motor.proofs.RoomLaws.{ahead_moved, room_moved, room_position}
use Rattle.pulses.specs.declared.Ticked.{Ticked}
use Rattle.drive.specs.Drives.{lsend}
use Rattle.pulses.specs.Ticks.{tick_speed, due, to_target, distance_left, given, reached, advanced, goes_on, tick_motor}
use Rattle.pulses.proofs.Laws.{nothing_rounded, carried_below, given_room}
use Rattle.pulses.proofs.TickLaws.{Way, rests, arrives, ends, goes, way, reached_not, room_not, never_early}
use Rattle.drive.proofs.KeptSound.{ended_sound}

-- A tick leaves a sound motor: within its room it stays on positions, and a drive that goes on has room and distance left.
pub advanced_in_range : (m : Motor) → InRange m → InRange (advanced m)
advanced_in_range m r = let place = room_position m.drive.going m (given m) r (given_room m) in search

goes_on_aimed : (m : Motor) → aim_right m ≡ true → reached m ≡ false → aim_right (goes_on m) ≡ true
unfolding aim_right distance_left
goes_on_aimed m a r = go (to_target m) refl
  where
    left : ℕ
    left = ahead m.drive.going (advanced m).place m.drive.target

    go : (t : Bool) → to_target m ≡ t → cond t (leb 1 left) (eqb m.drive.target origin) ≡ true
    go true t =
        le-leb 1 left (omega (arith, ahead_moved m.drive.going m.place m.drive.target (given m), reached_not m r t))
    go false t = rw t at a

pub tick_sound : (m : Motor) → sound_motor m ≡ true → sound_motor (tick_motor m).motor ≡ true
unfolding room edge blocked
tick_sound m s = go (way m)
  where
    r : InRange (advanced m)
    r = advanced_in_range m (sound_parts m s).range

    go : {t : Ticked} → Way m t → sound_motor t.motor ≡ true
    go (rests d) = s
    go (arrives d e) = ended_sound 0 (advanced m) refl r
    go (ends d e u) = ended_sound lsend (advanced m) refl r
    go (goes d e u) =
        let w = sound_busy m s (moving_busy m d) in
        let b = range_bounds (advanced m) r in
        let drive = bounds_drive (goes_on m).drive b.going b.kind (omega (arith, carried_below m)) (target_position m.drive r.drive) in
        let leeway : 1 ≤ room m.drive.going (goes_on m) = omega (arith, room_moved m.drive.going m (given m), room_not m u) in
        let aim = goes_on_aimed m w.aim e in
        busy_sound (goes_on m) (search r) (search) (moving_busy m d)

-- A tick of a sound motor goes at 5,000,000 pps at most, and gives 5,000 pulses at most.
pub tick_speed_bound : (m : Motor) → sound_motor m ≡ true → tick_speed m ≤ 5000000
unfolding tick_speed
tick_speed_bound m s = go (moving m) refl
  where
    go : (t : Bool) → moving m ≡ t → cond t m.drive.speed 0 ≤ 5000000
    go true d = (sound_busy m s (moving_busy m d)).fastest
    go false d = omega arith

pub due_bound : (m : Motor) → sound_motor m ≡ true → due m ≤ 5000
due_bound m s = omega (arith, nothing_rounded m, tick_speed_bound m s, (sound_bounds m s).fraction)

pub pulses_bound : (m : Motor) → sound_motor m ≡ true → (tick_motor m).pulses ≤ 5000
pulses_bound m s = omega (arith, never_early m, tick_speed_bound m s, (sound_bounds m s).fraction)
