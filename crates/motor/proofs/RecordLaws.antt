-- A sound motor and its record. Assumes nothing.
use Rattle.std.proofs.Common.{◌≡◌, ℕ, ◌≤◌, Bool, true, false, not, ◌&&◌, ◌||◌, eqb, List, length, refl, arith, eqb-true}
use Rattle.digits.specs.Bytes.{AllBytes}
use Rattle.record.specs.declared.Motor.{Motor}
use Rattle.record.specs.Record.{byte_at, going_of, held_of, motor_of, record_of, rest_zero}
use Rattle.record.proofs.RoundTrip.{FitsRecord, FitsBytes, FitsWay, way_fits, way_below, written_read, read_written, record_length, record_bytes, rest_clear}
use Rattle.motor.specs.Sound.{busy, moving, sound_motor, sound_record, held_right, sound_under}
use Rattle.motor.proofs.SoundLaws.{and_l, and_r, sound_bounds, sound_busy, sound_standing}

-- The speed in force of a sound motor is 5,000,000 at most, driving or not.
speed_in_force : (m : Motor) → sound_motor m ≡ true → m.drive.speed ≤ 5000000
speed_in_force m s = go (busy m) refl
  where
    go : (t : Bool) → busy m ≡ t → m.drive.speed ≤ 5000000
    go true d = (sound_busy m s d).fastest
    go false d = rw (sound_standing m s d) (omega arith)

-- The numbers of a sound motor fit the bytes that they are written in.
pub sound_fits : (m : Motor) → sound_motor m ≡ true → FitsRecord m
sound_fits m s = let b = sound_bounds m s in let v = speed_in_force m s in omega arith

pub sound_fits_bytes : (m : Motor) → sound_motor m ≡ true → FitsBytes m
sound_fits_bytes m s = let b = sound_bounds m s in let way = way_below m.drive (omega arith) in omega (arith, way)

-- Byte 32 tells the direction of a sound motor and whether it is held: one that stands is not.
pub sound_way : (m : Motor) → sound_motor m ≡ true → FitsWay m.drive
sound_way m s = way_fits m.drive (sound_bounds m s).going (λ z. rw (sound_standing m s (rw z)))

-- A sound motor that is written and read back is the same motor.
pub sound_written_read : (m : Motor) → sound_motor m ≡ true → motor_of (record_of m) ≡ m
sound_written_read m s = written_read m (sound_fits m s) (sound_way m s)

-- Sound bytes that are read and written back are the same bytes.
pub sound_read_written : (b : List ℕ) → sound_record b ≡ true → AllBytes b → record_of (motor_of b) ≡ b
unfolding sound_record
sound_read_written b s bytes =
    read_written b (eqb-true (length b) 64 (and_l _ _ (and_l _ (rest_zero b) s))) bytes (and_r (eqb (length b) 64 && sound_motor (motor_of b)) _ s)

-- The record of a sound motor is sound, and its bytes are bytes; and a sound record holds a sound motor.
pub record_sound : (m : Motor) → sound_motor m ≡ true → sound_record (record_of m) ≡ true
unfolding sound_record
record_sound m s = rw (record_length m, sound_written_read m s, s, rest_clear m)

pub sound_record_bytes : (m : Motor) → sound_motor m ≡ true → AllBytes (record_of m)
sound_record_bytes m s = record_bytes m (sound_fits_bytes m s)

-- A record that is sound in a table is sound by itself, and what is held in it is held under pause.
pub under_record : (paused : Bool) (b : List ℕ) → sound_under paused b ≡ true → sound_record b ≡ true
unfolding sound_under
under_record paused b s = and_l (sound_record b) _ s

pub under_held : (paused : Bool) (b : List ℕ) → sound_under paused b ≡ true → held_right paused (motor_of b) ≡ true
unfolding sound_under
under_held paused b s = and_r (sound_record b) _ s

pub record_motor_sound : (b : List ℕ) → sound_record b ≡ true → sound_motor (motor_of b) ≡ true
unfolding sound_record
record_motor_sound b s = and_r (eqb (length b) 64) _ (and_l _ (rest_zero b) s)

-- In a sound record byte 32 is 1 or 2 just where the motor moves.
way_moves : (n : ℕ) → going_of n ≤ 2 → (eqb n 1 || eqb n 2) ≡ (not (eqb (going_of n) 0) && not (held_of n))
way_moves n h = grind arith

pub record_moves : (b : List ℕ) → sound_record b ≡ true → (eqb (byte_at b 32) 1 || eqb (byte_at b 32) 2) ≡ moving (motor_of b)
unfolding moving motor_of
record_moves b s = way_moves (byte_at b 32) (sound_bounds (motor_of b) (record_motor_sound b s)).going
