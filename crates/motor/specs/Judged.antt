-- In which order the code judges a record, part by part: what is cheap comes first, and what a motor that stands does not have is not
-- asked for. Nobody need believe it: proofs/JudgedLaws.antt says that together it is soundness.
use Rattle.std.specs.Prelude.{ℕ, Bool, cond, not, ◌&&◌, ◌||◌, List, ◌==◌, nat_le}
use Rattle.digits.specs.Bytes.{part, all_zero}
use Rattle.digits.specs.Words.{word}
use Rattle.digits.specs.Places.{origin, is_position, ahead}
use Rattle.record.specs.declared.Drive.{Drive}
use Rattle.record.specs.declared.Motor.{Motor}
use Rattle.record.specs.Record.{byte_at, long_at, wiring_of, motor_of}
use Rattle.motor.specs.Switches.{blocked, room}
use Rattle.motor.specs.Sound.{is_speed, limits_in_range, wiring_in_range, contacts_right, setup_in_range, end_flags_in_range, settings_in_range, busy, sound_under}

-- the speeds and the fields of one byte
abbrev pub fields_right : Motor → Bool
fields_right m =
    is_speed m.speeds.high && is_speed m.speeds.middle && is_speed m.speeds.low
    && (nat_le m.speeds.selected 2 && wiring_in_range m.wiring && setup_in_range m.setup && end_flags_in_range m.ended)

-- a pulse of room and no active enabled switch in a direction
abbrev pub clear_ahead : ℕ → Motor → Bool
clear_ahead going m = nat_le 1 (room going m) && not (blocked going m)

-- the kind and the target of a drive from a place
abbrev pub aimed : ℕ → ℕ → Drive → Bool
aimed going p d =
    cond (d.kind == 1) (is_position d.target && nat_le 1 (ahead going p d.target)) (d.kind == 0 && d.target == origin)

-- the position, the aim, the limits and what lies ahead, in a direction
abbrev pub free : ℕ → Motor → Bool
free going m = is_position m.place && (aimed going m.place m.drive && (limits_in_range m.limits && clear_ahead going m))

-- all of a drive but byte 32, and what it asks of the motor
abbrev pub drives_right : Motor → Bool
drives_right m =
    (m.ended == 0) && m.setup.a == 1 && is_speed m.drive.speed && nat_le m.drive.fraction 999 && free m.drive.going m

-- byte 32 of a drive: 3 and 4, held drives, under pause alone
abbrev pub way_allowed : Bool → ℕ → Bool
way_allowed paused n = nat_le 1 n && (nat_le n 2 || (paused && nat_le n 4))

-- a record with a drive, bytes 0 to 47
abbrev pub driving_judged : Bool → List ℕ → Bool
driving_judged paused b =
    (long_at b 44 == 1) && (way_allowed paused (byte_at b 32) && (drives_right (motor_of b) && fields_right (motor_of b)))

-- bytes 40 to 47 of a record without a drive: no target, the contacts, and zeros
abbrev pub told : List ℕ → Bool
told b = long_at b 40 == 0 && (contacts_right (wiring_of b) && all_zero (part b 45 3))

-- a record without a drive, bytes 0 to 47
abbrev pub standing_judged : List ℕ → Bool
standing_judged b = word (part b 32 8) == 0 && (told b && (settings_in_range (motor_of b) && end_flags_in_range (motor_of b).ended))

-- a record is sound in a table, and what the busy set says of it is so
abbrev pub sound_listed : Bool → Bool → List ℕ → Bool
sound_listed paused listed b = sound_under paused b && cond listed (busy (motor_of b)) (not (busy (motor_of b)))
