-- Document 01, "The table": one record of 64 bytes, read out and written back, and the record of a fresh table.
use Rattle.std.specs.Prelude.{ℕ, ◌+◌, ◌-◌, List, [], ◌∷◌, Bool, false, ◌||◌, cond, replicate, eqb}
use Rattle.digits.specs.Bytes.{part, joined, all_zero}
use Rattle.digits.specs.Words.{word, word_bytes}
use Rattle.digits.specs.Places.{origin, place_of, word_of, cw, ccw}
use Rattle.record.specs.declared.Limits.{Limits}
use Rattle.record.specs.declared.Speeds.{Speeds}
use Rattle.record.specs.declared.Wiring.{Wiring}
use Rattle.record.specs.declared.Setup.{Setup}
use Rattle.record.specs.declared.Drive.{Drive}
use Rattle.record.specs.declared.Motor.{Motor}

-- the byte at an offset of a record
abbrev pub byte_at : List ℕ → ℕ → ℕ
byte_at b at = word (part b at 1)

-- the number in the two bytes from an offset on
abbrev pub short_at : List ℕ → ℕ → ℕ
short_at b at = word (part b at 2)

-- the number in the four bytes from an offset on
abbrev pub long_at : List ℕ → ℕ → ℕ
long_at b at = word (part b at 4)

-- the place of the signed number in the four bytes from an offset on
abbrev pub place_at : List ℕ → ℕ → ℕ
place_at b at = place_of (long_at b at)

-- 4-7, 8-11 "CW digital limit, CCW digital limit"
abbrev pub limits_of : List ℕ → Limits
limits_of b = record { cw = place_at b 4; ccw = place_at b 8 }

-- 12-15, 16-19, 20-23 "HSPD, MSPD, LSPD"; 24 "selected speed: 0 L, 1 M, 2 H"
abbrev pub speeds_of : List ℕ → Speeds
speeds_of b = record { high = long_at b 12; middle = long_at b 16; low = long_at b 20; selected = byte_at b 24 }

-- 25 "the SETLS digits DYYY0yyy read as a binary byte"; 26 "contacts, closed = 1: bit 0 CW, bit 1 CCW, bit 2 HP". 02 §2:
-- "Contacts must be unknown until the channel's first accepted reading. Record byte 44 says so (0 unknown, ..; 1 read)"
abbrev pub wiring_of : List ℕ → Wiring
wiring_of b = record { setls = byte_at b 25; contacts = byte_at b 26; read = byte_at b 44 }

-- 27, 28, 29, 30 "SETMT digits A (0, 1), B (0, 1), C (0), D (0..2)"
abbrev pub setup_of : List ℕ → Setup
setup_of b = record { a = byte_at b 27; b = byte_at b 28; c = byte_at b 29; d = byte_at b 30 }

-- the direction that byte 32 tells: "0 stopped, 1 CW, 2 CCW"; 02 §3: "a held drive: byte 32 is 3 (CW) or 4 (CCW)"
abbrev pub going_of : ℕ → ℕ
going_of b = cond (eqb b 3) cw (cond (eqb b 4) ccw b)

-- whether it tells a held drive
abbrev pub held_of : ℕ → Bool
held_of b = eqb b 3 || eqb b 4

-- and the byte that tells both of a drive
abbrev pub going_byte : Drive → ℕ
going_byte d = cond d.held (cond (eqb d.going cw) 3 4) d.going

-- 32, 33 "0 stopped, 1 CW, 2 CCW; kind: 0 scan, 1 to a target"; 34-35, 36-39, 40-43 "fraction 0..999, speed in force, target"
abbrev pub drive_of : List ℕ → Drive
drive_of b =
    record {
      going = going_of (byte_at b 32);
      held = held_of (byte_at b 32);
      kind = byte_at b 33;
      fraction = short_at b 34;
      speed = long_at b 36;
      target = place_at b 40;
    }

-- the motor that a record holds: all that the table of "Record bytes" lists; 0-3 "position", 31 "end flags: 80h ESEND, 40h
-- SSEND, 20h LSEND, or 0"
unfoldable pub motor_of : List ℕ → Motor
motor_of b =
    record {
      place = place_at b 0;
      limits = limits_of b;
      speeds = speeds_of b;
      wiring = wiring_of b;
      setup = setup_of b;
      ended = byte_at b 31;
      drive = drive_of b;
    }

-- "signed ones are two's complement": a place in its four bytes
abbrev pub place_bytes : ℕ → List ℕ
place_bytes p = word_bytes 4 (word_of p)

-- 4-7, 8-11 as they are written
abbrev pub limit_bytes : Limits → List ℕ
limit_bytes l = joined (place_bytes l.cw ∷ place_bytes l.ccw ∷ [])

-- 12-15, 16-19, 20-23, 24 as they are written
abbrev pub speed_bytes : Speeds → List ℕ
speed_bytes s = joined (word_bytes 4 s.high ∷ word_bytes 4 s.middle ∷ word_bytes 4 s.low ∷ (s.selected ∷ []) ∷ [])

-- 25, 26 as they are written; 44 is written after the drive
abbrev pub wiring_bytes : Wiring → List ℕ
wiring_bytes w = w.setls ∷ w.contacts ∷ []

-- 27, 28, 29, 30 as they are written
abbrev pub setup_bytes : Setup → List ℕ
setup_bytes s = s.a ∷ s.b ∷ s.c ∷ s.d ∷ []

-- 0-30 as they are written: the position and the settings
unfoldable pub setting_bytes : Motor → List ℕ
setting_bytes m =
    joined
    (place_bytes m.place ∷ limit_bytes m.limits ∷ speed_bytes m.speeds ∷ wiring_bytes m.wiring ∷ setup_bytes m.setup ∷ [])

-- 32, 33, 34-35, 36-39, 40-43 as they are written
abbrev pub drive_bytes : Drive → List ℕ
drive_bytes d =
    joined ((going_byte d ∷ d.kind ∷ []) ∷ word_bytes 2 d.fraction ∷ word_bytes 4 d.speed ∷ place_bytes d.target ∷ [])

-- what is written after the drive: 44, whether the contacts are read, and zeros where 01 has "44-63 | zero" still
abbrev pub rest_bytes : Motor → List ℕ
rest_bytes m = joined ((m.wiring.read ∷ []) ∷ replicate 19 0 ∷ [])

-- "every byte given as zero is zero": those of a record that no topic has
abbrev pub rest_zero : List ℕ → Bool
rest_zero b = all_zero (part b 45 19)

-- the record of a motor: the topics in the order of their bytes
unfoldable pub record_of : Motor → List ℕ
record_of m = joined (setting_bytes m ∷ (m.ended ∷ []) ∷ drive_bytes m.drive ∷ rest_bytes m ∷ [])

-- the motor with another position
abbrev pub with_place : Motor → ℕ → Motor
with_place m p = record { place = p; limits = m.limits; speeds = m.speeds; wiring = m.wiring; setup = m.setup; ended = m.ended; drive = m.drive }

-- the motor with other digital limits
abbrev pub with_limits : Motor → Limits → Motor
with_limits m l = record { place = m.place; limits = l; speeds = m.speeds; wiring = m.wiring; setup = m.setup; ended = m.ended; drive = m.drive }

-- the motor with other speeds
abbrev pub with_speeds : Motor → Speeds → Motor
with_speeds m s = record { place = m.place; limits = m.limits; speeds = s; wiring = m.wiring; setup = m.setup; ended = m.ended; drive = m.drive }

-- the motor with another SETLS byte, or other contacts, known or not
abbrev pub with_wiring : Motor → Wiring → Motor
with_wiring m w = record { place = m.place; limits = m.limits; speeds = m.speeds; wiring = w; setup = m.setup; ended = m.ended; drive = m.drive }

-- the motor with other SETMT digits
abbrev pub with_setup : Motor → Setup → Motor
with_setup m s = record { place = m.place; limits = m.limits; speeds = m.speeds; wiring = m.wiring; setup = s; ended = m.ended; drive = m.drive }

-- the motor with other end flags and another drive: they change together, since a start clears the flags and an end sets
-- them
abbrev pub with_drive : Motor → ℕ → Drive → Motor
with_drive m e d = record { place = m.place; limits = m.limits; speeds = m.speeds; wiring = m.wiring; setup = m.setup; ended = e; drive = d }

-- the drive with another fraction carried
abbrev pub with_fraction : Drive → ℕ → Drive
with_fraction d n = record { going = d.going; held = d.held; kind = d.kind; fraction = n; speed = d.speed; target = d.target }

-- the drive with another speed in force
abbrev pub with_speed_in_force : Drive → ℕ → Drive
with_speed_in_force d v = record { going = d.going; held = d.held; kind = d.kind; fraction = d.fraction; speed = v; target = d.target }

-- the drive held no more
abbrev pub let_go : Drive → Drive
let_go d = record { going = d.going; held = false; kind = d.kind; fraction = d.fraction; speed = d.speed; target = d.target }

-- "a stopped record has zeros in 33..43": no drive. Target field 0 is the place of position 0.
abbrev pub standing : Drive
standing = record { going = 0; held = false; kind = 0; fraction = 0; speed = 0; target = origin }

-- "Fresh: .. position 0, limits +1,000,000 and -1,000,000 (003), HSPD 1000, MSPD 800, LSPD 50, selected M, SETLS 01110000,
-- SETMT 1100, contacts all open, stopped." 02 §2: they are unknown
unfoldable pub fresh_motor : Motor
fresh_motor =
    record {
      place = origin;
      limits = record { cw = origin + 1000000; ccw = origin - 1000000 };
      speeds = record { high = 1000; middle = 800; low = 50; selected = 1 };
      wiring = record { setls = 0b01110000; contacts = 0; read = 0 };
      setup = record { a = 1; b = 1; c = 0; d = 0 };
      ended = 0;
      drive = standing;
    }
