-- Document 01, "The table": "A table is *sound* when every field is in its range, every byte given as zero is zero, and" the
-- rules for a stopped and for a driving record hold. Here: of one record.
use Rattle.std.specs.Prelude.{ℕ, Bool, cond, not, ◌&&◌, ◌||◌, List, length, ◌==◌, nat_le}
use Rattle.digits.specs.Words.{is_set}
use Rattle.digits.specs.Places.{origin, is_position, ahead}
use Rattle.record.specs.declared.Limits.{Limits}
use Rattle.record.specs.declared.Speeds.{Speeds}
use Rattle.record.specs.declared.Wiring.{Wiring}
use Rattle.record.specs.declared.Setup.{Setup}
use Rattle.record.specs.declared.Drive.{Drive}
use Rattle.record.specs.declared.Motor.{Motor}
use Rattle.record.specs.Record.{motor_of, rest_zero}
use Rattle.motor.specs.Switches.{unread, blocked, room}

-- "Speeds run from 1 to 5,000,000 pulses per second"
abbrev pub is_speed : ℕ → Bool
is_speed v = nat_le 1 v && nat_le v 5000000

-- "positions": the digital limits are positions
unfoldable pub limits_in_range : Limits → Bool
limits_in_range l = is_position l.cw && is_position l.ccw

-- "HSPD, MSPD, LSPD", "selected speed: 0 L, 1 M, 2 H"
unfoldable pub speeds_in_range : Speeds → Bool
speeds_in_range s = is_speed s.high && is_speed s.middle && is_speed s.low && nat_le s.selected 2

-- "DYYY0yyy read as a binary byte": its 0 is bit 3; "contacts, closed = 1": three bits
unfoldable pub wiring_in_range : Wiring → Bool
wiring_in_range w = nat_le w.setls 255 && not (is_set 3 w.setls) && nat_le w.contacts 7

-- 02 §2: "Record byte 44 says so (0 unknown, with contacts 0; 1 read)"
unfoldable pub contacts_right : Wiring → Bool
contacts_right w = cond (unread w) (w.contacts == 0) (w.read == 1)

-- "SETMT digits A (0, 1), B (0, 1), C (0), D (0..2)"
unfoldable pub setup_in_range : Setup → Bool
setup_in_range s = nat_le s.a 1 && nat_le s.b 1 && s.c == 0 && nat_le s.d 2

-- "end flags: 80h ESEND, 40h SSEND, 20h LSEND, or 0"
abbrev pub end_flags_in_range : ℕ → Bool
end_flags_in_range e = e == 0 || e == 0x20 || e == 0x40 || e == 0x80

-- "0 stopped, 1 CW, 2 CCW; kind: 0 scan, 1 to a target", "fraction 0..999", and a target that is a position; the direction is that
-- of a held drive too
unfoldable pub drive_in_range : Drive → Bool
drive_in_range d = nat_le d.going 2 && nat_le d.kind 1 && nat_le d.fraction 999 && is_position d.target

-- the position and the settings are in their ranges
unfoldable pub settings_in_range : Motor → Bool
settings_in_range m =
    is_position m.place && limits_in_range m.limits && speeds_in_range m.speeds && wiring_in_range m.wiring
    && setup_in_range m.setup

-- "every field is in its range"
unfoldable pub in_range : Motor → Bool
in_range m = settings_in_range m && end_flags_in_range m.ended && contacts_right m.wiring && drive_in_range m.drive

-- "a stopped record has zeros in 33..43", and nothing of it is held
unfoldable pub at_rest : Drive → Bool
at_rest d = not d.held && d.kind == 0 && d.fraction == 0 && d.speed == 0 && d.target == origin

-- "for a target, a target strictly ahead (for a scan, target field 0)"
unfoldable pub aim_right : Motor → Bool
aim_right m =
    cond (m.drive.kind == 1)
    (nat_le 1 (ahead m.drive.going m.place m.drive.target))
    (m.drive.target == origin)

-- "a driving record has end flags 0, A = 1, at least one pulse of room (below), no active enabled switch in its direction,
-- and" the aim above; its speed in force is a speed. 02 §2: "a driving record has 1", in byte 44; 02 §3: a held record is sound
-- "otherwise as a driving one"
unfoldable pub under_way : Motor → Bool
under_way m =
    (m.ended == 0) && m.setup.a == 1 && m.wiring.read == 1 && is_speed m.drive.speed
    && (nat_le 1 (room m.drive.going m) && not (blocked m.drive.going m) && aim_right m)

-- byte 32 is 1 to 4: a motor is busy when it is not "0 stopped"; 02 §3: "A held channel counts as driving for busy, stops and switch
-- readings"
abbrev pub busy : Motor → Bool
busy m = not (m.drive.going == 0)

-- byte 32 is 1 or 2: it moves, "1 CW, 2 CCW", and gets pulses; 02 §3: a held channel "gets no pulses"
unfoldable pub moving : Motor → Bool
moving m = busy m && not m.drive.held

-- a motor is sound: its fields are in range, and it keeps the rules for a stopped or for a driving record
unfoldable pub sound_motor : Motor → Bool
sound_motor m = in_range m && cond (busy m) (under_way m) (at_rest m.drive)

-- a record is sound: 64 bytes, a sound motor in them, and "every byte given as zero is zero"
unfoldable pub sound_record : List ℕ → Bool
sound_record b = length b == 64 && sound_motor (motor_of b) && rest_zero b

-- 02 §3: "a held record is sound only under pause"; whether pause is on is for the table to say
abbrev pub held_right : Bool → Motor → Bool
held_right paused m = paused || not m.drive.held

-- a record is sound in a table: by itself, and with what the table says of pause
unfoldable pub sound_under : Bool → List ℕ → Bool
sound_under paused b = sound_record b && held_right paused (motor_of b)
