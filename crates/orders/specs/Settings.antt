-- Document 01, "Lines": what a start or a setting means for the motor that it names.
use Rattle.std.specs.Prelude.{ℕ, ◌+◌, ◌*◌, cond, eqb}
use Rattle.digits.specs.Places.{origin, moved, cw, ccw}
use Rattle.record.specs.declared.Speeds.{Speeds}
use Rattle.record.specs.declared.Motor.{Motor}
use Rattle.record.specs.Record.{with_place, with_limits, with_speeds, with_wiring, with_setup}
use Rattle.drive.specs.declared.Course.{Course}
use Rattle.drive.specs.declared.Course.TheVariants.{Along}
use Rattle.drive.specs.Drives.{course_to}
use Rattle.line.specs.declared.Written.{Written}
use Rattle.line.specs.declared.Four.{Four}
use Rattle.line.specs.declared.Start.{Start}
use Rattle.line.specs.declared.Start.TheVariants.{Abs, Rel, Scan, Jog}
use Rattle.line.specs.declared.Setting.{Setting}
use Rattle.line.specs.declared.Setting.TheVariants.{Preset, SetCwLimit, SetCcwLimit, Select, SetSpeed, SetSwitches, SetMotor}
use Rattle.orders.specs.Values.{setup_written}

-- a sign as a direction: + is CW
abbrev pub direction_of : Written → ℕ
direction_of w = cond w.minus ccw cw

-- the place of the position that ±d writes; "-0 is 0"
abbrev pub place_written : Written → ℕ
place_written w = moved (direction_of w) origin w.digits

-- where a start wants to go: ABS to the place named, "REL's target is the position plus d", "JOG is REL by +1 or -1"
abbrev pub course_of : Motor → Start → Course
course_of m (Abs w) = course_to m (direction_of w) origin w.digits
course_of m (Rel w) = course_to m (direction_of w) m.place w.digits
course_of m (Scan going) = Along going
course_of m (Jog going) = course_to m going m.place 1

-- the speeds with another one selected
abbrev pub selecting : Speeds → ℕ → Speeds
selecting s k = record s { selected = k }

-- "0 L, 1 M, 2 H": the speeds with the one numbered k replaced
abbrev pub with_speed : Speeds → ℕ → ℕ → Speeds
with_speed s k v =
    record {
      high = cond (eqb k 2) v s.high;
      middle = cond (eqb k 1) v s.middle;
      low = cond (eqb k 0) v s.low;
      selected = s.selected;
    }

-- "read as a binary byte": four of its digits
abbrev pub binary : Four → ℕ
binary q = 8 * q.a + 4 * q.b + 2 * q.c + q.d

-- the motor after an accepted setting; "the SETLS digits DYYY0yyy read as a binary byte"
unfoldable pub with_setting : Motor → Setting → Motor
with_setting m (Preset w) = with_place m (place_written w)
with_setting m (SetCwLimit w) = with_limits m (record { cw = place_written w; ccw = m.limits.ccw })
with_setting m (SetCcwLimit w) = with_limits m (record { cw = m.limits.cw; ccw = place_written w })
with_setting m (Select k) = with_speeds m (selecting m.speeds k)
with_setting m (SetSpeed k v) = with_speeds m (with_speed m.speeds k v)
with_setting m (SetSwitches q r) =
    with_wiring m (record { setls = 16 * binary q + binary r; contacts = m.wiring.contacts; read = m.wiring.read })
with_setting m (SetMotor q) = with_setup m (setup_written q)
