-- Document 01: what starts a drive, what changes it and what ends it.
use Rattle.std.specs.Prelude.{Ok, Err}
use Rattle.std.specs.Prelude.{ℕ, Bool, true, ◌&&◌, ◌||◌, not, cond, eqb, ltb}
use Rattle.digits.specs.Places.{origin, is_position, moved, cw, ccw}
use Rattle.record.specs.declared.Speeds.{Speeds}
use Rattle.record.specs.declared.Motor.{Motor}
use Rattle.drive.specs.declared.Course.{Course}
use Rattle.drive.specs.declared.Course.TheVariants.{Stay, Beyond, To, Along}
use Rattle.drive.specs.Numbers.{Verdict}
use Rattle.drive.specs.declared.Refusal.TheVariants.{OutOfRange, Disabled, Unread, SwitchAhead, AtLimit, AtRangeEnd, NotDriving, Full}
use Rattle.record.specs.Record.{with_wiring, with_drive, with_speed_in_force, let_go, standing}
use Rattle.motor.specs.Switches.{unread, blocked, range_end, room}
use Rattle.motor.specs.Sound.{busy}

-- "20h LSEND"
abbrev pub lsend : ℕ
lsend = 0x20

-- "0 L, 1 M, 2 H": the speed with a number
unfoldable pub speed_numbered : ℕ → Speeds → ℕ
speed_numbered k s = cond (eqb k 0) s.low (cond (eqb k 1) s.middle s.high)

-- "the selected speed"
abbrev pub selected_speed : Motor → ℕ
selected_speed m = speed_numbered m.speeds.selected m.speeds

-- the course to the place n pulses from p in a direction: none for "ABS to the present position, REL 0"; beyond the
-- positions' range; or to that place
unfoldable pub course_to : Motor → ℕ → ℕ → ℕ → Course
course_to m going p n =
    cond (eqb (moved going p n) m.place) Stay
    (cond (is_position (moved going p n)) (To (moved going p n)) Beyond)

-- the direction in which a place lies from here
unfoldable pub towards : Motor → ℕ → ℕ
towards m p = cond (ltb m.place p) cw ccw

-- 02 §5: "no room because of the end of the range": the position is that end, wherever the limit lies
abbrev pub at_range_end : Motor → ℕ → Bool
at_range_end m going = eqb m.place (range_end going)

-- what keeps a stopped motor from leaving in a direction: "A = 0; an active enabled switch ahead; no room". 02 §2: "a start on an unread
-- channel is 4, after the target check". 02 §5: "in this order, 8 to 12 for starts only: .. 8 motor disabled, 9 contacts unread, 10
-- enabled switch active ahead, 11 no room because of a digital limit, 12 no room because of the end of the range (where both, 12)": so
-- the end of the range is asked for before the room, which then only a limit can leave at none. 02 §7: "a fifth start is 14, after 13":
-- last, where as many motors are busy as the card runs at most
unfoldable pub hindrance : Bool → Motor → ℕ → Verdict
hindrance full m going =
    cond (eqb m.setup.a 0) (Err Disabled)
    (cond (unread m.wiring) (Err Unread)
    (cond (blocked going m) (Err SwitchAhead)
    (cond (at_range_end m going) (Err AtRangeEnd)
    (cond (eqb (room going m) 0) (Err AtLimit)
    (cond full (Err Full)
    (Ok tt))))))

-- of a stopped motor: "target out of range (3, for REL and JOG ..), the other causes of 4", which 02 §5 numbers 8 to 12, and 14 of 02 §7;
-- ABS to the present position and REL 0 "meet no later check"
unfoldable pub judge_start : Bool → Motor → Course → Verdict
judge_start full m Stay = Ok tt
judge_start full m Beyond = Err OutOfRange
judge_start full m (To p) = hindrance full m (towards m p)
judge_start full m (Along going) = hindrance full m going

-- what a course of one of document 01's starts is: none, beyond the range, to a position other than the present one, or CW or
-- CCW
abbrev pub well_aimed : Motor → Course → Bool
well_aimed m Stay = true
well_aimed m Beyond = true
well_aimed m (To p) = is_position p && not (eqb p m.place)
well_aimed m (Along going) = eqb going cw || eqb going ccw

-- "A start takes the selected speed, fraction 0, and clears the end flags." 02 §3: while pause is on, "an accepted start is a held
-- drive"
abbrev pub launched : Bool → Motor → ℕ → ℕ → ℕ → Motor
launched paused m going kind target =
    with_drive m 0 (record { going = going; held = paused; kind = kind; fraction = 0; speed = selected_speed m; target = target })

-- the motor after an accepted start; "ABS to the present position, REL 0 .. are OK and change nothing"
unfoldable pub started : Bool → Motor → Course → Motor
started paused m Stay = m
started paused m Beyond = m
started paused m (To p) = launched paused m (towards m p) 1 p
started paused m (Along going) = launched paused m going 0 origin

-- 02 §3: "OFF releases all": what is held is held no more, and all else of it stays
unfoldable pub released : Motor → Motor
released m = cond m.drive.held (with_drive m m.ended (let_go m.drive)) m

-- "Ending zeroes bytes 32..43", and sets the end flags
abbrev pub ended_with : ℕ → Motor → Motor
ended_with flags m = with_drive m flags standing

-- "A stop ends the drive at once"; "a stop on a stopped motor" changes nothing
unfoldable pub stopped : ℕ → Motor → Motor
stopped flags m = cond (busy m) (ended_with flags m) m

-- "4 .. SPC on a stopped motor"; 02 §5: "13 SPC on a stopped motor"
abbrev pub judge_speed_change : Motor → Verdict
judge_speed_change m = cond (busy m) (Ok tt) (Err NotDriving)

-- "SPC replaces the speed in force and keeps the fraction." 02 §3: "SPC on a held motor sets its coming speed."
unfoldable pub speed_changed : Motor → ℕ → Motor
speed_changed m v = with_drive m m.ended (with_speed_in_force m.drive v)

-- "A switch reading replaces the contacts." 02 §2: they are known from "the channel's first accepted reading" on
abbrev pub contacted : Motor → ℕ → Motor
contacted m n = with_wiring m (record { setls = m.wiring.setls; contacts = n; read = 1 })

-- "If the channel drives and the switch of its direction is now active and enabled, the drive ends at once with LSEND. HP
-- ends nothing here."
unfoldable pub switch_read : Motor → ℕ → Motor
switch_read m n =
    cond (busy m && blocked m.drive.going (contacted m n)) (ended_with lsend (contacted m n)) (contacted m n)
