-- What demand 3 adds up for a channel, from what is seen outside: which calls are accepted, the pulse buffers, and whether the
-- channel stands stopped. It knows no fraction, and which drives are held it knows from the accepted lines alone.
use Rattle.std.specs.Prelude.{ℕ, zero, suc, ◌+◌, ◌*◌, ◌-◌, List, [], ◌∷◌, Bool, true, false, ◌&&◌, ◌||◌, not, cond, eqb, ltb}
use Rattle.digits.specs.Bytes.{part}
use Rattle.digits.specs.Words.{word}
use Rattle.digits.specs.Places.{origin, cw}
use Rattle.record.specs.declared.Motor.{Motor}
use Rattle.motor.specs.Sound.{busy}
use Rattle.drive.specs.declared.Course.{Course}
use Rattle.drive.specs.declared.Course.TheVariants.{Stay, To, Along}
use Rattle.drive.specs.Drives.{selected_speed, towards, contacted}
use Rattle.pulses.specs.Ticks.{to_target}
use Rattle.line.specs.declared.Start.{Start}
use Rattle.line.specs.declared.Start.TheVariants.{Abs, Rel, Scan, Jog}
use Rattle.line.specs.declared.Setting.{Setting}
use Rattle.line.specs.declared.Setting.TheVariants.{Preset, SetCwLimit, SetCcwLimit, Select, SetSpeed, SetSwitches, SetMotor}
use Rattle.orders.specs.Settings.{direction_of, place_written, course_of, with_setting}
use Rattle.table.specs.Layout.{motor_at}
use Rattle.laws.specs.Sequences.{Library, Call, after}
use Rattle.laws.specs.Deeds.{Deed, starts, stops, speeds, sets, reads, ticks, pauses, rests, deed, is_tick}

-- "sixteen signed 32-bit counts": the word of channel c in a pulse buffer
abbrev pub count_at : List ℕ → ℕ → ℕ
count_at b c = word (part b (4 * c) 4)

-- "CW positive": the CW pulses that a count tells, and the CCW pulses
unfoldable pub cw_pulses : ℕ → ℕ
cw_pulses n = cond (ltb n 2147483648) n 0

unfoldable pub ccw_pulses : ℕ → ℕ
ccw_pulses n = cond (ltb n 2147483648) 0 (4294967296 - n)

-- the pulses of a count that go against a direction
abbrev pub against : ℕ → ℕ → ℕ
against going n = cond (eqb going cw) (ccw_pulses n) (cw_pulses n)

-- the last drive of a channel, as far as it has come
pub record Account : Type 0 where
  -- it lasts
  pub lasts : Bool
  -- its ticks count: they add their speed and give pulses. 02 §3: a held channel "gets no pulses, and in demand 3 its ticks add no
  -- speed", from an accepted start under pause until an accepted PAUSE OFF
  pub counting : Bool
  -- pause is on: after an accepted PAUSE ON, until an accepted PAUSE OFF
  pub paused : Bool
  -- its direction, 1 CW, 2 CCW
  pub going : ℕ
  -- where it goes, as its start asks
  pub aim : Course
  -- its speed in force
  pub speed : ℕ
  -- S: "the speeds in force at its accepted ticks", added up
  pub sum : ℕ
  -- P: "the pulses given"
  pub pulses : ℕ

-- no drive yet
abbrev pub no_drive : Account
no_drive = record { lasts = false; counting = true; paused = false; going = 0; aim = Stay; speed = 0; sum = 0; pulses = 0 }

-- a drive that begins in a direction, somewhere, at a speed; 02 §3: while pause is on, "an accepted start is a held drive"
abbrev pub new_drive : Bool → ℕ → Course → ℕ → Account
new_drive paused going aim speed =
    record { lasts = true; counting = not paused; paused = paused; going = going; aim = aim; speed = speed; sum = 0; pulses = 0 }

-- the account with another speed in force
abbrev pub at_speed : Account → ℕ → Account
at_speed a v =
    record { lasts = a.lasts; counting = a.counting; paused = a.paused; going = a.going; aim = a.aim; speed = v; sum = a.sum; pulses = a.pulses }

-- the account after a tick that counts: its speed and its pulses n are added
abbrev pub with_tick : Account → ℕ → Account
with_tick a n =
    record { lasts = a.lasts; counting = a.counting; paused = a.paused; going = a.going; aim = a.aim; speed = a.speed; sum = a.sum + a.speed; pulses = a.pulses + n }

-- the account after PAUSE ON, 1, or PAUSE OFF, 0; 02 §3: "OFF releases all"
abbrev pub pausing : Account → ℕ → Account
pausing a k =
    record { lasts = a.lasts; counting = a.counting || eqb k 0; paused = eqb k 1; going = a.going; aim = a.aim; speed = a.speed; sum = a.sum; pulses = a.pulses }

-- a tick is one of the drive's: it lasts, and its ticks count
abbrev pub takes_ticks : Account → Bool
takes_ticks a = a.lasts && a.counting

-- an accepted start is a drive, but for "ABS to the present position, REL 0"
unfoldable pub sets_off : Motor → Start → Bool
sets_off m (Abs w) = not (eqb (place_written w) m.place)
sets_off m (Rel w) = not (eqb w.digits 0)
sets_off m (Scan going) = true
sets_off m (Jog going) = true

-- the direction that a start asks for: "P is CW", ABS goes towards the place that it names, and REL by its sign
unfoldable pub way_of : Motor → Start → ℕ
way_of m (Abs w) = towards m (place_written w)
way_of m (Rel w) = direction_of w
way_of m (Scan going) = going
way_of m (Jog going) = going

-- where the drive of a motor goes, as the table has it: to its target, or on in its direction
unfoldable pub course_in : Motor → Course
course_in m = cond (to_target m) (To m.drive.target) (Along m.drive.going)

-- what a deed on the motor m is to its account, with the pulses n of the channel's count: "A start takes the selected speed",
-- "SPC replaces the speed in force", and a tick of the drive adds its speed and its pulses
unfoldable pub booked : Motor → ℕ → Account → Deed → Account
booked m n a (starts s) =
    cond (sets_off m s) (new_drive a.paused (way_of m s) (course_of m s) (selected_speed m)) a
booked m n a (stops flags) = a
booked m n a (speeds v) = at_speed a v
booked m n a (sets s) = a
booked m n a (reads contacts) = a
booked m n a ticks = cond (takes_ticks a) (with_tick a n) a
booked m n a (pauses k) = pausing a k
booked m n a rests = a

-- a drive ends where the channel stands stopped after a call
abbrev pub closed : Motor → Account → Account
closed m a =
    record { lasts = a.lasts && busy m; counting = a.counting; paused = a.paused; going = a.going; aim = a.aim; speed = a.speed; sum = a.sum; pulses = a.pulses }

-- the account after one call on a table
unfoldable pub entered : Library → ℕ → List ℕ → Account → Call → Account
entered l c t a k =
    let u = after l t k in
    let n = count_at u.buffer c in
    closed (motor_at u.table c) (booked (motor_at t c) (cw_pulses n + ccw_pulses n) a (deed c t k))

-- the account of channel c after a sequence of calls on a table
unfoldable pub account : Library → ℕ → List ℕ → Account → List Call → Account
account l c t a [] = a
account l c t a (k ∷ ks) = account l c (after l t k).table (entered l c t a k) ks

-- how many accepted ticks of a sequence count for channel c
abbrev pub one_more : Bool → ℕ → ℕ
one_more test n = cond test (suc n) n

unfoldable pub ticks_in : Library → ℕ → List ℕ → Account → List Call → ℕ
ticks_in l c t a [] = zero
ticks_in l c t a (k ∷ ks) =
    one_more (is_tick (deed c t k) && a.counting) (ticks_in l c (after l t k).table (entered l c t a k) ks)

-- the way of a channel: the place of "its last accepted preset, or zero", and the CW and CCW pulses given since
pub record Travel : Type 0 where
  pub preset : ℕ
  pub cw : ℕ
  pub ccw : ℕ

-- from zero, with no pulse yet
abbrev pub no_travel : Travel
no_travel = record { preset = origin; cw = 0; ccw = 0 }

-- an accepted preset begins the way anew; no other setting is anything to it
abbrev pub reset_by : Travel → Setting → Travel
reset_by j (Preset w) = record { preset = place_written w; cw = 0; ccw = 0 }
reset_by j (SetCwLimit w) = j
reset_by j (SetCcwLimit w) = j
reset_by j (Select k) = j
reset_by j (SetSpeed k v) = j
reset_by j (SetSwitches q r) = j
reset_by j (SetMotor q) = j

-- what a deed is to the way, with the channel's count n in the pulse buffer
unfoldable pub travelled : ℕ → Travel → Deed → Travel
travelled n j (starts s) = j
travelled n j (stops flags) = j
travelled n j (speeds v) = j
travelled n j (sets s) = reset_by j s
travelled n j (reads contacts) = j
travelled n j ticks = record { preset = j.preset; cw = j.cw + cw_pulses n; ccw = j.ccw + ccw_pulses n }
travelled n j (pauses k) = j
travelled n j rests = j

-- the way of channel c after a sequence of calls on a table
unfoldable pub travel : Library → ℕ → List ℕ → Travel → List Call → Travel
travel l c t j [] = j
travel l c t j (k ∷ ks) =
    let u = after l t k in
    travel l c u.table (travelled (count_at u.buffer c) j (deed c t k)) ks

-- the settings of a channel: what an accepted setting makes of them, and "A switch reading replaces the contacts"; nothing else
-- changes any
unfoldable pub settled : Motor → Deed → Motor
settled m (starts s) = m
settled m (stops flags) = m
settled m (speeds v) = m
settled m (sets s) = with_setting m s
settled m (reads n) = contacted m n
settled m ticks = m
settled m (pauses k) = m
settled m rests = m

-- the settings of channel c after a sequence of calls on a table
unfoldable pub settings : Library → ℕ → List ℕ → Motor → List Call → Motor
settings l c t m [] = m
settings l c t m (k ∷ ks) = settings l c (after l t k).table (settled m (deed c t k)) ks
