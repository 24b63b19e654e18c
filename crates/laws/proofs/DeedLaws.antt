-- What a deed makes of a motor, and that a sound motor stays sound. Assumes nothing.
use Rattle.std.specs.Prelude.{Result, Ok, Err}
use mathlib.Core.Path.{◌≡◌, refl}
use mathlib.Core.List.{List}
use mathlib.Core.Bool.{Bool, true, false, ◌&&◌, ◌||◌, not, cond}
use Prim.Native.Nat.{ℕ, ◌+◌, ◌*◌, ◌-◌, ◌/◌, ◌%◌, ◌≤◌}
use native.Mathlib.Omega.{arith}
use lib.Dec.{eqb, leb}
use borrow.Author.Tests.{le-leb, eqb-true, not-true}
use Rattle.digits.specs.Places.{origin, is_position, moved, cw, ccw}
use Rattle.digits.specs.Words.{is_set}
use Rattle.record.specs.declared.Speeds.{Speeds}
use Rattle.record.specs.declared.Motor.{Motor}
use Rattle.motor.specs.Sound.{is_speed, limits_in_range, speeds_in_range, wiring_in_range, contacts_right, end_flags_in_range, busy, sound_motor, held_right}
use Rattle.motor.proofs.SoundLaws.{and_l, and_r, or_true, sound_parts, bounds_position}
use Rattle.drive.specs.declared.Course.{Course}
use Rattle.drive.specs.declared.Course.TheVariants.{Stay, Beyond, To, Along}
use Rattle.drive.specs.Drives.{lsend, judge_start, well_aimed, started, released, ended_with, stopped, speed_changed, contacted, switch_read}
use Rattle.drive.proofs.Laws.{released_drive}
use Rattle.motor.specs.Switches.{blocked}
use Rattle.pulses.specs.Ticks.{tick_motor}
use Rattle.pulses.specs.declared.Ticked.{Ticked}
use Rattle.pulses.proofs.TickSound.{tick_sound}
use Rattle.pulses.proofs.TickLaws.{Way, rests, arrives, ends, goes, way}
use Rattle.drive.proofs.KeptSound.{stopped_sound, speed_changed_sound, switch_read_sound, started_sound, released_sound, place_set_sound, limits_set_sound, speeds_set_sound, wiring_set_sound, setup_set_sound}
use Rattle.line.specs.declared.Written.{Written}
use Rattle.line.specs.declared.Four.{Four}
use Rattle.line.specs.declared.Start.{Start}
use Rattle.line.specs.declared.Setting.{Setting}
use Rattle.line.specs.declared.Setting.TheVariants.{Preset, SetCwLimit, SetCcwLimit, Select, SetSpeed, SetSwitches, SetMotor}
use Rattle.line.specs.Made.{start_made, setting_made}
use Rattle.orders.specs.Values.{signed_in_range, binary_digits, setup_written, setting_in_range}
use Rattle.orders.specs.Settings.{place_written, course_of, selecting, with_speed, binary, with_setting}
use Rattle.orders.proofs.ValueLaws.{signed_bound, Binary, binary_bound}
use Rattle.table.specs.Layout.{head_of, paused}
use Rattle.laws.specs.Deeds as D
use Rattle.laws.specs.Deeds.{Deed, starts, stops, speeds, sets, reads, ticks, pauses}

-- the motor after a deed, where pause was on or off before it
unfoldable pub performed : Bool → Motor → Deed → Motor
performed p m (starts s) = started p m (course_of m s)
performed p m (stops flags) = stopped flags m
performed p m (speeds v) = speed_changed m v
performed p m (sets s) = with_setting m s
performed p m (reads n) = switch_read m n
performed p m ticks = (tick_motor m).motor
performed p m (pauses k) = cond (eqb k 0) (released m) m
performed p m D.rests = m

-- whether pause is on in a table, and after a deed
abbrev pub paused_in : List ℕ → Bool
paused_in t = paused (head_of t)

abbrev pub paused_by : Bool → Deed → Bool
paused_by p (starts s) = p
paused_by p (stops flags) = p
paused_by p (speeds v) = p
paused_by p (sets s) = p
paused_by p (reads n) = p
paused_by p ticks = p
paused_by p (pauses k) = eqb k 1
paused_by p D.rests = p

-- what is known of a deed that was accepted, and of its motor
pub data Fits (m : Motor) : Deed → Type 0 where
  fits_start : (full : Bool) (s : Start) → busy m ≡ false → judge_start full m (course_of m s) ≡ (Ok tt) → well_aimed m (course_of m s) ≡ true → start_made s ≡ true → Fits m (starts s)
  fits_stop : (flags : ℕ) → end_flags_in_range flags ≡ true → Fits m (stops flags)
  fits_speed : (v : ℕ) → busy m ≡ true → is_speed v ≡ true → Fits m (speeds v)
  fits_set : (s : Setting) → busy m ≡ false → setting_in_range s ≡ true → setting_made s ≡ true → Fits m (sets s)
  fits_read : (n : ℕ) → n ≤ 7 → Fits m (reads n)
  fits_tick : Fits m ticks
  fits_pause : (k : ℕ) → Fits m (pauses k)
  fits_rest : Fits m D.rests

-- A number in the positions' range writes a position.
pub written_position : (w : Written) → signed_in_range w ≡ true → is_position (place_written w) ≡ true
written_position w e = go w.minus
  where
    go : (b : Bool) → is_position (moved (cond b ccw cw) origin w.digits) ≡ true
    go true = bounds_position (origin - w.digits) (omega (arith, signed_bound w e)) (omega (arith, signed_bound w e))
    go false = bounds_position (origin + w.digits) (omega (arith, signed_bound w e)) (omega (arith, signed_bound w e))

-- The SETLS digits in range, with their 0, are a SETLS byte.
pub byte_of : (q : Four) → Binary q → binary q ≤ 15
byte_of q d = omega (arith, d.a, d.b, d.c, d.d)

switches_in_range : (q r : Four) (n k : ℕ) → (binary_digits q && binary_digits r) ≡ true → eqb r.a 0 ≡ true → leb n 7 ≡ true
    → wiring_in_range (record { setls = 16 * binary q + binary r; contacts = n; read = k }) ≡ true
unfolding wiring_in_range
switches_in_range q r n k e z h =
    let x = binary_bound q (and_l (binary_digits q) (binary_digits r) e) in
    let y = binary_bound r (and_r (binary_digits q) (binary_digits r) e) in
    let clear : (16 * binary q + binary r) / 8 % 2 ≡ 0 = omega (arith, eqb-true r.a 0 z, x.a, x.b, x.c, x.d, y.b, y.c, y.d) in
    rw (le-leb (16 * binary q + binary r) 255 (omega (arith, byte_of q x, byte_of r y)), clear, h)

-- A speed replaced by a speed leaves speeds in range.
either_speed : (b : Bool) (v w : ℕ) → is_speed v ≡ true → is_speed w ≡ true → is_speed (cond b v w) ≡ true
either_speed true v w p q = p
either_speed false v w p q = q

speed_in_range : (s : Speeds) (k v : ℕ) → speeds_in_range s ≡ true → is_speed v ≡ true → speeds_in_range (with_speed s k v) ≡ true
unfolding speeds_in_range
speed_in_range s k v e h =
    let front = and_l (is_speed s.high && is_speed s.middle && is_speed s.low) (leb s.selected 2) e in
    let upper = and_l (is_speed s.high && is_speed s.middle) (is_speed s.low) front in
    rw (either_speed (eqb k 2) v s.high h (and_l (is_speed s.high) (is_speed s.middle) upper), either_speed (eqb k 1) v s.middle h (and_r (is_speed s.high) (is_speed s.middle) upper), either_speed (eqb k 0) v s.low h (and_r (is_speed s.high && is_speed s.middle) (is_speed s.low) front))
    (and_r (is_speed s.high && is_speed s.middle && is_speed s.low) (leb s.selected 2) e)

-- and so does another selection
selection_in_range : (s : Speeds) (k : ℕ) → speeds_in_range s ≡ true → leb k 2 ≡ true → speeds_in_range (selecting s k) ≡ true
unfolding speeds_in_range
selection_in_range s k e h = rw (and_l (is_speed s.high && is_speed s.middle && is_speed s.low) (leb s.selected 2) e) h

contacts_bound : (m : Motor) → sound_motor m ≡ true → leb m.wiring.contacts 7 ≡ true
unfolding wiring_in_range
contacts_bound m o = and_r (leb m.wiring.setls 255 && not (is_set 3 m.wiring.setls)) (leb m.wiring.contacts 7) (sound_parts m o).range.wiring

-- An accepted setting leaves a sound motor.
setting_sound : (m : Motor) (s : Setting) → sound_motor m ≡ true → busy m ≡ false → setting_in_range s ≡ true → setting_made s ≡ true
    → sound_motor (with_setting m s) ≡ true
unfolding with_setting limits_in_range contacts_right
setting_sound m (Preset w) o d h k = place_set_sound m d o (place_written w) (written_position w h)
setting_sound m (SetCwLimit w) o d h k =
    limits_set_sound m d o (record { cw = place_written w; ccw = m.limits.ccw })
    (rw (written_position w h) (and_r (is_position m.limits.cw) (is_position m.limits.ccw) (sound_parts m o).range.limits))
setting_sound m (SetCcwLimit w) o d h k =
    limits_set_sound m d o (record { cw = m.limits.cw; ccw = place_written w })
    (rw (and_l (is_position m.limits.cw) (is_position m.limits.ccw) (sound_parts m o).range.limits, written_position w h))
setting_sound m (Select n) o d h k =
    speeds_set_sound m d o (selecting m.speeds n) (selection_in_range m.speeds n (sound_parts m o).range.speeds k)
setting_sound m (SetSpeed n v) o d h k =
    speeds_set_sound m d o (with_speed m.speeds n v) (speed_in_range m.speeds n v (sound_parts m o).range.speeds h)
setting_sound m (SetSwitches q r) o d h k =
    wiring_set_sound m d o (record { setls = 16 * binary q + binary r; contacts = m.wiring.contacts; read = m.wiring.read })
    (switches_in_range q r m.wiring.contacts m.wiring.read h k (contacts_bound m o)) (sound_parts m o).range.read
setting_sound m (SetMotor q) o d h k = setup_set_sound m d o (setup_written q) h

-- A deed that fits leaves a sound motor.
pub performed_sound : (p : Bool) (m : Motor) (d : Deed) → sound_motor m ≡ true → Fits m d → sound_motor (performed p m d) ≡ true
unfolding performed
performed_sound p m (starts s) o (fits_start full _ still judged aimed h) = started_sound full p m (course_of m s) o judged aimed
performed_sound p m (stops flags) o (fits_stop _ h) = stopped_sound flags m h o
performed_sound p m (speeds v) o (fits_speed _ on h) = speed_changed_sound m v h on o
performed_sound p m (sets s) o (fits_set _ still h k) = setting_sound m s o still h k
performed_sound p m (reads n) o (fits_read _ h) = switch_read_sound m n h o
performed_sound p m ticks o fits_tick = tick_sound m o
performed_sound p m (pauses k) o (fits_pause _) = go (eqb k 0)
  where
    go : (b : Bool) → sound_motor (cond b (released m) m) ≡ true
    go true = released_sound m o
    go false = o
performed_sound p m D.rests o fits_rest = o

-- No setting touches the drive.
pub set_drive : (m : Motor) (s : Setting) → (with_setting m s).drive ≡ m.drive
unfolding with_setting
set_drive m (Preset w) = refl
set_drive m (SetCwLimit w) = refl
set_drive m (SetCcwLimit w) = refl
set_drive m (Select k) = refl
set_drive m (SetSpeed k v) = refl
set_drive m (SetSwitches q r) = refl
set_drive m (SetMotor q) = refl

-- What is held after a deed is held under pause: a start holds under pause alone, and nothing else holds.
either_right : (p b : Bool) (x y : Motor) → held_right p x ≡ true → held_right p y ≡ true → held_right p (cond b x y) ≡ true
either_right p true x y e f = e
either_right p false x y e f = f

or_not : (p : Bool) → (p || not p) ≡ true
or_not true = refl
or_not false = refl

same_right : (p : Bool) (m n : Motor) → n.drive ≡ m.drive → held_right p m ≡ true → held_right p n ≡ true
same_right p m n e h = rw e h

start_right : (p : Bool) (m : Motor) (c : Course) → held_right p m ≡ true → held_right p (started p m c) ≡ true
unfolding started
start_right p m Stay h = h
start_right p m Beyond h = h
start_right p m (To q) h = or_not p
start_right p m (Along going) h = or_not p

tick_right : (p : Bool) (m : Motor) → held_right p m ≡ true → held_right p (tick_motor m).motor ≡ true
tick_right p m h = go (way m)
  where
    go : {t : Ticked} → Way m t → held_right p t.motor ≡ true
    go (rests d) = h
    go (arrives d r) = or_true p
    go (ends d r u) = or_true p
    go (goes d r u) = h

pub performed_right : (p : Bool) (m : Motor) (d : Deed) → held_right p m ≡ true → held_right p (performed p m d) ≡ true
unfolding performed stopped speed_changed switch_read
performed_right p m (starts s) h = start_right p m (course_of m s) h
performed_right p m (stops flags) h = either_right p (busy m) (ended_with flags m) m (or_true p) h
performed_right p m (speeds v) h = h
performed_right p m (sets s) h = same_right p m (with_setting m s) (set_drive m s) h
performed_right p m (reads n) h =
    either_right p (busy m && blocked m.drive.going (contacted m n)) (ended_with lsend (contacted m n)) (contacted m n) (or_true p) h
performed_right p m ticks h = tick_right p m h
performed_right p m (pauses k) h = either_right p (eqb k 0) (released m) m (rw (released_drive m) (or_true p)) h
performed_right p m D.rests h = h

-- So a deed that holds nothing leaves what is not held so.
pub performed_free : (m : Motor) (d : Deed) → m.drive.held ≡ false → (performed false m d).drive.held ≡ false
performed_free m d e = not-true _ (performed_right false m d (rw e))
