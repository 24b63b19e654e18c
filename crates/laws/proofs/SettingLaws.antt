-- What a motor tells of a setting: the text that was written, from the setting on until a deed changes it. Assumes nothing.
use mathlib.Core.Path.{◌≡◌, refl, sym, ◌∙◌}
use mathlib.Core.List.{◌++◌}
use mathlib.Core.Bool.{Bool, true, false, ◌&&◌, not, cond, false≢true}
use Prim.Native.Nat.{ℕ, zero, suc, ◌+◌, ◌*◌, ◌/◌, ◌%◌, ◌≤◌}
use native.Mathlib.Omega.{arith}
use lib.Dec.{eqb}
use borrow.Author.Tests.{ne_eqb, eqb-true, eqb-false, leb-true, not-false}
use Rattle.record.specs.declared.Speeds.{Speeds}
use Rattle.record.specs.declared.Motor.{Motor}
use Rattle.record.specs.Record.{with_drive, let_go}
use Rattle.motor.specs.Switches.{blocked}
use Rattle.motor.specs.Sound.{busy, sound_motor}
use Rattle.motor.proofs.SoundLaws.{and_l, and_r}
use Rattle.drive.specs.declared.Course.{Course}
use Rattle.drive.specs.declared.Course.TheVariants.{Stay, Beyond, To, Along}
use Rattle.drive.specs.Drives.{lsend, speed_numbered, started, released, ended_with, stopped, speed_changed, contacted, switch_read}
use Rattle.pulses.specs.Ticks.{tick_motor, tick_count}
use Rattle.pulses.proofs.TickLaws.{settings_stay}
use Rattle.line.specs.declared.Four.{Four}
use Rattle.line.specs.declared.Setting.{Setting}
use Rattle.line.specs.declared.Setting.TheVariants.{Preset, SetCwLimit, SetCcwLimit, Select, SetSpeed, SetSwitches, SetMotor}
use Rattle.line.specs.Made.{setting_made}
use Rattle.orders.specs.Values.{binary_digits, setting_in_range}
use Rattle.orders.specs.Settings.{course_of, with_speed, binary, with_setting}
use Rattle.orders.proofs.ValueLaws.{Binary, binary_bound}
use Rattle.replies.specs.Replies.{switches_text, motor_text, question_text}
use Rattle.laws.specs.Deeds.{Deed, starts, stops, speeds, sets, reads, ticks, pauses, rests}
use Rattle.laws.specs.Ledger.{cw_pulses, ccw_pulses}
use Rattle.laws.specs.ReadBack.{question_for, four_text, text_for, topic, changed_by}
use Rattle.laws.proofs.DeedLaws.{performed}
use Rattle.laws.proofs.TravelLaws.{tick_moves}

-- what is read back of a setting is what was written, whatever the mode and the channel
abbrev pub Tells : Motor → Setting → Type 0
Tells m s = (k x : ℕ) → question_text k x m (question_for s) ≡ text_for s

-- The eight bits of the SETLS byte are the digits as they were written.
switches_told : (q r : Four) → Binary q → Binary r → switches_text (16 * binary q + binary r) ≡ four_text q ++ four_text r
unfolding switches_text
switches_told q r x y =
    let n = 16 * binary q + binary r in
    let bit7 : n / 128 % 2 ≡ q.a = omega arith in
    let bit6 : n / 64 % 2 ≡ q.b = omega arith in
    let bit5 : n / 32 % 2 ≡ q.c = omega arith in
    let bit4 : n / 16 % 2 ≡ q.d = omega arith in
    let bit3 : n / 8 % 2 ≡ r.a = omega arith in
    let bit2 : n / 4 % 2 ≡ r.b = omega arith in
    let bit1 : n / 2 % 2 ≡ r.c = omega arith in
    let bit0 : n / 1 % 2 ≡ r.d = omega arith in
    rw (bit7, bit6, bit5, bit4, bit3, bit2, bit1, bit0)

-- The speed that was written is the one with its number.
speed_written : (s : Speeds) (k v : ℕ) → k ≤ 2 → speed_numbered k (with_speed s k v) ≡ v
unfolding speed_numbered
speed_written s zero v h = refl
speed_written s (suc zero) v h = refl
speed_written s (suc (suc zero)) v h = refl
speed_written s (suc (suc (suc k))) v h = absurd (omega arith)

-- An accepted setting is told.
pub set_tells : (m : Motor) (s : Setting) → setting_in_range s ≡ true → setting_made s ≡ true → Tells (with_setting m s) s
unfolding with_setting question_text question_for text_for motor_text
set_tells m (Preset w) h e k x = refl
set_tells m (SetCwLimit w) h e k x = refl
set_tells m (SetCcwLimit w) h e k x = refl
set_tells m (Select n) h e k x = refl
set_tells m (SetSpeed n v) h e k x = rw (speed_written m.speeds n v (leb-true n 2 e))
set_tells m (SetSwitches q r) h e k x =
    switches_told q r (binary_bound q (and_l (binary_digits q) (binary_digits r) h)) (binary_bound r (and_r (binary_digits q) (binary_digits r) h))
set_tells m (SetMotor q) h e k x = refl

-- what the motor n keeps of the motor m: every topic but those that are changed
pub record Keeps (m n : Motor) (changed : ℕ → Bool) : Type 0 where
  pub place : changed 0 ≡ false → n.place ≡ m.place
  pub cw_limit : changed 1 ≡ false → n.limits.cw ≡ m.limits.cw
  pub ccw_limit : changed 2 ≡ false → n.limits.ccw ≡ m.limits.ccw
  pub selected : changed 3 ≡ false → n.speeds.selected ≡ m.speeds.selected
  pub setls : changed 4 ≡ false → n.wiring.setls ≡ m.wiring.setls
  pub setup : changed 5 ≡ false → n.setup ≡ m.setup
  pub low : changed 6 ≡ false → n.speeds.low ≡ m.speeds.low
  pub middle : changed 7 ≡ false → n.speeds.middle ≡ m.speeds.middle
  pub high : changed 8 ≡ false → n.speeds.high ≡ m.speeds.high

-- What is kept is told as before.
speed_kept : (m n : Motor) (changed : ℕ → Bool) (k : ℕ) → Keeps m n changed → k ≤ 2 → changed (6 + k) ≡ false
    → speed_numbered k n.speeds ≡ speed_numbered k m.speeds
unfolding speed_numbered
speed_kept m n changed zero kept h e = kept.low e
speed_kept m n changed (suc zero) kept h e = kept.middle e
speed_kept m n changed (suc (suc zero)) kept h e = kept.high e
speed_kept m n changed (suc (suc (suc k))) kept h e = absurd (omega arith)

kept_tells : (m n : Motor) (changed : ℕ → Bool) (s : Setting) → Keeps m n changed → setting_made s ≡ true → changed (topic s) ≡ false
    → Tells m s → Tells n s
unfolding question_text question_for topic
kept_tells m n changed (Preset w) kept h e told k x = rw (kept.place e) (told k x)
kept_tells m n changed (SetCwLimit w) kept h e told k x = rw (kept.cw_limit e) (told k x)
kept_tells m n changed (SetCcwLimit w) kept h e told k x = rw (kept.ccw_limit e) (told k x)
kept_tells m n changed (Select j) kept h e told k x = rw (kept.selected e) (told k x)
kept_tells m n changed (SetSpeed j v) kept h e told k x = rw (speed_kept m n changed j kept (leb-true j 2 h) e) (told k x)
kept_tells m n changed (SetSwitches q r) kept h e told k x = rw (kept.setls e) (told k x)
kept_tells m n changed (SetMotor q) kept h e told k x = rw (kept.setup e) (told k x)

-- Nothing but settings and ticks changes a topic.
abbrev none : ℕ → Bool
none j = false

either_keeps : (b : Bool) (m n o : Motor) → Keeps m n none → Keeps m o none → Keeps m (cond b n o) none
either_keeps true m n o p q = p
either_keeps false m n o p q = q

started_keeps : (q : Bool) (m : Motor) (c : Course) → Keeps m (started q m c) none
unfolding started
started_keeps q m Stay = search
started_keeps q m Beyond = search
started_keeps q m (To p) = search
started_keeps q m (Along going) = search

stopped_keeps : (m : Motor) (flags : ℕ) → Keeps m (stopped flags m) none
unfolding stopped
stopped_keeps m flags = either_keeps (busy m) m (ended_with flags m) m (search) (search)

read_keeps : (m : Motor) (n : ℕ) → Keeps m (switch_read m n) none
unfolding switch_read
read_keeps m n =
    either_keeps (busy m && blocked m.drive.going (contacted m n)) m (ended_with lsend (contacted m n)) (contacted m n) (search) (search)

pause_keeps : (m : Motor) (k : ℕ) → Keeps m (cond (eqb k 0) (released m) m) none
unfolding released
pause_keeps m k =
    either_keeps (eqb k 0) m (released m) m (either_keeps m.drive.held m (with_drive m m.ended (let_go m.drive)) m (search) (search)) (search)

-- A setting changes its own topic alone.
never : {A : Type 0} {a b : A} → true ≡ false → a ≡ b
never e = absurd (false≢true (sym e))

other_speed : (k j v w : ℕ) → eqb (6 + k) (6 + j) ≡ false → cond (eqb k j) v w ≡ w
other_speed k j v w e = rw (ne_eqb k j (omega (arith, eqb-false (6 + k) (6 + j) e)))

set_keeps : (m : Motor) (s : Setting) → Keeps m (with_setting m s) (λ j. eqb (topic s) j)
unfolding with_setting topic
set_keeps m (Preset w) = search never
set_keeps m (SetCwLimit w) = search never
set_keeps m (SetCcwLimit w) = search never
set_keeps m (Select k) = search never
set_keeps m (SetSpeed k v) = search other_speed
set_keeps m (SetSwitches q r) = search never
set_keeps m (SetMotor q) = search never

-- A tick changes the place alone, where its count is not 0.
tick_stays : (m : Motor) → sound_motor m ≡ true → tick_count m ≡ 0 → (tick_motor m).motor.place ≡ m.place
unfolding cw_pulses ccw_pulses
tick_stays m o e = let moves = rw e at (tick_moves m o) in omega arith

tick_keeps : (m : Motor) (n : ℕ) → sound_motor m ≡ true → n ≡ tick_count m → Keeps m (tick_motor m).motor (λ j. eqb j 0 && not (eqb n 0))
tick_keeps m n o e =
    let same = settings_stay m in
    record {
      place = λ h. tick_stays m o (sym e ∙ eqb-true n 0 (not-false (eqb n 0) h));
      cw_limit = λ h. rw same.limits;
      ccw_limit = λ h. rw same.limits;
      selected = λ h. rw same.speeds;
      setls = λ h. rw same.wiring;
      setup = λ h. same.setup;
      low = λ h. rw same.speeds;
      middle = λ h. rw same.speeds;
      high = λ h. rw same.speeds;
    }

tick_changes : (s : Setting) (n : ℕ) → changed_by s n ticks ≡ (eqb (topic s) 0 && not (eqb n 0))
unfolding changed_by topic
tick_changes (Preset w) n = refl
tick_changes (SetCwLimit w) n = refl
tick_changes (SetCcwLimit w) n = refl
tick_changes (Select k) n = refl
tick_changes (SetSpeed k v) n = rw (ne_eqb (6 + k) 0 (omega arith))
tick_changes (SetSwitches q r) n = refl
tick_changes (SetMotor q) n = refl

-- A setting is told until a deed changes it.
pub performed_tells : (q : Bool) (m : Motor) (d : Deed) (n : ℕ) (s : Setting) → sound_motor m ≡ true → (d ≡ ticks → n ≡ tick_count m) → setting_made s ≡ true
    → changed_by s n d ≡ false → Tells m s → Tells (performed q m d) s
unfolding performed changed_by speed_changed
performed_tells q m (starts r) n s o p h e told = kept_tells m (started q m (course_of m r)) none s (started_keeps q m (course_of m r)) h refl told
performed_tells q m (stops flags) n s o p h e told = kept_tells m (stopped flags m) none s (stopped_keeps m flags) h refl told
performed_tells q m (speeds v) n s o p h e told = kept_tells m (speed_changed m v) none s (search) h refl told
performed_tells q m (sets r) n s o p h e told = kept_tells m (with_setting m r) (λ j. eqb (topic r) j) s (set_keeps m r) h e told
performed_tells q m (reads c) n s o p h e told = kept_tells m (switch_read m c) none s (read_keeps m c) h refl told
performed_tells q m ticks n s o p h e told =
    kept_tells m (tick_motor m).motor (λ j. eqb j 0 && not (eqb n 0)) s (tick_keeps m n o (p refl)) h (sym (tick_changes s n) ∙ e) told
performed_tells q m (pauses k) n s o p h e told = kept_tells m (cond (eqb k 0) (released m) m) none s (pause_keeps m k) h refl told
performed_tells q m rests n s o p h e told = told
