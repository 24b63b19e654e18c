-- The counts of a pulse buffer and the way of a channel, deed by deed. Assumes nothing.
use Rattle.std.specs.Prelude.{Option, Some, None}
use mathlib.Core.Path.{◌≡◌, refl, sym, ap, ◌∙◌}
use mathlib.Core.List.{List}
use mathlib.Core.Bool.{Bool, true, false, ◌&&◌, cond, false≢true}
use Prim.Native.Nat.{ℕ, ◌+◌, ◌-◌, ◌%◌, ◌≤◌, ◌<◌}
use native.Mathlib.Omega.{arith}
use lib.ListN.{length}
use lib.Dec.{eqb, ltb, leb}
use borrow.Author.Tests.{eq-eqb, eqb-true, ltb-true, ltb-false}
use Rattle.digits.specs.Places.{count_of, cw}
use Rattle.digits.proofs.WordLaws.{word_bytes_law}
use Rattle.record.specs.declared.Motor.{Motor}
use Rattle.record.specs.Record.{with_drive, let_go}
use Rattle.motor.specs.Switches.{blocked}
use Rattle.motor.specs.Sound.{busy, sound_motor}
use Rattle.motor.proofs.SoundLaws.{sound_bounds}
use Rattle.drive.specs.declared.Course.{Course}
use Rattle.drive.specs.declared.Course.TheVariants.{Stay, Beyond, To, Along}
use Rattle.drive.specs.Drives.{lsend, started, released, ended_with, stopped, speed_changed, contacted, switch_read}
use Rattle.pulses.specs.Ticks.{tick_motor, tick_count}
use Rattle.pulses.proofs.TickLaws.{place_moves}
use Rattle.pulses.proofs.TickSound.{tick_sound, pulses_bound}
use Rattle.line.specs.declared.Setting.{Setting}
use Rattle.line.specs.declared.Setting.TheVariants.{Preset, SetCwLimit, SetCcwLimit, Select, SetSpeed, SetSwitches, SetMotor}
use Rattle.line.specs.declared.HeadOrder.{HeadOrder}
use Rattle.line.specs.declared.HeadOrder.TheVariants.{Mode, AllReply, ClearErrors, ClearError, Pause}
use Rattle.line.specs.declared.Order.{Order}
use Rattle.line.specs.declared.Order.TheVariants.{Go, Stop, StopAll, ChangeSpeed, Set, Ask, AskHead, ForHead}
use Rattle.orders.specs.Settings.{course_of, with_setting}
use Rattle.drive.specs.Numbers.{number_of}
use Rattle.table.specs.Layout.{table_size, motor_at}
use Rattle.table.specs.Sound.{sound_table}
use Rattle.table.proofs.TableLaws.{sound_length, sound_motor_at}
use Rattle.urqolina.specs.Calls.{tick_call}
use Rattle.laws.specs.Sequences.{urqolina, Call, command, reading, tick, after}
use Rattle.laws.specs.Deeds.{Deed, starts, stops, speeds, sets, reads, ticks, pauses, rests, deed_if, order_taken, head_deed, deed_of, deed_taken, deed, is_tick}
use Rattle.laws.specs.Ledger.{count_at, cw_pulses, ccw_pulses, Travel, reset_by, travelled}
use Rattle.laws.proofs.PartLaws.{counts_part}
use Rattle.laws.proofs.DeedLaws.{performed}

-- What a count tells of n pulses, 5,000 at most: none of the other direction, and n in all.
pub counted : (going n : ℕ) → n ≤ 5000
    → (cw_pulses (count_of going n) ≡ cond (eqb going cw) n 0) × (ccw_pulses (count_of going n) ≡ cond (eqb going cw) 0 n)
unfolding cw_pulses ccw_pulses count_of
counted going n h = go (eqb going cw)
  where
    up : ℕ → ℕ
    up k = cond (ltb k 2147483648) k 0

    down : ℕ → ℕ
    down k = cond (ltb k 2147483648) 0 (4294967296 - k)

    ccw_word : ℕ
    ccw_word = (4294967296 - n) % 4294967296

    back : (b : Bool) → ltb ccw_word 2147483648 ≡ b → (cond b ccw_word 0 ≡ 0) × (cond b 0 (4294967296 - ccw_word) ≡ n)
    back true e = let l = ltb-true ccw_word 2147483648 e in (omega arith, omega arith)
    back false e = let l = ltb-false ccw_word 2147483648 e in (refl, omega arith)

    go : (b : Bool) → (up (cond b n ccw_word) ≡ cond b n 0) × (down (cond b n ccw_word) ≡ cond b 0 n)
    go true = forth (ltb n 2147483648) refl
      where
        forth : (b : Bool) → ltb n 2147483648 ≡ b → (cond b n 0 ≡ n) × (cond b 0 (4294967296 - n) ≡ 0)
        forth true e = (refl, refl)
        forth false e = absurd (omega (arith, ltb-false n 2147483648 e))
    go false = back (ltb ccw_word 2147483648) refl

-- A tick's count tells the pulses given, and the place moves by it.
pub tick_counted : (m : Motor) → sound_motor m ≡ true → cw_pulses (tick_count m) + ccw_pulses (tick_count m) ≡ (tick_motor m).pulses
unfolding tick_count
tick_counted m s =
    let c = counted m.drive.going (tick_motor m).pulses (pulses_bound m s) in
    rw (c.0, c.1) (go (eqb m.drive.going cw))
  where
    n : ℕ
    n = (tick_motor m).pulses

    go : (b : Bool) → cond b n 0 + cond b 0 n ≡ n
    go true = omega arith
    go false = omega arith

pub tick_moves : (m : Motor) → sound_motor m ≡ true → (tick_motor m).motor.place + ccw_pulses (tick_count m) ≡ m.place + cw_pulses (tick_count m)
unfolding tick_count
tick_moves m s =
    let c = counted m.drive.going (tick_motor m).pulses (pulses_bound m s) in
    rw (c.0, c.1, place_moves m) (go (eqb m.drive.going cw) (rw (place_moves m) at (sound_bounds (tick_motor m).motor (tick_sound m s)).place.0))
  where
    n : ℕ
    n = (tick_motor m).pulses

    go : (b : Bool) → 1 ≤ cond b (m.place + n) (m.place - n) → cond b (m.place + n) (m.place - n) + cond b 0 n ≡ m.place + cond b n 0
    go true h = omega arith
    go false h = omega arith

-- A count fits its four bytes.
count_fits : (going n : ℕ) → n ≤ 5000 → count_of going n < 4294967296
unfolding count_of
count_fits going n h = go (eqb going cw)
  where
    go : (b : Bool) → cond b n ((4294967296 - n) % 4294967296) < 4294967296
    go true = omega arith
    go false = omega arith

-- The count of channel c after an accepted tick is its motor's.
pub count_read : (t p : List ℕ) (c : ℕ) → sound_table t ≡ true → length p ≡ 64 → c ≤ 15 → count_at (tick_call t p).pulses c ≡ tick_count (motor_at t c)
unfolding tick_call number_of
count_read t p c s e h =
    rw (eq-eqb (length t) table_size (sound_length t s), eq-eqb (length p) 64 e, s, counts_part t c h)
    (word_bytes_law 4 (tick_count (motor_at t c)) (unfold tick_count in count_fits (motor_at t c).drive.going (tick_motor (motor_at t c)).pulses (pulses_bound (motor_at t c) (sound_motor_at t c s h))))

-- A tick comes of a tick call with a buffer of 64 bytes, and of no command or reading.
pub if_tick : (b : Bool) (d : Deed) → is_tick d ≡ false → is_tick (deed_if b d) ≡ false
unfolding is_tick
if_tick true d e = e
if_tick false d e = refl

head_tick : (h : HeadOrder) → is_tick (head_deed h) ≡ false
unfolding is_tick
head_tick (Mode k) = refl
head_tick (AllReply k) = refl
head_tick ClearErrors = refl
head_tick (ClearError e) = refl
head_tick (Pause k) = refl

order_tick : (c : ℕ) (o : Order) → is_tick (deed_of c o) ≡ false
unfolding deed_of is_tick
order_tick c (Go x s) = if_tick (eqb x c) (starts s) refl
order_tick c (Stop x flags) = if_tick (eqb x c) (stops flags) refl
order_tick c (StopAll flags) = refl
order_tick c (ChangeSpeed x v) = if_tick (eqb x c) (speeds v) refl
order_tick c (Set x s) = if_tick (eqb x c) (sets s) refl
order_tick c (Ask x q) = refl
order_tick c (AskHead q) = refl
order_tick c (ForHead h) = head_tick h

pub taken_tick : (c : ℕ) (p : Option Order) → is_tick (deed_taken c p) ≡ false
taken_tick c (Some o) = order_tick c o
taken_tick c None = unfold is_tick in refl

pub tick_count_law : (t : List ℕ) (k : Call) (c : ℕ) → sound_table t ≡ true → c ≤ 15 → deed c t k ≡ ticks → count_at (after urqolina t k).buffer c ≡ tick_count (motor_at t c)
unfolding after deed is_tick
tick_count_law t (command line reply) c s h e = absurd (false≢true (sym (taken_tick c (order_taken t (command line reply))) ∙ ap is_tick e))
tick_count_law t (reading x n) c s h e = absurd (false≢true (sym (if_tick (eqb x c && leb n 7) (reads n) refl) ∙ ap is_tick e))
tick_count_law t (tick p) c s h e = go (eqb (length p) 64) refl e
  where
    go : (b : Bool) → eqb (length p) 64 ≡ b → deed_if b ticks ≡ ticks → count_at (tick_call t p).pulses c ≡ tick_count (motor_at t c)
    go true q e = count_read t p c s (eqb-true (length p) 64 q) h
    go false q e = absurd (false≢true (ap is_tick e))

-- Nothing but a preset and a tick changes a place.
started_place : (p : Bool) (m : Motor) (c : Course) → (started p m c).place ≡ m.place
unfolding started
started_place p m Stay = refl
started_place p m Beyond = refl
started_place p m (To q) = refl
started_place p m (Along going) = refl

either_place : (b : Bool) (x y : Motor) (p : ℕ) → x.place ≡ p → y.place ≡ p → (cond b x y).place ≡ p
either_place true x y p a b = a
either_place false x y p a b = b

-- what the place and the way have to say of each other
abbrev pub Kept : Motor → Travel → Type 0
Kept m j = m.place + j.ccw ≡ j.preset + j.cw

set_kept : (m : Motor) (j : Travel) (s : Setting) → Kept m j → Kept (with_setting m s) (reset_by j s)
unfolding with_setting
set_kept m j (Preset w) h = refl
set_kept m j (SetCwLimit w) h = h
set_kept m j (SetCcwLimit w) h = h
set_kept m j (Select k) h = h
set_kept m j (SetSpeed k v) h = h
set_kept m j (SetSwitches q r) h = h
set_kept m j (SetMotor q) h = h

-- Whatever a deed does, the place is the preset, and the pulses since.
pub performed_kept : (q : Bool) (m : Motor) (d : Deed) (n : ℕ) (j : Travel) → sound_motor m ≡ true → (d ≡ ticks → n ≡ tick_count m) → Kept m j
    → Kept (performed q m d) (travelled n j d)
unfolding performed travelled released stopped speed_changed switch_read
performed_kept q m (starts s) n j o p h = rw (started_place q m (course_of m s)) h
performed_kept q m (stops flags) n j o p h = rw (either_place (busy m) (ended_with flags m) m m.place refl refl) h
performed_kept q m (speeds v) n j o p h = h
performed_kept q m (sets s) n j o p h = set_kept m j s h
performed_kept q m (reads c) n j o p h =
    rw (either_place (busy m && blocked m.drive.going (contacted m c)) (ended_with lsend (contacted m c)) (contacted m c) m.place refl refl) h
performed_kept q m ticks n j o p h = rw (p refl) (omega (arith, tick_moves m o, h))
performed_kept q m (pauses k) n j o p h =
    rw (either_place (eqb k 0) (released m) m m.place (either_place m.drive.held (with_drive m m.ended (let_go m.drive)) m m.place refl refl) refl) h
performed_kept q m rests n j o p h = h
