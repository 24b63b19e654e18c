-- After any call on a sound table the table is sound, and each channel's motor is what the call's deed makes of it. Assumes
-- nothing.
use Rattle.std.specs.Prelude.{Result, Ok, Err}
use mathlib.Core.Path.{◌≡◌, refl, sym, ◌∙◌}
use mathlib.Core.List.{List}
use mathlib.Core.Bool.{Bool, true, false, ◌&&◌, ◌||◌, not, cond, false≢true, and-true, and-false}
use Prim.Native.Nat.{ℕ, ◌≤◌}
use native.Mathlib.Omega.{arith}
use lib.ListN.{length}
use lib.Dec.{eqb, leb}
use borrow.Author.Tests.{eq-eqb, ne_eqb, eqb-true, eqb-false, leb-true, leb-false}
use Rattle.record.specs.declared.Motor.{Motor}
use Rattle.motor.specs.Sound.{end_flags_in_range, busy, sound_motor, held_right}
use Rattle.motor.proofs.SoundLaws.{and_r, or_true}
use Rattle.drive.specs.Numbers.{Verdict}
use Rattle.drive.specs.declared.Refusal.TheVariants.{Busy, OutOfRange, LocalMode, NotDriving}
use Rattle.drive.specs.Numbers.{number_of}
use Rattle.drive.proofs.NumberLaws.{numbered}
use Rattle.drive.specs.Drives.{well_aimed, released}
use Rattle.drive.proofs.Laws.{released_drive}
use Rattle.drive.proofs.KeptSound.{course_aimed, starts_spare}
use Rattle.line.specs.declared.Start.{Start}
use Rattle.line.specs.declared.Start.TheVariants.{Abs, Rel, Scan, Jog}
use Rattle.line.specs.declared.Setting.{Setting}
use Rattle.line.specs.declared.HeadOrder.{HeadOrder}
use Rattle.line.specs.declared.HeadOrder.TheVariants.{Mode, AllReply, ClearErrors, ClearError, Pause}
use Rattle.line.specs.declared.Order.{Order}
use Rattle.line.specs.declared.Order.TheVariants.{Go, Stop, StopAll, ChangeSpeed, Set, Ask, AskHead, ForHead}
use Rattle.line.specs.Forms.{ssend, esend}
use Rattle.line.specs.Made.{on_bench, start_made, end_flag, setting_made, head_made, order_made}
use Rattle.line.proofs.OrderLaws.{line_made}
use Rattle.orders.specs.Values.{needs_remote, value_in_range}
use Rattle.orders.specs.Settings.{direction_of, course_of}
use Rattle.digits.specs.Places.{origin}
use Rattle.digits.specs.Words.{without_bit}
use Rattle.table.specs.Layout.{table_size, head_of, card_full, with_head, with_mode, with_reply, with_errors, with_pause, motor_at, busy_set, with_motor, with_motors}
use Rattle.table.specs.declared.head.Head.{Head}
use Rattle.table.specs.Sound.{sound_table}
use Rattle.table.proofs.SealLaws.{same_set}
use Rattle.table.proofs.TableLaws.{sound_length, sound_motor_at, sound_held_at, sound_set}
use Rattle.table.proofs.HeadLaws.{same_head, head_back, head_motor, head_sound, head_sound_on, sound_range}
use Rattle.table.proofs.KeptLaws.{written_motor, motor_beside, motor_kept, motor_sound, motors_sound}
use Rattle.commands.specs.Judging.{meets_busy, judge_motor, judge_where, judge}
use Rattle.commands.specs.Changing.{head_changed, motors_freed, changed, flagged}
use Rattle.commands.proofs.HeadOrderLaws.{flagged_range, changed_range}
use Rattle.commands.proofs.ChannelLaws.{named, named_channel}
use Rattle.obeying.specs.Taking.{order_in, refused, obeyed}
use Rattle.urqolina.specs.Calls.{command_call, reading_call, tick_call}
use Rattle.laws.specs.Sequences.{urqolina, Call, command, reading, tick, after}
use Rattle.laws.specs.Deeds.{verdict, Deed, starts, stops, speeds, sets, reads, ticks, pauses, rests, deed_if, head_deed, deed_of, deed_taken, deed}
use Rattle.laws.proofs.PartLaws.{motors_motor, motors_beside}
use Rattle.laws.proofs.BusyLaws.{is_start, stays_idle}
use Rattle.laws.proofs.CallWays.{sound_ways}
use Rattle.laws.proofs.DeedLaws.{performed, paused_in, paused_by, Fits, fits_start, fits_stop, fits_speed, fits_set, fits_read, fits_tick, fits_pause, fits_rest, performed_sound, performed_right, performed_free}

-- what an order has passed when it is accepted, on a card that is full or not
pub record Passed (f : Bool) (t : List ℕ) (o : Order) : Type 0 where
  pub remote : (needs_remote o && eqb (head_of t).mode 0) ≡ false
  pub value : value_in_range o ≡ true
  pub free : meets_busy t o ≡ false
  pub motor : judge_motor f t o ≡ (Ok tt)

pub passed_where : (f : Bool) (t : List ℕ) (o : Order) → number_of (judge_where f t o) ≡ 0 → Passed f t o
unfolding judge_where number_of
passed_where f t o = go (needs_remote o && eqb (head_of t).mode 0) refl (value_in_range o) refl (meets_busy t o) refl
  where
    go : (r : Bool) → (needs_remote o && eqb (head_of t).mode 0) ≡ r → (v : Bool) → value_in_range o ≡ v → (b : Bool) → meets_busy t o ≡ b
        → number_of (cond r (Err LocalMode) (cond (not v) (Err OutOfRange) (cond b (Err Busy) (judge_motor f t o)))) ≡ 0 → Passed f t o
    go true r v ev b eb e = absurd (omega (arith, e))
    go false r false v b eb e = absurd (omega (arith, e))
    go false r true v true b e = absurd (omega (arith, e))
    go false r true v false b e = record { remote = r; value = v; free = b; motor = (numbered (judge_motor f t o)).done e }

passed : (t : List ℕ) (o : Order) → number_of (judge t o) ≡ 0 → Passed (card_full (head_of t)) t o
unfolding judge
passed t o e = passed_where (card_full (head_of t)) t o e

-- A course of a start that a line makes is well aimed.
start_aimed : (m : Motor) (s : Start) → start_made s ≡ true → well_aimed m (course_of m s) ≡ true
start_aimed m (Abs w) h = course_aimed m (direction_of w) origin w.digits
start_aimed m (Rel w) h = course_aimed m (direction_of w) m.place w.digits
start_aimed m (Scan going) h = h
start_aimed m (Jog going) h = course_aimed m going m.place 1

-- The end flags of a stop are end flags.
flags_in_range : (flags : ℕ) → end_flag flags ≡ true → end_flags_in_range flags ≡ true
flags_in_range flags = go (eqb flags ssend) refl (eqb flags esend) refl
  where
    go : (a : Bool) → eqb flags ssend ≡ a → (b : Bool) → eqb flags esend ≡ b → (a || b) ≡ true → end_flags_in_range flags ≡ true
    go true a b eb e = rw (eqb-true flags ssend a)
    go false a true b e = rw (eqb-true flags esend b)
    go false a false b e = absurd (false≢true e)

goes_on_law : (b : Bool) → cond {A = Verdict} b (Ok tt) (Err NotDriving) ≡ Ok tt → b ≡ true
goes_on_law true e = refl
goes_on_law false e = cc

-- An accepted order that names channel x fits its motor.
module _ (t : List ℕ) (x : ℕ) where
  go_fits : (s : Start) → order_made (Go x s) ≡ true → number_of (judge t (Go x s)) ≡ 0 → Fits (motor_at t x) (starts s)
  unfolding order_made value_in_range meets_busy judge_motor
  go_fits s h e =
      let p = passed t (Go x s) e in
      let made = and_r (on_bench x) (start_made s) h in
      fits_start (card_full (head_of t)) s p.free p.motor (start_aimed (motor_at t x) s made) made

  -- It sets the motor off only where the card is not full.
  go_spare : (s : Start) → number_of (judge t (Go x s)) ≡ 0 → busy (performed (paused_in t) (motor_at t x) (starts s)) ≡ true → busy (motor_at t x) ≡ false
      → card_full (head_of t) ≡ false
  unfolding judge_motor performed
  go_spare s e y n = starts_spare (card_full (head_of t)) (paused_in t) (motor_at t x) (course_of (motor_at t x) s) (passed t (Go x s) e).motor n y

  stop_fits : (flags : ℕ) → order_made (Stop x flags) ≡ true → Fits (motor_at t x) (stops flags)
  unfolding order_made
  stop_fits flags h = fits_stop flags (flags_in_range flags (and_r (on_bench x) (end_flag flags) h))

  speed_fits : (v : ℕ) → number_of (judge t (ChangeSpeed x v)) ≡ 0 → Fits (motor_at t x) (speeds v)
  unfolding value_in_range judge_motor
  speed_fits v e =
      let p = passed t (ChangeSpeed x v) e in
      fits_speed v (goes_on_law (busy (motor_at t x)) p.motor) p.value

  set_fits : (s : Setting) → order_made (Set x s) ≡ true → number_of (judge t (Set x s)) ≡ 0 → Fits (motor_at t x) (sets s)
  unfolding order_made value_in_range meets_busy
  set_fits s h e =
      let p = passed t (Set x s) e in
      fits_set s p.free p.value (and_r (on_bench x) (setting_made s) h)

-- what a call does to channel c: the table u after it holds what the deed makes of the motor, and the deed fits it
pub record Follows (t u : List ℕ) (c : ℕ) (d : Deed) : Type 0 where
  pub motor : motor_at u c ≡ performed (paused_in t) (motor_at t c) d
  pub fits : Fits (motor_at t c) d
  -- and pause is what the deed makes of it
  pub pause : paused_in u ≡ paused_by (paused_in t) d

-- A call that leaves the motor and pause is nothing to it.
idle : (t u : List ℕ) (c : ℕ) → motor_at u c ≡ motor_at t c → (head_of u).pause ≡ (head_of t).pause → Follows t u c rests
unfolding performed
idle t u c e p = record { motor = e; fits = fits_rest; pause = rw p }

-- A motor written for a deed of channel x that fits and is nothing to pause.
module _ (t : List ℕ) (x : ℕ) (d : Deed) (quiet : (p : Bool) → paused_by p d ≡ p) (s : sound_table t ≡ true) (h : x ≤ 15) (f : Fits (motor_at t x) d) where
  n : Motor
  n = performed (paused_in t) (motor_at t x) d

  sound_after : sound_motor n ≡ true
  unfolding n
  sound_after = performed_sound (paused_in t) (motor_at t x) d (sound_motor_at t x s h) f

  pause_same : (head_of (with_motor t x n)).pause ≡ (head_of t).pause
  pause_same = rw (same_head t (with_motor t x n) (motor_beside t x n (sound_length t s) h))

  writes : (c : ℕ) → Follows t (with_motor t x (performed (paused_in t) (motor_at t x) d)) c (deed_if (eqb x c) d)
  unfolding n
  writes c = go (eqb x c) refl
    where
      go : (b : Bool) → eqb x c ≡ b → Follows t (with_motor t x n) c (deed_if b d)
      go true e =
          rw (← eqb-true x c e)
          (record { motor = written_motor t x n (sound_length t s) h sound_after; fits = f; pause = rw (pause_same) (sym (quiet (paused_in t))) })
      go false e = idle t (with_motor t x n) c (motor_kept t x n (sound_length t s) h c (λ q. eqb-false x c e (sym q))) pause_same

  -- The table stays sound, where the motor is set off only on a card that is not full: by a start that is judged so, and by no other deed.
  writes_sound : (busy (performed (paused_in t) (motor_at t x) d) ≡ true → busy (motor_at t x) ≡ false → card_full (head_of t) ≡ false)
      → sound_table (with_motor t x (performed (paused_in t) (motor_at t x) d)) ≡ true
  unfolding n
  writes_sound goes = motor_sound t x n s h sound_after (performed_right (paused_in t) (motor_at t x) d (sound_held_at t x s h)) goes

  writes_still : is_start d ≡ false → sound_table (with_motor t x (performed (paused_in t) (motor_at t x) d)) ≡ true
  writes_still still = writes_sound (λ y e. absurd (false≢true (sym (stays_idle (paused_in t) (motor_at t x) d still e) ∙ y)))

-- Every motor changed for a deed that fits each of them, and holds none and sets none off.
module _ (t : List ℕ) (d : Deed) (still : is_start d ≡ false) (s : sound_table t ≡ true) (f : (m : Motor) → Fits m d) where
  abbrev each : Motor → Motor
  each m = performed false m d

  each_pause : (head_of (with_motors t each)).pause ≡ (head_of t).pause
  each_pause = rw (same_head t (with_motors t each) (motors_beside t each (sound_length t s)))

  each_motor : (c : ℕ) → c ≤ 15 → motor_at (with_motors t each) c ≡ each (motor_at t c)
  each_motor c h = motors_motor t each c (sound_length t s) h (performed_sound false (motor_at t c) d (sound_motor_at t c s h) (f (motor_at t c)))

  each_sound : sound_table (with_motors t each) ≡ true
  each_sound = motors_sound each (λ m o. performed_sound false m d o (f m)) (λ m e. performed_free m d e) (λ m e. stays_idle false m d still e) t s

-- A head written that leaves pause leaves every motor.
head_idle : (t : List ℕ) (h : Head) (c : ℕ) → sound_table t ≡ true → h.pause ≡ (head_of t).pause → Follows t (with_head t h) c rests
head_idle t h c s e = idle t (with_head t h) c (head_motor t h (sound_length t s) c) (rw (head_back t h (sound_length t s)) e)

-- PAUSE ON and OFF: OFF releases every motor, ON leaves them.
module _ (t : List ℕ) (k : ℕ) (s : sound_table t ≡ true) where
  abbrev freed : List ℕ
  freed = motors_freed t (Pause k)

  freed_sound : sound_table freed ≡ true
  unfolding performed
  freed_sound = go (eqb k 0)
    where
      go : (b : Bool) → sound_table (cond b (with_motors t released) t) ≡ true
      go true = each_sound t (pauses 0) refl s (λ m. fits_pause 0)
      go false = s

  freed_motor : (c : ℕ) → c ≤ 15 → motor_at freed c ≡ cond (eqb k 0) (released (motor_at t c)) (motor_at t c)
  unfolding performed
  freed_motor c h = go (eqb k 0)
    where
      go : (b : Bool) → motor_at (cond b (with_motors t released) t) c ≡ cond b (released (motor_at t c)) (motor_at t c)
      go true = each_motor t (pauses 0) refl s (λ m. fits_pause 0) c h
      go false = refl

  pause_follows : (c : ℕ) → c ≤ 15 → Follows t (with_head freed (with_pause (head_of t) k)) c (pauses k)
  unfolding performed
  pause_follows c h =
      let e = sound_length freed freed_sound in
      record { motor = head_motor freed (with_pause (head_of t) k) e c ∙ freed_motor c h; fits = fits_pause k; pause = rw (head_back freed (with_pause (head_of t) k) e) }

  -- Without pause nothing is left that is held.
  freed_right : leb k 1 ≡ true → (c : ℕ) → c ≤ 15 → held_right (eqb k 1) (motor_at freed c) ≡ true
  freed_right made c h = rw (freed_motor c h) (go (eqb k 0) refl)
    where
      go : (b : Bool) → eqb k 0 ≡ b → held_right (eqb k 1) (cond b (released (motor_at t c)) (motor_at t c)) ≡ true
      go true e = rw (released_drive (motor_at t c)) (or_true (eqb k 1))
      go false e = let on : k ≡ 1 = omega (arith, leb-true k 1 made, eqb-false k 0 e) in rw on

  -- A release leaves the busy set.
  freed_set : busy_set freed ≡ busy_set t
  freed_set = same_set t freed (λ c h. rw (freed_motor c h) (go (eqb k 0) (motor_at t c)))
    where
      go : (b : Bool) (m : Motor) → busy (cond b (released m) m) ≡ busy m
      go true m = rw (released_drive m)
      go false m = refl

  pause_sound : leb k 1 ≡ true → sound_table (with_head freed (with_pause (head_of t) k)) ≡ true
  unfolding head_changed
  pause_sound made = head_sound freed (with_pause (head_of t) k) freed_sound (changed_range (head_of t) (Pause k) (sound_range t s) made) (freed_right made) (sound_set t s ∙ sym freed_set)

-- An accepted order of the head: each channel follows it.
head_follows : (t : List ℕ) (o : HeadOrder) (c : ℕ) → sound_table t ≡ true → c ≤ 15 → Follows t (with_head (motors_freed t o) (head_changed (head_of t) o)) c (head_deed o)
unfolding head_changed
head_follows t (Mode k) c s h = head_idle t (with_mode (head_of t) k) c s refl
head_follows t (AllReply k) c s h = head_idle t (with_reply (head_of t) k) c s refl
head_follows t ClearErrors c s h = head_idle t (with_errors (head_of t) 0) c s refl
head_follows t (ClearError e) c s h = head_idle t (with_errors (head_of t) (without_bit e (head_of t).errors)) c s refl
head_follows t (Pause k) c s h = pause_follows t k s c h

-- It leaves a sound table.
head_order_sound : (t : List ℕ) (o : HeadOrder) → sound_table t ≡ true → head_made o ≡ true → sound_table (with_head (motors_freed t o) (head_changed (head_of t) o)) ≡ true
unfolding head_changed
head_order_sound t (Mode k) s m = head_sound_on t _ s (changed_range (head_of t) (Mode k) (sound_range t s) m) refl refl
head_order_sound t (AllReply k) s m = head_sound_on t _ s (changed_range (head_of t) (AllReply k) (sound_range t s) m) refl refl
head_order_sound t ClearErrors s m = head_sound_on t _ s (changed_range (head_of t) ClearErrors (sound_range t s) m) refl refl
head_order_sound t (ClearError e) s m = head_sound_on t _ s (changed_range (head_of t) (ClearError e) (sound_range t s) m) refl refl
head_order_sound t (Pause k) s m = pause_sound t k s m

-- An accepted order: each channel follows it.
pub order_follows : (t : List ℕ) (o : Order) (c : ℕ) → sound_table t ≡ true → c ≤ 15 → order_made o ≡ true → number_of (judge t o) ≡ 0
    → Follows t (changed t o) c (deed_of c o)
unfolding changed deed_of order_made performed named
order_follows t (Go x s) c k h m e = writes t x (starts s) (λ p. refl) k (named_channel (Go x s) m) (go_fits t x s m e) c
order_follows t (Stop x flags) c k h m e = writes t x (stops flags) (λ p. refl) k (named_channel (Stop x flags) m) (stop_fits t x flags m) c
order_follows t (StopAll flags) c k h m e =
    let f = fits_stop flags (flags_in_range flags m) in
    record { motor = each_motor t (stops flags) refl k (λ n. fits_stop flags (flags_in_range flags m)) c h; fits = f; pause = rw (each_pause t (stops flags) refl k (λ n. fits_stop flags (flags_in_range flags m))) }
order_follows t (ChangeSpeed x v) c k h m e = writes t x (speeds v) (λ p. refl) k (named_channel (ChangeSpeed x v) m) (speed_fits t x v e) c
order_follows t (Set x s) c k h m e = writes t x (sets s) (λ p. refl) k (named_channel (Set x s) m) (set_fits t x s m e) c
order_follows t (Ask x q) c k h m e = idle t t c refl refl
order_follows t (AskHead q) c k h m e = idle t t c refl refl
order_follows t (ForHead o) c k h m e = head_follows t o c k h

-- A refusal leaves a sound table, and each motor.
pub flagged_sound : (t : List ℕ) (n : ℕ) → sound_table t ≡ true → sound_table (flagged t n) ≡ true
unfolding flagged
flagged_sound t n s = head_sound_on t _ s (flagged_range (head_of t) n (sound_range t s)) refl refl

flagged_idle : (t : List ℕ) (n c : ℕ) → sound_table t ≡ true → Follows t (flagged t n) c rests
unfolding flagged
flagged_idle t n c s = head_idle t _ c s refl

-- An accepted order leaves a sound table.
pub changed_sound : (t : List ℕ) (o : Order) → sound_table t ≡ true → order_made o ≡ true → number_of (judge t o) ≡ 0 → sound_table (changed t o) ≡ true
unfolding changed order_made performed named
changed_sound t (Go x s) k m e = writes_sound t x (starts s) (λ p. refl) k (named_channel (Go x s) m) (go_fits t x s m e) (go_spare t x s e)
changed_sound t (Stop x flags) k m e = writes_still t x (stops flags) (λ p. refl) k (named_channel (Stop x flags) m) (stop_fits t x flags m) refl
changed_sound t (StopAll flags) k m e = each_sound t (stops flags) refl k (λ n. fits_stop flags (flags_in_range flags m))
changed_sound t (ChangeSpeed x v) k m e = writes_still t x (speeds v) (λ p. refl) k (named_channel (ChangeSpeed x v) m) (speed_fits t x v e) refl
changed_sound t (Set x s) k m e = writes_still t x (sets s) (λ p. refl) k (named_channel (Set x s) m) (set_fits t x s m e) refl
changed_sound t (Ask x q) k m e = k
changed_sound t (AskHead q) k m e = k
changed_sound t (ForHead o) k m e = head_order_sound t o k m

-- what a call leaves of a sound table
pub record Next (t u : List ℕ) (d : ℕ → Deed) : Type 0 where
  pub sound : sound_table u ≡ true
  pub follows : (c : ℕ) → c ≤ 15 → Follows t u c (d c)

nothing_next : (t : List ℕ) → sound_table t ≡ true → Next t t (λ c. rests)
nothing_next t s = record { sound = s; follows = λ c h. idle t t c refl refl }

flagged_next : (t : List ℕ) (n : ℕ) → sound_table t ≡ true → Next t (flagged t n) (λ c. rests)
flagged_next t n s = record { sound = flagged_sound t n s; follows = λ c h. flagged_idle t n c s }

-- a command
command_next : (t line reply : List ℕ) → sound_table t ≡ true
    → Next t (command_call t line reply).table (λ c. deed c t (command line reply))
unfolding refused obeyed deed
command_next t line reply s =
    sound_ways (λ a p. Next t a.table (λ c. deed_taken c p)) t line reply s (nothing_next t s)
    (λ h. flagged_next t (number_of (verdict t (order_in t line))) s)
    (λ o e z.
    let made : order_made o ≡ true = rw e at (line_made line) in
    record { sound = changed_sound t o s made z; follows = λ c h. order_follows t o c s h made z })

-- a switch reading
reading_next : (t : List ℕ) (x n : ℕ) → sound_table t ≡ true → Next t (reading_call t x n).table (λ c. deed c t (reading x n))
unfolding reading_call deed number_of performed
reading_next t x n s = go (leb x 15) refl (leb n 7) refl
  where
    off : (c : ℕ) → c ≤ 15 → leb x 15 ≡ false → eqb x c ≡ false
    off c h e = ne_eqb x c (omega (arith, leb-false x 15 e))

    go : (a : Bool) → leb x 15 ≡ a → (b : Bool) → leb n 7 ≡ b → Next t (reading_call t x n).table (λ c. deed_if (eqb x c && b) (reads n))
    go true a true b =
        let h = leb-true x 15 a in
        let l = leb-true n 7 b in
        rw (eq-eqb (length t) table_size (sound_length t s), a, b, s)
        (record { sound = writes_still t x (reads n) (λ p. refl) s h (fits_read n l) refl; follows = λ c k. rw and-true (writes t x (reads n) (λ p. refl) s h (fits_read n l) c) })
    go true a false b = rw (eq-eqb (length t) table_size (sound_length t s), a, b) (record { sound = s; follows = λ c h. rw and-false (idle t t c refl refl) })
    go false a b eb = rw (eq-eqb (length t) table_size (sound_length t s), a) (record { sound = s; follows = λ c h. rw (off c h a) (idle t t c refl refl) })

-- a tick
tick_next : (t p : List ℕ) → sound_table t ≡ true → Next t (tick_call t p).table (λ c. deed c t (tick p))
unfolding tick_call deed number_of performed
tick_next t p s = go (eqb (length p) 64) refl
  where
    go : (b : Bool) → eqb (length p) 64 ≡ b → Next t (tick_call t p).table (λ c. deed_if b ticks)
    go true e =
        rw (eq-eqb (length t) table_size (sound_length t s), e, s)
        (record { sound = each_sound t ticks refl s (λ m. fits_tick); follows = λ c h. record { motor = each_motor t ticks refl s (λ m. fits_tick) c h; fits = fits_tick; pause = rw (each_pause t ticks refl s (λ m. fits_tick)) } })
    go false e = rw (eq-eqb (length t) table_size (sound_length t s), e) (nothing_next t s)

-- After any call on a sound table the table is sound, and each channel follows the call.
pub next : (t : List ℕ) (k : Call) → sound_table t ≡ true → Next t (after urqolina t k).table (λ c. deed c t k)
unfolding after
next t (command line reply) s = command_next t line reply s
next t (reading x n) s = reading_next t x n s
next t (tick p) s = tick_next t p s
