-- Demand 3, for every channel and every sequence of calls after a fresh one. Assumes nothing.
use Rattle.std.specs.Prelude.{Result, Ok, Err}
use mathlib.Core.Path.{◌≡◌, refl, sym, ap, ◌∙◌}
use mathlib.Core.List.{List, [], ◌∷◌}
use mathlib.Core.Bool.{Bool, true, false, ◌&&◌, not, cond, false≢true}
use mathlib.Core.Logic.{◌⊎◌, inl, inr, ⊎_elim}
use Prim.Native.Nat.{ℕ, ◌+◌, ◌≤◌}
use native.Mathlib.Omega.{arith}
use lib.Dec.{eqb}
use borrow.Author.Tests.{leb-true, ne_eqb}
use Rattle.digits.specs.Places.{ahead, cw}
use Rattle.record.specs.declared.Motor.{Motor}
use Rattle.record.specs.Record.{fresh_motor, with_drive, let_go}
use Rattle.motor.specs.Switches.{blocked, edge, room}
use Rattle.motor.specs.Sound.{aim_right, busy, moving, sound_motor}
use Rattle.motor.proofs.SoundLaws.{sound_busy, sound_bounds}
use Rattle.motor.proofs.RoomLaws.{moved_ahead, room_moved}
use Rattle.pulses.specs.declared.Ticked.{Ticked}
use Rattle.drive.specs.declared.Course.{Course}
use Rattle.drive.specs.Drives.{lsend, judge_start, launched, started, released, ended_with, stopped, contacted, switch_read, speed_changed}
use Rattle.pulses.specs.Ticks.{to_target, distance_left, room_left, given, tick_motor, tick_count}
use Rattle.motor.proofs.MovingLaws.{idle_still, busy_moves}
use Rattle.pulses.proofs.Laws.{given_room, given_distance, stopped_given_none, stopped_count}
use Rattle.drive.proofs.Laws.{stopped_again, stopped_none, released_drive, released_moves}
use Rattle.pulses.proofs.TickSound.{pulses_bound}
use Rattle.pulses.proofs.TickLaws.{Way, rests, arrives, ends, goes, way, reached_all, room_all}
use Rattle.line.specs.declared.Start.{Start}
use Rattle.line.specs.declared.Setting.{Setting}
use Rattle.line.specs.declared.Setting.TheVariants.{Preset, SetCwLimit, SetCcwLimit, Select, SetSpeed, SetSwitches, SetMotor}
use Rattle.line.specs.Made.{start_made}
use Rattle.orders.specs.Settings.{course_of, with_setting}
use Rattle.table.specs.Layout.{motor_at, fresh_table}
use Rattle.table.specs.Sound.{sound_table}
use Rattle.table.specs.Computing.{computing_table}
use Rattle.table.proofs.KeptLaws.{fresh_sound}
use Rattle.table.proofs.TableLaws.{sound_motor_at, sound_set_at}
use Rattle.laws.specs.Sequences.{urqolina, Call, after, run, Beginning, from_fresh, ran}
use Rattle.laws.specs.Deeds as D
use Rattle.laws.specs.Deeds.{Deed, deed}
use Rattle.laws.specs.Ledger.{count_at, cw_pulses, ccw_pulses, against, Account, no_drive, takes_ticks, sets_off, entered, account, Travel, no_travel, travelled, travel}
use Rattle.laws.specs.Pulses.{Demand3, Ends, by_stop, by_switch, by_target, by_room}
use Rattle.laws.proofs.PartLaws.{fresh_motor_law}
use Rattle.laws.proofs.DeedLaws.{performed, paused_in, Fits, fits_start, fits_speed, fits_set}
use Rattle.laws.proofs.Following.{Follows, next}
use Rattle.laws.proofs.AccountLaws.{Leaves, leaves, off_leaves, off_stays, Balanced, performed_balanced, booked_paused}
use Rattle.laws.proofs.TravelLaws.{counted, tick_counted, count_read, tick_count_law, Kept, performed_kept}
use Rattle.laws.proofs.LastingLaws.{made_fresh, ran_sound}

-- After each call the account of channel c is balanced, and its way kept.
module _ (c : ℕ) (on : c ≤ 15) where
  pub entered_balanced : (t : List ℕ) (k : Call) (a : Account) → sound_table t ≡ true → a.paused ≡ paused_in t → Balanced (motor_at t c) a
      → Balanced (motor_at (after urqolina t k).table c) (entered urqolina c t a k)
  unfolding entered
  entered_balanced t k a s p b =
      let f = (next t k s).follows c on in
      let o = sound_motor_at t c s on in
      rw f.motor
      (performed_balanced (paused_in t) (motor_at t c) (deed c t k) _ a o f.fits (λ e. rw (tick_count_law t k c s on e) (tick_counted (motor_at t c) o)) p b)

  -- The account and the table know pause alike.
  pub entered_paused : (t : List ℕ) (k : Call) (a : Account) → sound_table t ≡ true → a.paused ≡ paused_in t
      → (entered urqolina c t a k).paused ≡ paused_in (after urqolina t k).table
  unfolding entered
  entered_paused t k a s p = booked_paused (motor_at t c) _ a (deed c t k) ∙ (rw p (sym ((next t k s).follows c on).pause))

  pub run_balanced : (t : List ℕ) (ks : List Call) (a : Account) → sound_table t ≡ true → a.paused ≡ paused_in t → Balanced (motor_at t c) a
      → Balanced (motor_at (run urqolina t ks) c) (account urqolina c t a ks) × ((account urqolina c t a ks).paused ≡ paused_in (run urqolina t ks))
  unfolding run account
  run_balanced t [] a s p b = (b, p)
  run_balanced t (k ∷ ks) a s p b =
      run_balanced (after urqolina t k).table ks (entered urqolina c t a k) (next t k s).sound (entered_paused t k a s p) (entered_balanced t k a s p b)

  run_kept : (t : List ℕ) (ks : List Call) (j : Travel) → sound_table t ≡ true → Kept (motor_at t c) j
      → Kept (motor_at (run urqolina t ks) c) (travel urqolina c t j ks)
  unfolding run travel
  run_kept t [] j s h = h
  run_kept t (k ∷ ks) j s h =
      let f = (next t k s).follows c on in
      let n : ℕ = count_at (after urqolina t k).buffer c in
      let then : Kept (motor_at (after urqolina t k).table c) (travelled n j (deed c t k)) =
      rw f.motor (performed_kept (paused_in t) (motor_at t c) (deed c t k) n j (sound_motor_at t c s on) (λ e. tick_count_law t k c s on e) h) in
      run_kept (after urqolina t k).table ks (travelled n j (deed c t k)) (next t k s).sound then

  -- A fresh motor stands stopped at zero.
  fresh_balanced : (card : ℕ) → Balanced (motor_at (fresh_table card) c) no_drive
  unfolding fresh_motor
  fresh_balanced card =
      rw (fresh_motor_law card c on)
      (record { lasting = refl; counting = sym (idle_still fresh_motor refl); going = λ d. absurd (false≢true d); aim = λ d. absurd (false≢true d); speed = λ d. absurd (false≢true d); exact = λ d. absurd (false≢true d); most = omega arith })

  fresh_unpaused : (card : ℕ) → no_drive.paused ≡ paused_in (fresh_table card)
  unfolding computing_table
  fresh_unpaused card = refl

  fresh_kept : (card : ℕ) → Kept (motor_at (fresh_table card) c) no_travel
  unfolding fresh_motor
  fresh_kept card = rw (fresh_motor_law card c on) refl

-- A switch reading ends a drive, with LSEND, where the switch of its direction is active and enabled after it, and only there.
module _ (m : Motor) (n : ℕ) where
  read_ways : (P : Bool → Motor → Type 0) → (busy m ≡ true → P true (ended_with lsend (contacted m n))) → (busy m ≡ true → P false (contacted m n))
      → ((b : Bool) → busy m ≡ false → P b (contacted m n)) → P (blocked m.drive.going (contacted m n)) (switch_read m n)
  unfolding switch_read
  read_ways P ended on still = go (busy m) refl (blocked m.drive.going (contacted m n))
    where
      go : (t : Bool) → busy m ≡ t → (u : Bool) → P u (cond (t && u) (ended_with lsend (contacted m n)) (contacted m n))
      go true e true = ended e
      go true e false = on e
      go false e u = still u e

  -- what a reading leaves, by whether the switch is in the way
  abbrev Read : Bool → Motor → Type 0
  Read t u = (busy m ≡ true → busy u ≡ false → (t ≡ true) × (u.ended ≡ lsend)) × (t ≡ true → busy u ≡ false)

  read_so : Read (blocked m.drive.going (switch_read m n)) (switch_read m n)
  unfolding blocked
  read_so =
      rw same
      (read_ways Read (λ d. (λ e h. (refl, refl), λ e. refl)) (λ d. (λ e h. absurd (false≢true (sym h ∙ d)), λ e. absurd (false≢true e))) (λ b d. (λ e h. absurd (false≢true (sym d ∙ e)), λ e. d)))
    where
      same : blocked m.drive.going (switch_read m n) ≡ blocked m.drive.going (contacted m n)
      same = read_ways (λ t u. blocked m.drive.going u ≡ blocked m.drive.going (contacted m n)) (λ d. refl) (λ d. refl) (λ t d. refl)

-- A drive that a tick ends is at its target, with flags 0, or has used its room up, with LSEND.
tick_ends : (m : Motor) → sound_motor m ≡ true → busy m ≡ true → busy (tick_motor m).motor ≡ false
    → ((to_target m ≡ true) × ((tick_motor m).motor.place ≡ m.drive.target) × ((tick_motor m).motor.ended ≡ 0))
    ⊎ ((room m.drive.going (tick_motor m).motor ≡ 0) × ((tick_motor m).motor.ended ≡ lsend))
unfolding room edge distance_left aim_right
tick_ends m s d = go (way m)
  where
    g : ℕ
    g = m.drive.going

    go : {t : Ticked} → Way m t → busy t.motor ≡ false
        → ((to_target m ≡ true) × (t.motor.place ≡ m.drive.target) × (t.motor.ended ≡ 0)) ⊎ ((room g t.motor ≡ 0) × (t.motor.ended ≡ lsend))
    go (rests e) h = absurd (false≢true (sym h ∙ d))
    go (arrives e r) h =
        let t = reached_all m r in
        let far = leb-true 1 (ahead g m.place m.drive.target) (rw t.0 at (sound_busy m s d).aim) in
        inl (t.0, rw t.1 (moved_ahead g m.place m.drive.target far), refl)
    go (ends e r u) h = inr (omega (arith, room_moved g m (given m), room_all m u), refl)
    go (goes e r u) h = absurd (false≢true (sym h ∙ d))

-- What a tick ends was moving.
ended_moving : (m : Motor) → busy m ≡ true → busy (tick_motor m).motor ≡ false → moving m ≡ true
ended_moving m d = go (way m)
  where
    go : {t : Ticked} → Way m t → busy t.motor ≡ false → moving m ≡ true
    go (rests e) h = absurd (false≢true (sym h ∙ d))
    go (arrives e r) h = e
    go (ends e r u) h = e
    go (goes e r u) h = e

-- An accepted start that sets off drives.
pub leaves_busy : {q : Bool} {m n : Motor} {going : ℕ} {c : Course} → Leaves q m going c n → (busy n ≡ true) × (moving n ≡ not q)
leaves_busy {q = q} {m = m} {going = going} (leaves kind target h e) =
    let off : busy (launched q m going kind target) ≡ true = rw (ne_eqb going 0 (omega arith)) in
    (off, busy_moves (launched q m going kind target) off)

-- The count of a drive has no pulse against it.
one_way_law : (m : Motor) → sound_motor m ≡ true → against m.drive.going (tick_count m) ≡ 0
unfolding tick_count
one_way_law m s =
    let n = counted m.drive.going (tick_motor m).pulses (pulses_bound m s) in
    rw (n.0, n.1) (go (eqb m.drive.going cw))
  where
    go : (b : Bool) → cond b (cond b 0 (tick_motor m).pulses) (cond b (tick_motor m).pulses 0) ≡ 0
    go true = refl
    go false = refl

-- No tick of a drive goes past its room or its target.
capped : (m : Motor) → sound_motor m ≡ true → busy m ≡ true
    → (cw_pulses (tick_count m) + ccw_pulses (tick_count m) ≤ room_left m) × (to_target m ≡ true → cw_pulses (tick_count m) + ccw_pulses (tick_count m) ≤ distance_left m)
unfolding tick_motor
capped m s d = go (moving m) refl
  where
    go : (t : Bool) → moving m ≡ t
        → (cw_pulses (tick_count m) + ccw_pulses (tick_count m) ≤ room_left m) × (to_target m ≡ true → cw_pulses (tick_count m) + ccw_pulses (tick_count m) ≤ distance_left m)
    go true e = let n = rw e at (tick_counted m s) in rw n (given_room m, given_distance m)
    go false e = let n = rw e at (tick_counted m s) in rw n (omega arith, λ t. omega arith)

-- A stop leaves nothing driving, and its end flags where something drove.
stop_so : (m : Motor) (flags : ℕ) → sound_motor m ≡ true → (busy (stopped flags m) ≡ false) × (busy m ≡ true → (stopped flags m).ended ≡ flags)
stop_so m flags s = (rw (stopped_none flags m s), λ d. unfold stopped in rw d)

-- No setting touches the end flags.
set_flags : (m : Motor) (s : Setting) → (with_setting m s).ended ≡ m.ended
unfolding with_setting
set_flags m (Preset w) = refl
set_flags m (SetCwLimit w) = refl
set_flags m (SetCcwLimit w) = refl
set_flags m (Select k) = refl
set_flags m (SetSpeed k v) = refl
set_flags m (SetSwitches q r) = refl
set_flags m (SetMotor q) = refl

-- A motor that stands stopped before a deed and after it keeps its end flags.
start_flags : (full q : Bool) (m : Motor) (s : Start) → sound_motor m ≡ true → judge_start full m (course_of m s) ≡ (Ok tt) → start_made s ≡ true
    → busy (started q m (course_of m s)) ≡ false → (started q m (course_of m s)).ended ≡ m.ended
start_flags full q m s o j r n = go (sets_off m s) refl
  where
    go : (b : Bool) → sets_off m s ≡ b → (started q m (course_of m s)).ended ≡ m.ended
    go true off = absurd (false≢true (sym n ∙ (leaves_busy (off_leaves full q m s o j r off)).0))
    go false off = rw (off_stays q m s off)

either_flags : (b : Bool) (x y : Motor) (e : ℕ) → x.ended ≡ e → y.ended ≡ e → (cond b x y).ended ≡ e
either_flags true x y e p r = p
either_flags false x y e p r = r

flags_kept : (q : Bool) (m : Motor) (d : Deed) → sound_motor m ≡ true → Fits m d → busy m ≡ false → busy (performed q m d) ≡ false
    → (performed q m d).ended ≡ m.ended
unfolding performed
flags_kept q m (D.starts s) o (fits_start full _ still j w r) e n = start_flags full q m s o j r n
flags_kept q m (D.stops flags) o f e n = rw (stopped_again flags m e)
flags_kept q m (D.speeds v) o (fits_speed _ moves j) e n = absurd (false≢true (sym e ∙ moves))
flags_kept q m (D.sets s) o f e n = set_flags m s
flags_kept q m (D.reads c) o f e n = read_ways m c (λ b x. x.ended ≡ m.ended) (λ q. absurd (false≢true (sym e ∙ q))) (λ q. refl) (λ b q. refl)
flags_kept q m D.ticks o f e n = ap (λ (x : Ticked). x.motor.ended) (stopped_given_none m (idle_still m e))
flags_kept q m (D.pauses k) o f e n =
    either_flags (eqb k 0) (released m) m m.ended (unfold released in either_flags m.drive.held (with_drive m m.ended (let_go m.drive)) m m.ended refl refl) refl
flags_kept q m D.rests o f e n = refl

-- Demand 3, after the calls ks.
module _ (b : Beginning) (c : ℕ) (on : c ≤ 15) (ks : List Call) where
  abbrev t : List ℕ
  t = ran urqolina b ks

  s : sound_table t ≡ true
  s = ran_sound b ks

  abbrev m : Motor
  m = motor_at t c

  o : sound_motor m ≡ true
  o = sound_motor_at t c s on

  abbrev a : Account
  a = account urqolina c (from_fresh urqolina b) no_drive ks

  pub balance : Balanced m a × (a.paused ≡ paused_in t)
  balance = rw (made_fresh b) (run_balanced c on (fresh_table b.card) ks no_drive (fresh_sound b.card b.known) (fresh_unpaused c on b.card) (fresh_balanced c on b.card))

  balanced : Balanced m a
  balanced = balance.0

  kept : Kept m (travel urqolina c (from_fresh urqolina b) no_travel ks)
  kept = rw (made_fresh b) (run_kept c on (fresh_table b.card) ks no_travel (fresh_sound b.card b.known) (fresh_kept c on b.card))

  -- what is known of the motor after a call that is the deed d
  followed : (k : Call) (d : Deed) → deed c t k ≡ d → Follows t (after urqolina t k).table c d
  followed k d e = rw e at ((next t k s).follows c on)

  starting : (k : Call) (st : Start) → deed c t k ≡ D.starts st → sets_off m st ≡ true
      → (busy (motor_at (after urqolina t k).table c) ≡ true) × (moving (motor_at (after urqolina t k).table c) ≡ not a.paused)
  unfolding performed
  starting k st e off = let f = followed k (D.starts st) e in rw (f.motor, balance.1) (go f.fits)
    where
      go : Fits m (D.starts st) → (busy (started (paused_in t) m (course_of m st)) ≡ true) × (moving (started (paused_in t) m (course_of m st)) ≡ not (paused_in t))
      go (fits_start full _ still h w r) = leaves_busy (off_leaves full (paused_in t) m st o h r off)

  releasing : (k : Call) → deed c t k ≡ D.pauses 0
      → (moving (motor_at (after urqolina t k).table c) ≡ busy m) × ((motor_at (after urqolina t k).table c).drive ≡ let_go m.drive)
  unfolding performed
  releasing k e = rw (followed k (D.pauses 0) e).motor (released_moves m, released_drive m)

  pausing : (k : Call) → deed c t k ≡ D.pauses 1 → motor_at (after urqolina t k).table c ≡ m
  unfolding performed
  pausing k e = (followed k (D.pauses 1) e).motor

  stopping : (k : Call) (flags : ℕ) → deed c t k ≡ D.stops flags → busy (motor_at (after urqolina t k).table c) ≡ false
  unfolding performed
  stopping k flags e = rw (followed k (D.stops flags) e).motor (stop_so m flags o).0

  switching : (k : Call) (n : ℕ) → deed c t k ≡ D.reads n → blocked m.drive.going (motor_at (after urqolina t k).table c) ≡ true
      → busy (motor_at (after urqolina t k).table c) ≡ false
  unfolding performed
  switching k n e = rw (followed k (D.reads n) e).motor (read_so m n).1

  ending : (k : Call) → busy m ≡ true → busy (motor_at (after urqolina t k).table c) ≡ false → Ends urqolina b c ks k
  unfolding performed speed_changed
  ending k d h = let f = (next t k s).follows c on in go (deed c t k) refl f.motor f.fits
    where
      u : Motor
      u = motor_at (after urqolina t k).table c

      go : (e : Deed) → deed c t k ≡ e → u ≡ performed (paused_in t) m e → Fits m e → Ends urqolina b c ks k
      go (D.starts st) e q (fits_start _ _ still j w r) = absurd (false≢true (sym still ∙ d))
      go (D.stops flags) e q f = by_stop flags e (rw q ((stop_so m flags o).1 d))
      go (D.speeds v) e q f = absurd (false≢true (sym (rw q at h) ∙ d))
      go (D.sets st) e q (fits_set _ still j w) = absurd (false≢true (sym still ∙ d))
      go (D.reads n) e q f = let r = (read_so m n).0 d (rw q at h) in by_switch n e (rw q r.0) (rw q r.1)
      go D.ticks e q f =
          let counts : takes_ticks a ≡ true = balanced.counting ∙ ended_moving m d (rw q at h) in
          ⊎_elim (λ r. by_target e counts r.0 (rw q r.1) (rw q r.2)) (λ r. by_room e counts (rw q r.0) (rw q r.1)) (tick_ends m o d (rw q at h))
      go (D.pauses k) e q f = absurd (false≢true (sym (rw q at h) ∙ either_busy (eqb k 0)))
        where
          either_busy : (t : Bool) → busy (cond t (released m) m) ≡ true
          either_busy true = rw (released_drive m) d
          either_busy false = d
      go D.rests e q f = absurd (false≢true (sym (rw q at h) ∙ d))

  flags : (k : Call) → busy m ≡ false → busy (motor_at (after urqolina t k).table c) ≡ false
      → (motor_at (after urqolina t k).table c).ended ≡ m.ended
  flags k d h = let f = (next t k s).follows c on in rw f.motor (flags_kept (paused_in t) m (deed c t k) o f.fits d (rw f.motor at h))

  pub demand_3 : Demand3 urqolina b c ks
  demand_3 =
      record {
        never_more = balanced.most;
        never_less = λ e. omega (arith, balanced.exact (sym balanced.lasting ∙ e), (sound_bounds m o).fraction);
        starting = starting;
        lasting = balanced.lasting;
        listing = sound_set_at t c s on ∙ sym balanced.lasting;
        counting = balanced.counting;
        pause = balance.1;
        releasing = releasing;
        pausing = pausing;
        speed = λ e. balanced.speed (sym balanced.lasting ∙ e);
        direction = λ e. balanced.going (sym balanced.lasting ∙ e);
        aim = λ e. balanced.aim (sym balanced.lasting ∙ e);
        one_way = λ e p long. rw (balanced.going (sym balanced.lasting ∙ e), count_read t p c s long on) (one_way_law m o);
        ending = ending;
        stopping = stopping;
        switching = switching;
        within = λ d p long. rw (count_read t p c s long on) (capped m o d);
        flags = flags;
        none = λ d p long. rw (count_read t p c s long on) (stopped_count m (sym balanced.counting ∙ d));
        position = kept;
      }
