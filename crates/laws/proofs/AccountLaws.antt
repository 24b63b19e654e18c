-- The account of a channel's drives, deed by deed: what is booked from outside is what the motor holds. Assumes nothing.
use Rattle.std.specs.Prelude.{Result, Ok, Err}
use mathlib.Core.Path.{◌≡◌, refl, sym, ap, subst, ◌∙◌}
use mathlib.Core.Bool.{Bool, true, false, ◌&&◌, ◌||◌, cond, false≢true, and-true, and-false, and_self}
use mathlib.Core.Logic.{◌⊎◌, inl, inr, ⊎_elim}
use Prim.Native.Nat.{ℕ, ◌+◌, ◌*◌, ◌-◌, ◌≤◌}
use native.Mathlib.Omega.{arith}
use lib.Dec.{eqb, ltb}
use borrow.Author.Tests.{eqb-true, eqb-false, eq-eqb, ne_eqb, lt-ltb, le-ltb, not-true, not-false}
use Rattle.digits.specs.Places.{origin, is_position, moved, cw, ccw}
use Rattle.record.specs.declared.Motor.{Motor}
use Rattle.record.specs.Record.{standing}
use Rattle.motor.specs.Switches.{blocked}
use Rattle.motor.specs.Sound.{busy, moving, sound_motor}
use Rattle.motor.proofs.SoundLaws.{or_true, or_false, sound_bounds}
use Rattle.motor.proofs.RoomLaws.{moved_none}
use Rattle.drive.specs.declared.Course.{Course}
use Rattle.drive.specs.declared.Course.TheVariants.{Beyond, To}
use Rattle.pulses.specs.declared.Ticked.{Ticked}
use Rattle.drive.specs.Drives.{lsend, selected_speed, course_to, towards, judge_start, launched, started, released, ended_with, stopped, speed_changed, contacted, switch_read}
use Rattle.pulses.specs.Ticks.{tick_speed, tick_motor}
use Rattle.motor.proofs.MovingLaws.{moving_busy, idle_still, busy_moves, moving_drive, speed_moves}
use Rattle.pulses.proofs.Laws.{speed_in_force, stopped_given_none}
use Rattle.drive.proofs.Laws.{stopped_stands, stopped_again, released_drive, released_moves}
use Rattle.pulses.proofs.TickLaws.{carried, never_early, SameDrive, drive_stays, moving_stays}
use Rattle.drive.proofs.KeptSound.{towards_ahead}
use Rattle.line.specs.declared.Written.{Written}
use Rattle.line.specs.declared.Start.{Start}
use Rattle.line.specs.declared.Start.TheVariants.{Abs, Rel, Scan, Jog}
use Rattle.line.specs.Made.{direction, start_made}
use Rattle.orders.specs.Settings.{direction_of, course_of, with_setting}
use Rattle.laws.specs.Deeds.{Deed, starts, stops, speeds, sets, reads, ticks, pauses, rests}
use Rattle.laws.specs.Ledger.{Account, new_drive, at_speed, with_tick, pausing, takes_ticks, sets_off, way_of, course_in, booked, closed}
use Rattle.laws.proofs.DeedLaws.{performed, paused_by, Fits, fits_start, fits_speed, set_drive}

-- a motor that has just been started in a direction on a course: it drives, at the selected speed, with fraction 0
pub data Leaves (q : Bool) (m : Motor) (going : ℕ) (c : Course) : Motor → Type 0 where
  leaves : (kind target : ℕ) → 1 ≤ going → course_in (launched q m going kind target) ≡ c → Leaves q m going c (launched q m going kind target)

-- A start to another place that is accepted leaves towards it; one to the place where the motor stands changes nothing.
module _ (full q : Bool) (m : Motor) (going p n : ℕ) where
  to_leaves : eqb (moved going p n) m.place ≡ false → judge_start full m (course_to m going p n) ≡ (Ok tt)
      → Leaves q m (towards m (moved going p n)) (course_to m going p n) (started q m (course_to m going p n))
  unfolding course_to judge_start started course_in
  to_leaves e = rw e (go (is_position (moved going p n)))
    where
      to : ℕ
      to = moved going p n

      go : (b : Bool) → judge_start full m (cond b (To to) Beyond) ≡ (Ok tt)
          → Leaves q m (towards m to) (cond b (To to) Beyond) (started q m (cond b (To to) Beyond))
      go true h = leaves 1 to (towards_ahead m to e).0 refl
      go false h =
          let never : false ≡ true = cc in
          absurd (false≢true never)

  to_stays : eqb (moved going p n) m.place ≡ true → started q m (course_to m going p n) ≡ m
  unfolding course_to started
  to_stays e = rw e

-- A direction is CW or CCW.
two_ways : (going : ℕ) → direction going ≡ true → (going ≡ cw) ⊎ (going ≡ ccw)
two_ways going h = go (eqb going cw) refl h
  where
    go : (b : Bool) → eqb going cw ≡ b → (b || eqb going ccw) ≡ true → (going ≡ cw) ⊎ (going ≡ ccw)
    go true e h = inl (eqb-true going cw e)
    go false e h = inr (eqb-true going ccw h)

-- A place some pulses away is another place, and lies in the direction that leads there.
module _ (full q : Bool) (m : Motor) (going n : ℕ) (s : sound_motor m ≡ true) (h : 1 ≤ n) (d : direction going ≡ true) where
  away : eqb (moved going m.place n) m.place ≡ false
  away = go (eqb going cw)
    where
      go : (b : Bool) → eqb (cond b (m.place + n) (m.place - n)) m.place ≡ false
      go true = ne_eqb (m.place + n) m.place (omega arith)
      go false = ne_eqb (m.place - n) m.place (omega (arith, (sound_bounds m s).place))

  there : towards m (moved going m.place n) ≡ going
  unfolding towards
  there = go (two_ways going d)
    where
      go : (going ≡ cw) ⊎ (going ≡ ccw) → cond (ltb m.place (moved going m.place n)) cw ccw ≡ going
      go (inl e) = rw (e, lt-ltb m.place (m.place + n) (omega arith))
      go (inr e) = rw (e, le-ltb m.place (m.place - n) (omega arith))

  by_leaves : judge_start full m (course_to m going m.place n) ≡ (Ok tt)
      → Leaves q m going (course_to m going m.place n) (started q m (course_to m going m.place n))
  by_leaves j = rw there at (to_leaves full q m going m.place n away j)

-- A sign is a direction.
sign_direction : (w : Written) → direction (direction_of w) ≡ true
sign_direction w = go w.minus
  where
    go : (b : Bool) → direction (cond b ccw cw) ≡ true
    go true = refl
    go false = refl

-- An accepted start that sets off leaves in the direction that it asks for.
pub off_leaves : (full q : Bool) (m : Motor) (s : Start) → sound_motor m ≡ true → judge_start full m (course_of m s) ≡ (Ok tt) → start_made s ≡ true
    → sets_off m s ≡ true → Leaves q m (way_of m s) (course_of m s) (started q m (course_of m s))
unfolding sets_off way_of
off_leaves full q m (Abs w) s h d e = to_leaves full q m (direction_of w) origin w.digits (not-true _ e) h
off_leaves full q m (Rel w) s h d e =
    by_leaves full q m (direction_of w) w.digits s (omega (arith, eqb-false w.digits 0 (not-true _ e))) (sign_direction w) h
off_leaves full q m (Scan going) s h d e =
    unfold started in unfold course_in in leaves 0 origin (⊎_elim (λ q. omega (arith, q)) (λ q. omega (arith, q)) (two_ways going d)) refl
off_leaves full q m (Jog going) s h d e = by_leaves full q m going 1 s (omega arith) d h

-- One that does not changes nothing.
pub off_stays : (q : Bool) (m : Motor) (s : Start) → sets_off m s ≡ false → started q m (course_of m s) ≡ m
unfolding sets_off
off_stays q m (Abs w) e = to_stays false q m (direction_of w) origin w.digits (not-false _ e)
off_stays q m (Rel w) e =
    to_stays false q m (direction_of w) m.place w.digits
    (rw (eqb-true w.digits 0 (not-false _ e), moved_none (direction_of w) m.place) (eq-eqb m.place m.place refl))
off_stays q m (Scan going) e = absurd (false≢true (sym e))
off_stays q m (Jog going) e = absurd (false≢true (sym e))

-- what the account and the motor have to say of each other
pub record Balanced (m : Motor) (a : Account) : Type 0 where
  pub lasting : a.lasts ≡ busy m
  pub counting : takes_ticks a ≡ moving m
  pub going : busy m ≡ true → a.going ≡ m.drive.going
  pub aim : busy m ≡ true → a.aim ≡ course_in m
  pub speed : busy m ≡ true → a.speed ≡ m.drive.speed
  pub exact : busy m ≡ true → 1000 * a.pulses + m.drive.fraction ≡ a.sum
  pub most : 1000 * a.pulses ≤ a.sum

-- A deed that ends the drive leaves the account and the motor balanced, and so does one that leaves the drive as it was.
no_drive_law : (n : Motor) (a : Account) → n.drive ≡ standing → 1000 * a.pulses ≤ a.sum → Balanced n (closed n a)
no_drive_law n a e h =
    let still : busy n ≡ false = rw e in
    let ended : (a.lasts && busy n) ≡ false = rw (still, and-false) in
    record {
      lasting = ended ∙ sym still;
      counting = rw (ended, idle_still n still);
      going = λ d. absurd (false≢true (sym still ∙ d));
      aim = λ d. absurd (false≢true (sym still ∙ d));
      speed = λ d. absurd (false≢true (sym still ∙ d));
      exact = λ d. absurd (false≢true (sym still ∙ d));
      most = h;
    }

same_drive : (m n : Motor) (a : Account) → n.drive ≡ m.drive → Balanced m a → Balanced n (closed n a)
same_drive m n a e b =
    let lasts : (a.lasts && busy n) ≡ a.lasts = rw (e, b.lasting, and_self) in
    record {
      lasting = lasts ∙ b.lasting ∙ rw e;
      counting = rw (lasts, b.counting, moving_drive n m e);
      going = rw e b.going;
      aim = unfold course_in in rw e b.aim;
      speed = rw e b.speed;
      exact = rw e b.exact;
      most = b.most;
    }

start_balanced : (full : Bool) (m : Motor) (s : Start) (n : ℕ) (a : Account) → sound_motor m ≡ true → judge_start full m (course_of m s) ≡ (Ok tt) → start_made s ≡ true
    → Balanced m a → let l = started a.paused m (course_of m s) in Balanced l (closed l (booked m n a (starts s)))
unfolding booked
start_balanced full m s n a o h w b = go (sets_off m s) refl
  where
    l : Motor
    l = started a.paused m (course_of m s)

    new : Account
    new = new_drive a.paused (way_of m s) (course_of m s) (selected_speed m)

    launch : {l : Motor} → Leaves a.paused m (way_of m s) (course_of m s) l → Balanced l (closed l new)
    launch (leaves kind target g e) =
        let l = launched a.paused m (way_of m s) kind target in
        let off : busy l ≡ true = rw (ne_eqb (way_of m s) 0 (omega arith)) in
        record {
          lasting = refl;
          counting = rw (off, busy_moves l off);
          going = λ d. refl;
          aim = λ d. sym e;
          speed = λ d. refl;
          exact = λ d. refl;
          most = omega arith;
        }

    go : (t : Bool) → sets_off m s ≡ t → Balanced l (closed l (cond t new a))
    go true e = launch (off_leaves full a.paused m s o h w e)
    go false e = rw (off_stays a.paused m s e) (same_drive m m a refl b)

stop_balanced : (m : Motor) (flags : ℕ) (a : Account) → Balanced m a → Balanced (stopped flags m) (closed (stopped flags m) a)
stop_balanced m flags a b = go (busy m) refl
  where
    go : (t : Bool) → busy m ≡ t → Balanced (stopped flags m) (closed (stopped flags m) a)
    go true d = no_drive_law (stopped flags m) a (stopped_stands flags m d) b.most
    go false d = rw (stopped_again flags m d) (same_drive m m a refl b)

speed_balanced : (m : Motor) (v : ℕ) (a : Account) → busy m ≡ true → Balanced m a
    → Balanced (speed_changed m v) (closed (speed_changed m v) (at_speed a v))
unfolding speed_changed
speed_balanced m v a d b =
    let lasts : (a.lasts && busy m) ≡ a.lasts = rw (b.lasting, and_self) in
    record {
      lasting = lasts ∙ b.lasting;
      counting = rw (lasts, b.counting, speed_moves m m.ended v);
      going = b.going;
      aim = unfold course_in in b.aim;
      speed = λ e. refl;
      exact = b.exact;
      most = b.most;
    }

read_balanced : (m : Motor) (n : ℕ) (a : Account) → Balanced m a → Balanced (switch_read m n) (closed (switch_read m n) a)
unfolding switch_read
read_balanced m n a b = go (busy m && blocked m.drive.going (contacted m n))
  where
    after : Bool → Motor
    after t = cond t (ended_with lsend (contacted m n)) (contacted m n)

    go : (t : Bool) → Balanced (after t) (closed (after t) a)
    go true = no_drive_law (ended_with lsend (contacted m n)) a refl b.most
    go false = same_drive m (contacted m n) a refl b

-- A drive that keeps its direction, kind and target keeps its course.
course_stays : (m n : Motor) → SameDrive m n → course_in n ≡ course_in m
unfolding course_in
course_stays m n d = rw (d.kind, d.target, d.going)

-- After PAUSE OFF what is busy moves, and its account counts; PAUSE ON changes nothing of either.
pause_balanced : (m : Motor) (k : ℕ) (a : Account) → Balanced m a
    → let n = cond (eqb k 0) (released m) m in Balanced n (closed n (pausing a k))
unfolding course_in
pause_balanced m k a b = go (eqb k 0)
  where
    lasts : (a.lasts && busy m) ≡ a.lasts
    lasts = rw (b.lasting, and_self)

    after : Motor → Bool → Account
    after n t =
        record { lasts = a.lasts && busy n; counting = a.counting || t; paused = (pausing a k).paused; going = a.going; aim = a.aim; speed = a.speed; sum = a.sum; pulses = a.pulses }

    go : (t : Bool) → Balanced (cond t (released m) m) (after (cond t (released m) m) t)
    go false = record { lasting = lasts ∙ b.lasting; counting = rw (lasts, or_false a.counting) b.counting; going = b.going; aim = b.aim; speed = b.speed; exact = b.exact; most = b.most }
    go true =
        let e = released_drive m in
        record {
          lasting = rw (e) (lasts ∙ b.lasting);
          counting = rw (released_moves m, e, lasts, or_true a.counting, and-true) b.lasting;
          going = rw (e) b.going;
          aim = rw (e) b.aim;
          speed = rw (e) b.speed;
          exact = rw (e) b.exact;
          most = b.most;
        }

-- After a tick of a motor that moves, it moves on or is not busy.
tick_counting : (m : Motor) → moving m ≡ true → (busy (tick_motor m).motor && true) ≡ moving (tick_motor m).motor
tick_counting m d = go (busy (tick_motor m).motor) refl
  where
    go : (t : Bool) → busy (tick_motor m).motor ≡ t → (t && true) ≡ moving (tick_motor m).motor
    go true e = sym (moving_stays m e ∙ d)
    go false e = sym (idle_still (tick_motor m).motor e)

-- A tick books its speed and its pulses while the drive's ticks count, and they count while the motor moves.
tick_balanced : (m : Motor) (n : ℕ) (a : Account) → n ≡ (tick_motor m).pulses → Balanced m a
    → Balanced (tick_motor m).motor (closed (tick_motor m).motor (booked m n a ticks))
unfolding booked
tick_balanced m n a p b =
    subst (λ (t : Bool). Balanced m' (closed m' (cond t (with_tick a n) a))) (sym b.counting) (go (moving m) refl)
  where
    m' : Motor
    m' = (tick_motor m).motor

    go : (t : Bool) → moving m ≡ t → Balanced m' (closed m' (cond t (with_tick a n) a))
    go false d = same_drive m m' a (ap (λ (x : Ticked). x.motor.drive) (stopped_given_none m d)) b
    go true d =
        let on : busy m ≡ true = moving_busy m d in
        let lasts : a.lasts ≡ true = b.lasting ∙ on in
        let counts : a.counting ≡ true = rw lasts at (b.counting ∙ d) in
        let v : tick_speed m ≡ a.speed = speed_in_force m d ∙ sym (b.speed on) in
        (record {
          lasting = rw lasts;
          counting = rw (lasts, counts) (tick_counting m d);
          going = λ e. b.going on ∙ sym (drive_stays m e).going;
          aim = λ e. b.aim on ∙ sym (course_stays m (tick_motor m).motor (drive_stays m e));
          speed = λ e. b.speed on ∙ sym (drive_stays m e).speed;
          exact = λ e. omega (arith, p, v, carried m e, b.exact on);
          most = omega (arith, p, v, never_early m, b.exact on);
        })

-- Whatever a deed does, the account stays balanced.
pub performed_balanced : (q : Bool) (m : Motor) (d : Deed) (n : ℕ) (a : Account) → sound_motor m ≡ true → Fits m d → (d ≡ ticks → n ≡ (tick_motor m).pulses)
    → a.paused ≡ q → Balanced m a → Balanced (performed q m d) (closed (performed q m d) (booked m n a d))
unfolding performed booked
performed_balanced q m (starts s) n a o (fits_start full _ still h w r) p on b = rw (← on) (start_balanced full m s n a o h r b)
performed_balanced q m (stops flags) n a o f p on b = stop_balanced m flags a b
performed_balanced q m (speeds v) n a o (fits_speed _ d h) p on b = speed_balanced m v a d b
performed_balanced q m (sets s) n a o f p on b = same_drive m (with_setting m s) a (set_drive m s) b
performed_balanced q m (reads c) n a o f p on b = read_balanced m c a b
performed_balanced q m ticks n a o f p on b = tick_balanced m n a (p refl) b
performed_balanced q m (pauses k) n a o f p on b = pause_balanced m k a b
performed_balanced q m rests n a o f p on b = same_drive m m a refl b

either : (b : Bool) (x y : Account) (p : Bool) → x.paused ≡ p → y.paused ≡ p → (cond b x y).paused ≡ p
either true x y p e f = e
either false x y p e f = f

-- The account knows pause as the deeds make it.
pub booked_paused : (m : Motor) (n : ℕ) (a : Account) (d : Deed) → (booked m n a d).paused ≡ paused_by a.paused d
unfolding booked
booked_paused m n a (starts s) = either (sets_off m s) (new_drive a.paused (way_of m s) (course_of m s) (selected_speed m)) a a.paused refl refl
booked_paused m n a (stops flags) = refl
booked_paused m n a (speeds v) = refl
booked_paused m n a (sets s) = refl
booked_paused m n a (reads c) = refl
booked_paused m n a ticks = either (takes_ticks a) (with_tick a n) a a.paused refl refl
booked_paused m n a (pauses k) = refl
booked_paused m n a rests = refl
