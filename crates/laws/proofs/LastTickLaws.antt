-- "A drive to a target at distance D and speed v, with no stop, SPC or switch reading on its channel and D within room, ends at
-- tick D·1000/v rounded up", counted from its release, over sequences, with any other calls in between. Assumes nothing.
use mathlib.Core.Path.{◌≡◌, refl, sym, ap, ◌∙◌}
use mathlib.Core.List.{List, [], ◌∷◌}
use mathlib.Core.Bool.{Bool, true, false, ◌&&◌, not, cond, false≢true}
use Prim.Native.Nat.{ℕ, zero, suc, ◌+◌, ◌*◌, ◌≤◌, ◌<◌}
use native.Mathlib.Nat.{zero-add, add-zero}
use native.Mathlib.Numerals.{add-one}
use native.Mathlib.Omega.{arith}
use lib.ListN.{length}
use lib.Dec.{eqb}
use borrow.Author.Tests.{eq-eqb, not-true}
use Rattle.record.specs.declared.Motor.{Motor}
use Rattle.record.specs.Record.{with_drive, let_go}
use Rattle.motor.specs.Switches.{edge, room}
use Rattle.motor.specs.Sound.{busy, moving, sound_motor}
use Rattle.motor.proofs.SoundLaws.{and_l, and_r}
use Rattle.motor.proofs.MovingLaws.{moving_free}
use Rattle.drive.specs.declared.Course.{Course}
use Rattle.drive.specs.declared.Course.TheVariants.{Stay, Beyond, To, Along}
use Rattle.drive.specs.Drives.{released}
use Rattle.drive.proofs.Laws.{released_drive, released_free, released_as, released_again, released_moves}
use Rattle.drive.proofs.KeptSound.{released_sound}
use Rattle.pulses.specs.declared.Ticked.{Ticked}
use Rattle.pulses.specs.Ticks.{rounded_up, to_target, distance_left, room_left, tick_motor, ticks}
use Rattle.pulses.proofs.Laws.{stopped_given_none}
use Rattle.pulses.proofs.LastTick.{ticks_none, ticks_more, drives_before, ends_stopped}
use Rattle.table.specs.Layout.{motor_at}
use Rattle.table.specs.Sound.{sound_table}
use Rattle.table.proofs.TableLaws.{sound_motor_at}
use Rattle.laws.specs.Sequences.{urqolina, Call, tick, after, run, Beginning, ran, never}
use Rattle.laws.specs.Deeds as D
use Rattle.laws.specs.Deeds.{Deed, deed, is_tick}
use Rattle.laws.specs.Ledger.{Account, course_in, entered, one_more, ticks_in}
use Rattle.laws.specs.Pulses.{disturbs, account_now, last_tick, Undisturbed, account_later, ticks_later, LastTick}
use Rattle.laws.proofs.DeedLaws.{performed, paused_in, performed_free, Fits, fits_start, fits_set}
use Rattle.laws.proofs.Following.{next}
use Rattle.laws.proofs.AccountLaws.{Balanced}
use Rattle.laws.proofs.PulseLaws.{entered_balanced, entered_paused, run_balanced, balance}
use Rattle.laws.proofs.LastingLaws.{run_sound, ran_sound}

-- Ticks hold nothing.
tick_free : (m : Motor) → m.drive.held ≡ false → (tick_motor m).motor.drive.held ≡ false
unfolding performed
tick_free m e = performed_free m D.ticks e

ticks_free : (k : ℕ) (m : Motor) → m.drive.held ≡ false → (ticks k m).drive.held ≡ false
ticks_free zero m e = rw (ticks_none m) e
ticks_free (suc k) m e = rw (ticks_more k m) (tick_free (ticks k m) (ticks_free k m e))

-- What is busy is busy after its release, and the other way round.
released_busy : (m : Motor) → busy (released m) ≡ busy m
released_busy m = rw (released_drive m)

-- A motor that has come some ticks on its way from its release goes on with the ticks of a sequence that count, as long as it drives and
-- nothing disturbs it; before its release it waits.
module _ (c : ℕ) (on : c ≤ 15) (r : Motor) (free : r.drive.held ≡ false) (last : ℕ) (lasts : (k : ℕ) → k < last → busy (ticks k r) ≡ true) where
  abbrev disturbed : List ℕ → Call → Bool
  disturbed t k = disturbs (deed c t k)

  -- a tick, where it counts and where it does not
  ticked : (m : Motor) (a : Account) (n : ℕ) → Balanced m a → released m ≡ ticks n r → busy m ≡ true
      → released (tick_motor m).motor ≡ ticks (one_more a.counting n) r
  ticked m a n b e drives = go a.counting refl
    where
      moves : moving m ≡ a.counting
      moves = sym b.counting ∙ rw (b.lasting, drives)

      go : (t : Bool) → a.counting ≡ t → released (tick_motor m).motor ≡ ticks (one_more t n) r
      go true h =
          let here : m ≡ ticks n r = sym (released_free m (moving_free m (moves ∙ h))) ∙ e in
          let there : (tick_motor m).motor ≡ ticks (suc n) r = rw (here, ticks_more n r) in
          rw there (released_free (ticks (suc n) r) (ticks_free (suc n) r free))
      go false h = ap (λ (x : Ticked). released x.motor) (stopped_given_none m (moves ∙ h)) ∙ e

  -- one call more: n ticks have counted before it, and as many as it is after it
  one_call : (t : List ℕ) (k : Call) (a : Account) (n : ℕ) → sound_table t ≡ true → Balanced (motor_at t c) a → released (motor_at t c) ≡ ticks n r
      → disturbed t k ≡ false → n < last → released (motor_at (after urqolina t k).table c) ≡ ticks (one_more (is_tick (deed c t k) && a.counting) n) r
  unfolding disturbs is_tick performed
  one_call t k a n s b e quiet h = let f = (next t k s).follows c on in go (deed c t k) quiet f.motor f.fits
    where
      m : Motor
      m = motor_at t c

      u : Motor
      u = motor_at (after urqolina t k).table c

      drives : busy m ≡ true
      drives = sym (released_busy m) ∙ rw e (lasts n h)

      go : (d : Deed) → disturbs d ≡ false → u ≡ performed (paused_in t) m d → Fits m d → released u ≡ ticks (one_more (is_tick d && a.counting) n) r
      go (D.starts st) q w (fits_start _ _ still j x y) = absurd (false≢true (sym still ∙ drives))
      go (D.stops flags) q w f = absurd (false≢true (sym q))
      go (D.speeds v) q w f = absurd (false≢true (sym q))
      go (D.sets st) q w (fits_set _ still j x) = absurd (false≢true (sym still ∙ drives))
      go (D.reads x) q w f = absurd (false≢true (sym q))
      go D.ticks q w f = rw w (ticked m a n b e drives)
      go (D.pauses j) q w f = rw w (either (eqb j 0))
        where
          either : (o : Bool) → released (cond o (released m) m) ≡ ticks n r
          either true = released_again m ∙ e
          either false = e
      go D.rests q w f = rw w e

  on_its_way : (later : List Call) (t : List ℕ) (a : Account) (n : ℕ) → sound_table t ≡ true → a.paused ≡ paused_in t → Balanced (motor_at t c) a
      → released (motor_at t c) ≡ ticks n r → never urqolina disturbed t later ≡ true → n + ticks_in urqolina c t a later < last
      → released (motor_at (run urqolina t later) c) ≡ ticks (n + ticks_in urqolina c t a later) r
  unfolding run never
  on_its_way [] t a n s p b e quiet h = unfold ticks_in in rw add-zero e
  on_its_way (k ∷ ks) t a n s p b e quiet h =
      let u = (after urqolina t k).table in
      let next-a = entered urqolina c t a k in
      let still = not-true _ (and_l (not (disturbed t k)) _ quiet) in
      let rest = ticks_in urqolina c u next-a ks in
      let counts = is_tick (deed c t k) && a.counting in
      let count : ticks_in urqolina c t a (k ∷ ks) ≡ one_more counts rest = unfold ticks_in in refl in
      let come : n + ticks_in urqolina c t a (k ∷ ks) ≡ one_more counts n + rest = rw count (shift counts n rest) in
      rw come
      (on_its_way ks u next-a (one_more counts n) (next t k s).sound (entered_paused c on t k a s p) (entered_balanced c on t k a s p b) (one_call t k a n s b e still (omega arith)) (and_r (not (disturbed t k)) _ quiet) (rw (← come) h))
    where
      shift : (b : Bool) (x y : ℕ) → x + one_more b y ≡ one_more b x + y
      shift true x y = omega arith
      shift false x y = refl

-- A course to a place is a target.
target_of : (m : Motor) (p : ℕ) → course_in m ≡ To p → (to_target m ≡ true) × (m.drive.target ≡ p)
unfolding course_in
target_of m p = go (to_target m)
  where
    place : Course → ℕ
    place Stay = 0
    place Beyond = 0
    place (To q) = q
    place (Along going) = 0

    aims : Course → Bool
    aims Stay = false
    aims Beyond = false
    aims (To q) = true
    aims (Along going) = false

    go : (t : Bool) → cond t (To m.drive.target) (Along m.drive.going) ≡ To p → (t ≡ true) × (m.drive.target ≡ p)
    go true e = (refl, ap place e)
    go false e = absurd (false≢true (ap aims e))

-- A drive of which no tick has counted yet, from the table after the calls ks on.
module _ (b : Beginning) (c : ℕ) (on : c ≤ 15) (ks : List Call) (p : ℕ) (later : List Call) (w : Undisturbed urqolina b c ks p later) where
  abbrev t : List ℕ
  t = ran urqolina b ks

  abbrev m : Motor
  m = motor_at t c

  abbrev a : Account
  a = account_now urqolina b c ks

  s : sound_table t ≡ true
  s = ran_sound b ks

  balanced : Balanced m a
  balanced = (balance b c on ks).0

  drives : busy m ≡ true
  drives = sym balanced.lasting ∙ w.lasts

  -- the motor as its release makes it
  abbrev r : Motor
  r = with_drive m m.ended (let_go m.drive)

  as_released : released m ≡ r
  as_released = released_as m

  sound : sound_motor r ≡ true
  sound = rw (← as_released) (released_sound m (sound_motor_at t c s on))

  moves : moving r ≡ true
  moves = rw (← as_released) (released_moves m ∙ drives)

  aim : (to_target m ≡ true) × (m.drive.target ≡ p)
  aim = target_of m p (sym (balanced.aim drives) ∙ w.aimed)

  -- no tick has counted, so nothing is carried
  none : m.drive.fraction ≡ 0
  none = omega (arith, balanced.exact drives, w.unticked)

  within : distance_left r ≤ room_left r
  unfolding distance_left room edge
  within = rw (← balanced.going drives, aim.1) w.within

  final : rounded_up (distance_left r * 1000) r.drive.speed ≡ last_tick urqolina b c ks p later
  unfolding distance_left
  final = rw (balanced.going drives, balanced.speed drives, aim.1)

  lasts : (k : ℕ) → k < last_tick urqolina b c ks p later → busy (ticks k r) ≡ true
  lasts k h = drives_before r sound moves aim.0 none within k (rw final h)

  -- the table after `later`, while the drive lasts
  abbrev v : List ℕ
  v = run urqolina t later

  abbrev come : ℕ
  come = ticks_later urqolina b c ks p later

  way : come < last_tick urqolina b c ks p later → released (motor_at v c) ≡ ticks come r
  way h =
      rw zero-add at
      (on_its_way c on r refl (last_tick urqolina b c ks p later) lasts later t a 0 s (balance b c on ks).1 balanced (as_released ∙ sym (ticks_none r)) w.alone (rw zero-add h))

  before : come < last_tick urqolina b c ks p later → busy (motor_at v c) ≡ true
  before h = sym (released_busy (motor_at v c)) ∙ rw (way h) (lasts come h)

  -- the tick that it ends with
  ended : (account_later urqolina b c ks p later).counting ≡ true → come + 1 ≡ last_tick urqolina b c ks p later → (pulses : List ℕ) → length pulses ≡ 64
      → motor_at (after urqolina v (tick pulses)).table c ≡ ticks (come + 1) r
  unfolding performed
  ended counts e pulses long =
      let later-on = (run_balanced c on t later a s (balance b c on ks).1 balanced).0 in
      let f = (next v (tick pulses) (run_sound t later s)).follows c on in
      let d : deed c v (tick pulses) ≡ D.ticks = unfold deed in rw (eq-eqb (length pulses) 64 long) in
      let step : motor_at (after urqolina v (tick pulses)).table c ≡ (tick_motor (motor_at v c)).motor = rw d at f.motor in
      let goes_on_law : moving (motor_at v c) ≡ true = sym later-on.counting ∙ rw (later-on.lasting, before (omega arith), counts) in
      let here : motor_at v c ≡ ticks come r = sym (released_free (motor_at v c) (moving_free (motor_at v c) goes_on_law)) ∙ way (omega arith) in
      rw (step, here, ← ticks_more come r, ← add-one come)

  with : (account_later urqolina b c ks p later).counting ≡ true → come + 1 ≡ last_tick urqolina b c ks p later → (pulses : List ℕ) → length pulses ≡ 64
      → let n = motor_at (after urqolina v (tick pulses)).table c in (busy n ≡ false) × (n.place ≡ p) × (n.ended ≡ 0)
  with counts e pulses long = rw (ended counts e pulses long, ← aim.1) (ends_stopped r sound moves aim.0 none within (come + 1) (rw final e))

pub last_tick_law : (b : Beginning) (c : ℕ) → c ≤ 15 → (ks : List Call) (p : ℕ) (later : List Call) → LastTick urqolina b c ks p later
unfolding after
last_tick_law b c on ks p later = record { before = before b c on ks p later; with = with b c on ks p later }
