-- Each operation on a sound motor leaves a sound motor, and a tick of one is small. Assumes nothing.
use Rattle.std.specs.Prelude.{Ok, Err}
use mathlib.Core.Path.{◌≡◌, refl, sym, ◌∙◌}
use mathlib.Core.Bool.{Bool, true, false, ◌&&◌, ◌||◌, not, cond, false≢true}
use Prim.Native.Nat.{ℕ, ◌≤◌}
use native.Mathlib.Omega.{arith}
use Rattle.digits.specs.Words.{is_set}
use lib.Dec.{eqb, leb, ltb}
use borrow.Author.Tests.{le-leb, eqb-true, eqb-false, ne_eqb, ltb-true, ltb-false, not-true}
use Rattle.digits.specs.Places.{origin, lowest, highest, is_position, moved, ahead, cw, ccw}
use Rattle.record.specs.declared.Limits.{Limits}
use Rattle.record.specs.declared.Speeds.{Speeds}
use Rattle.record.specs.declared.Wiring.{Wiring}
use Rattle.record.specs.declared.Setup.{Setup}
use Rattle.record.specs.declared.Motor.{Motor}
use Rattle.record.specs.Record.{with_place, with_limits, with_speeds, with_wiring, with_setup, with_drive, let_go}
use Rattle.motor.specs.Switches.{unread, blocked, range_end, edge, room}
use Rattle.motor.specs.Sound.{is_speed, limits_in_range, speeds_in_range, wiring_in_range, contacts_right, setup_in_range, end_flags_in_range, drive_in_range, aim_right, busy, sound_motor}
use Rattle.motor.proofs.SoundLaws.{and_l, and_r, position_bounds, speed_bounds, InRange, Bounds, sound_parts, sound_busy, busy_sound, sound_standing, standing_sound, range_bounds, sound_bounds, target_position, bounds_drive}
use Rattle.motor.proofs.RoomLaws.{room_at_end}
use Rattle.drive.specs.declared.Course.{Course}
use Rattle.drive.specs.declared.Course.TheVariants.{Stay, Beyond, To, Along}
use Rattle.drive.specs.Numbers.{Verdict}
use Rattle.drive.specs.declared.Refusal.TheVariants.{Disabled, Unread, SwitchAhead, AtLimit, AtRangeEnd, Full}
use Rattle.drive.specs.Drives.{lsend, speed_numbered, selected_speed, course_to, towards, at_range_end, hindrance, judge_start, well_aimed, launched, started, released, ended_with, stopped, speed_changed, contacted, switch_read}

-- A drive that ends leaves a sound motor, whatever ends it.
pub ended_sound : (flags : ℕ) (m : Motor) → end_flags_in_range flags ≡ true → InRange m → sound_motor (ended_with flags m) ≡ true
unfolding drive_in_range
ended_sound flags m f r = standing_sound (ended_with flags m) (search) refl

-- A stop leaves a sound motor.
pub stopped_sound :
    (flags : ℕ) (m : Motor) → end_flags_in_range flags ≡ true → sound_motor m ≡ true → sound_motor (stopped flags m) ≡ true
unfolding stopped
stopped_sound flags m f s = go (busy m)
  where
    go : (t : Bool) → sound_motor (cond t (ended_with flags m) m) ≡ true
    go true = ended_sound flags m f (sound_parts m s).range
    go false = s

-- A change of speed leaves a sound motor.
pub speed_changed_sound :
    (m : Motor) (v : ℕ) → is_speed v ≡ true → busy m ≡ true → sound_motor m ≡ true → sound_motor (speed_changed m v) ≡ true
unfolding speed_changed room edge blocked aim_right
speed_changed_sound m v e d s =
    let r = (sound_parts m s).range in
    let w = sound_busy m s d in
    let b = speed_bounds v e in
    let f = sound_bounds m s in
    let drive = bounds_drive (speed_changed m v).drive f.going f.kind (omega arith) (target_position m.drive r.drive) in
    busy_sound (speed_changed m v) (search) (search) d

-- A switch reading leaves a sound motor.
contacts_in_range : (m : Motor) (n : ℕ) → n ≤ 7 → InRange m → InRange (contacted m n)
unfolding wiring_in_range contacts_right
contacts_in_range m n h r =
    let kept = and_l (leb m.wiring.setls 255 && not (is_set 3 m.wiring.setls)) (leb m.wiring.contacts 7) r.wiring in
    let wiring : wiring_in_range (contacted m n).wiring ≡ true = cc (le-leb n 7 h) in
    search

pub switch_read_sound : (m : Motor) (n : ℕ) → n ≤ 7 → sound_motor m ≡ true → sound_motor (switch_read m n) ≡ true
unfolding switch_read room edge aim_right
switch_read_sound m n h s = go (busy m) refl (blocked m.drive.going (contacted m n)) refl
  where
    r : InRange (contacted m n)
    r = contacts_in_range m n h (sound_parts m s).range

    go : (d : Bool) → busy m ≡ d → (b : Bool) → blocked m.drive.going (contacted m n) ≡ b
        → sound_motor (cond (d && b) (ended_with lsend (contacted m n)) (contacted m n)) ≡ true
    go true d true b = ended_sound lsend (contacted m n) refl r
    go true d false b = let w = sound_busy m s d in busy_sound (contacted m n) r (search) d
    go false d b e = standing_sound (contacted m n) r (sound_standing m s d)

-- The course to the place some pulses from a place is well formed.
pub course_aimed : (m : Motor) (going p n : ℕ) → well_aimed m (course_to m going p n) ≡ true
unfolding course_to
course_aimed m going p n = go (eqb (moved going p n) m.place) refl (is_position (moved going p n)) refl
  where
    go : (t : Bool) → eqb (moved going p n) m.place ≡ t → (u : Bool) → is_position (moved going p n) ≡ u
        → well_aimed m (cond t Stay (cond u (To (moved going p n)) Beyond)) ≡ true
    go true e u f = refl
    go false e true f = rw (f, e)
    go false e false f = refl

-- What nothing keeps from leaving has A = 1, contacts that are read, no active enabled switch ahead, and room, on a card that is not full.
pub record Unhindered (full : Bool) (m : Motor) (going : ℕ) : Type 0 where
  pub ready : eqb m.setup.a 0 ≡ false
  pub read : unread m.wiring ≡ false
  pub clear : blocked going m ≡ false
  pub leeway : eqb (room going m) 0 ≡ false
  pub spare : full ≡ false

pub nothing_hinders : (full : Bool) (m : Motor) (going : ℕ) → hindrance full m going ≡ (Ok tt) → Unhindered full m going
unfolding hindrance
nothing_hinders full m going h =
    let p = go (eqb m.setup.a 0) (unread m.wiring) (blocked going m) (at_range_end m going) (eqb (room going m) 0) full h in
    record { ready = p.0; read = p.1; clear = p.2; leeway = p.3; spare = p.4 }
  where
    go : (a u b e r f : Bool) → cond {A = Verdict} a (Err Disabled) (cond u (Err Unread) (cond b (Err SwitchAhead) (cond e (Err AtRangeEnd) (cond r (Err AtLimit) (cond f (Err Full) (Ok tt)))))) ≡ (Ok tt)
        → (a ≡ false) × (u ≡ false) × (b ≡ false) × (r ≡ false) × (f ≡ false)
    go true u b e r f h = (cc, cc, cc, cc, cc)
    go false true b e r f h = (refl, cc, cc, cc, cc)
    go false false true e r f h = (refl, refl, cc, cc, cc)
    go false false false true r f h = (refl, refl, refl, cc, cc)
    go false false false false true f h = (refl, refl, refl, cc, cc)
    go false false false false false true h = (refl, refl, refl, refl, cc)
    go false false false false false false h = (refl, refl, refl, refl, refl)

-- And nothing else keeps a motor from leaving: at the end of the range there is no room, so 12 refuses no start that 11 would not.
pub unhindered_leaves : (full : Bool) (m : Motor) (going : ℕ) → Unhindered full m going → hindrance full m going ≡ (Ok tt)
unfolding hindrance
unhindered_leaves full m going u = go (at_range_end m going) refl
  where
    go : (e : Bool) → at_range_end m going ≡ e → hindrance full m going ≡ (Ok tt)
    go true e = absurd (false≢true (rw (room_at_end going m (eqb-true m.place (range_end going) e)) at (sym u.leeway)))
    go false e = rw (u.ready, u.read, u.clear, e, u.leeway, u.spare)

-- The selected speed of a sound motor is a speed.
pub selected_bounds : (m : Motor) → InRange m → (1 ≤ selected_speed m) × (selected_speed m ≤ 5000000)
unfolding speed_numbered
selected_bounds m r = go (eqb m.speeds.selected 0) (eqb m.speeds.selected 1)
  where
    b : Bounds m
    b = range_bounds m r

    go : (t u : Bool) → (1 ≤ cond t m.speeds.low (cond u m.speeds.middle m.speeds.high)) × (cond t m.speeds.low (cond u m.speeds.middle m.speeds.high) ≤ 5000000)
    go true u = b.low
    go false true = b.middle
    go false false = b.high

-- An accepted start leaves a sound motor.
launched_sound :
    (full paused : Bool) (m : Motor) (going kind target : ℕ) → InRange m → hindrance full m going ≡ (Ok tt) → 1 ≤ going → going ≤ 2 → kind ≤ 1
    → is_position target ≡ true → aim_right (launched paused m going kind target) ≡ true → sound_motor (launched paused m going kind target) ≡ true
unfolding room edge blocked
launched_sound full paused m going kind target r h low high k t a =
    let n = nothing_hinders full m going h in
    let v = selected_bounds m r in
    let drive = bounds_drive (launched paused m going kind target).drive high k (omega arith) t in
    let ready : m.setup.a ≡ 1 = omega (arith, eqb-false m.setup.a 0 n.ready, (range_bounds m r).setup) in
    let read : m.wiring.read ≡ 1 = omega (arith, eqb-false m.wiring.read 0 n.read, (range_bounds m r).read) in
    let leeway : 1 ≤ room going m = omega (arith, eqb-false (room going m) 0 n.leeway) in
    busy_sound (launched paused m going kind target) (search) (search) (rw (ne_eqb going 0 (omega arith)))

-- Another place lies ahead in the direction towards it, which is CW or CCW.
pub towards_ahead :
    (m : Motor) (p : ℕ) → eqb p m.place ≡ false → (1 ≤ towards m p) × (towards m p ≤ 2) × (1 ≤ ahead (towards m p) m.place p)
unfolding towards
towards_ahead m p e = go (ltb m.place p) refl
  where
    apart : p ≡ m.place → ⊥
    apart = eqb-false p m.place e

    go : (t : Bool) → ltb m.place p ≡ t → (1 ≤ cond t cw ccw) × (cond t cw ccw ≤ 2) × (1 ≤ ahead (cond t cw ccw) m.place p)
    go true t = omega (arith, ltb-true m.place p t)
    go false t = omega (arith, apart, ltb-false m.place p t)

-- No position lies past the end of the range, so that a start to a target does not meet it.
pub target_inside : (m : Motor) (p : ℕ) → is_position p ≡ true → eqb p m.place ≡ false → at_range_end m (towards m p) ≡ false
unfolding towards
target_inside m p i e = go (ltb m.place p) refl
  where
    apart : p ≡ m.place → ⊥
    apart = eqb-false p m.place e

    go : (t : Bool) → ltb m.place p ≡ t → eqb m.place (range_end (cond t cw ccw)) ≡ false
    go true t = ne_eqb m.place highest (λ h. absurd (omega (arith, h, ltb-true m.place p t, position_bounds p i)))
    go false t = ne_eqb m.place lowest (λ h. absurd (omega (arith, h, apart, ltb-false m.place p t, position_bounds p i)))

two_ways : (going : ℕ) → (eqb going cw || eqb going ccw) ≡ true → (1 ≤ going) × (going ≤ 2)
two_ways going = go (eqb going cw) refl (eqb going ccw) refl
  where
    go : (t : Bool) → eqb going cw ≡ t → (u : Bool) → eqb going ccw ≡ u → (t || u) ≡ true → (1 ≤ going) × (going ≤ 2)
    go true t u f e = omega (arith, eqb-true going cw t)
    go false t true u e = omega (arith, eqb-true going ccw u)
    go false t false u e = absurd (false≢true e)

pub started_sound :
    (full paused : Bool) (m : Motor) (c : Course) → sound_motor m ≡ true → judge_start full m c ≡ (Ok tt) → well_aimed m c ≡ true → sound_motor (started paused m c) ≡ true
unfolding started judge_start aim_right
started_sound full paused m Stay s h a = s
started_sound full paused m Beyond s h a = s
started_sound full paused m (To p) s h a =
    let t = towards_ahead m p (not-true _ (and_r (is_position p) _ a)) in
    launched_sound full paused m (towards m p) 1 p (sound_parts m s).range h t.0 t.1 (omega arith) (and_l _ _ a) (le-leb 1 _ t.2)
started_sound full paused m (Along going) s h a =
    let t = two_ways going a in
    launched_sound full paused m going 0 origin (sound_parts m s).range h t.0 t.1 (omega arith) refl refl

-- A start is taken on a full card only where it moves nothing.
pub starts_spare : (full paused : Bool) (m : Motor) (c : Course) → judge_start full m c ≡ (Ok tt) → busy m ≡ false → busy (started paused m c) ≡ true → full ≡ false
unfolding started judge_start
starts_spare full paused m Stay h n y = absurd (false≢true (sym n ∙ y))
starts_spare full paused m Beyond h n y = absurd (false≢true (sym n ∙ y))
starts_spare full paused m (To p) h n y = (nothing_hinders full m (towards m p) h).spare
starts_spare full paused m (Along going) h n y = (nothing_hinders full m going h).spare

-- And one that would set its motor off is refused on a full card for that alone.
hindered_full : (m : Motor) (going : ℕ) → hindrance false m going ≡ (Ok tt) → hindrance true m going ≡ (Err Full)
unfolding hindrance
hindered_full m going h = go (eqb m.setup.a 0) (unread m.wiring) (blocked going m) (at_range_end m going) (eqb (room going m) 0) h
  where
    go : (a u b e r : Bool) → cond {A = Verdict} a (Err Disabled) (cond u (Err Unread) (cond b (Err SwitchAhead) (cond e (Err AtRangeEnd) (cond r (Err AtLimit) (Ok tt))))) ≡ (Ok tt)
        → cond {A = Verdict} a (Err Disabled) (cond u (Err Unread) (cond b (Err SwitchAhead) (cond e (Err AtRangeEnd) (cond r (Err AtLimit) (Err Full))))) ≡ (Err Full)
    go true u b e r h = cc
    go false true b e r h = cc
    go false false true e r h = cc
    go false false false true r h = cc
    go false false false false true h = cc
    go false false false false false h = refl

pub full_refuses : (paused : Bool) (m : Motor) (c : Course) → judge_start false m c ≡ (Ok tt) → busy m ≡ false → busy (started paused m c) ≡ true → judge_start true m c ≡ (Err Full)
unfolding started judge_start
full_refuses paused m Stay h n y = absurd (false≢true (sym n ∙ y))
full_refuses paused m Beyond h n y = absurd (false≢true (sym n ∙ y))
full_refuses paused m (To p) h n y = hindered_full m (towards m p) h
full_refuses paused m (Along going) h n y = hindered_full m going h

-- A release leaves a sound motor: a driving one keeps the rules by what is left of it.
pub released_sound : (m : Motor) → sound_motor m ≡ true → sound_motor (released m) ≡ true
unfolding released room edge blocked aim_right
released_sound m s = go m.drive.held refl
  where
    go : (t : Bool) → m.drive.held ≡ t → sound_motor (cond t (with_drive m m.ended (let_go m.drive)) m) ≡ true
    go false e = s
    go true e = way (busy m) refl
      where
        way : (b : Bool) → busy m ≡ b → sound_motor (with_drive m m.ended (let_go m.drive)) ≡ true
        way true d =
            let r = (sound_parts m s).range in
            let w = sound_busy m s d in
            let f = sound_bounds m s in
            let drive = bounds_drive (let_go m.drive) f.going f.kind f.fraction (target_position m.drive r.drive) in
            busy_sound (with_drive m m.ended (let_go m.drive)) (search) (search) d
        way false d = absurd (false≢true (rw (sound_standing m s d) at e))

-- A setting of a stopped motor leaves a sound motor: whatever changes, if every field is in its range and the drive is as it
-- was. The settings are a position, the limits, the speeds, the SETLS byte and the SETMT digits.
module _ (m : Motor) (d : busy m ≡ false) (s : sound_motor m ≡ true) where
  r : InRange m
  r = (sound_parts m s).range

  set_sound : (n : Motor) → InRange n → n.drive ≡ m.drive → sound_motor n ≡ true
  set_sound n q e = standing_sound n q (e ∙ sound_standing m s d)

  pub place_set_sound : (p : ℕ) → is_position p ≡ true → sound_motor (with_place m p) ≡ true
  place_set_sound p h = set_sound (with_place m p) (search r) refl

  pub limits_set_sound : (l : Limits) → limits_in_range l ≡ true → sound_motor (with_limits m l) ≡ true
  limits_set_sound l h = set_sound (with_limits m l) (search r) refl

  pub speeds_set_sound : (v : Speeds) → speeds_in_range v ≡ true → sound_motor (with_speeds m v) ≡ true
  speeds_set_sound v h = set_sound (with_speeds m v) (search r) refl

  pub wiring_set_sound : (w : Wiring) → wiring_in_range w ≡ true → contacts_right w ≡ true → sound_motor (with_wiring m w) ≡ true
  wiring_set_sound w h k = set_sound (with_wiring m w) (search r) refl

  pub setup_set_sound : (u : Setup) → setup_in_range u ≡ true → sound_motor (with_setup m u) ≡ true
  setup_set_sound u h = set_sound (with_setup m u) (search r) refl
