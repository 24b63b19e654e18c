-- Soundness of a motor in its parts, and what follows for numbers. Assumes nothing.
use Rattle.std.proofs.Common.{◌≡◌, ℕ, ◌≤◌, Bool, true, false, cond, ◌&&◌, ◌||◌, eqb, leb, ◌⊎◌, refl, inl, inr, arith, eq-eqb, eqb-true, le-leb, leb-true}
use borrow.Author.Tests.{eqb-false, not-true, not-false}
use Rattle.digits.specs.Places.{origin, is_position, cw, ccw}
use Rattle.record.specs.declared.Wiring.{Wiring}
use Rattle.record.specs.declared.Drive.{Drive}
use Rattle.record.specs.declared.Motor.{Motor}
use Rattle.record.specs.Record.{standing}
use Rattle.motor.specs.Switches.{blocked, room}
use Rattle.motor.specs.Sound.{is_speed, limits_in_range, speeds_in_range, wiring_in_range, contacts_right, setup_in_range, end_flags_in_range, drive_in_range, settings_in_range, in_range, at_rest, aim_right, under_way, busy, sound_motor}

-- Of a conjunction that holds, both parts hold.
pub and_l : (a b : Bool) → (a && b) ≡ true → a ≡ true
and_l a b e = grind arith

pub and_r : (a b : Bool) → (a && b) ≡ true → b ≡ true
and_r a b e = grind arith

-- Where the second part holds, the first decides; where it does not, neither does the whole.
pub and_true : (a : Bool) → (a && true) ≡ a
and_true a = grind arith

pub and_false : (a : Bool) → (a && false) ≡ false
and_false a = grind arith

pub or_true : (a : Bool) → (a || true) ≡ true
or_true a = grind arith

pub or_false : (a : Bool) → (a || false) ≡ a
or_false a = grind arith

-- Two verdicts are one where each follows from the other.
pub both_ways : (a b : Bool) → (a ≡ true → b ≡ true) → (b ≡ true → a ≡ true) → a ≡ b
both_ways a b f g = grind arith

-- One that can not hold does not.
pub never : (a : Bool) → (a ≡ true → ⊥) → a ≡ false
never a f = grind arith

-- "every field is in its range", topic by topic
pub record InRange (m : Motor) : Type 0 where
  pub place : is_position m.place ≡ true
  pub limits : limits_in_range m.limits ≡ true
  pub speeds : speeds_in_range m.speeds ≡ true
  pub wiring : wiring_in_range m.wiring ≡ true
  pub setup : setup_in_range m.setup ≡ true
  pub ended : end_flags_in_range m.ended ≡ true
  pub read : contacts_right m.wiring ≡ true
  pub drive : drive_in_range m.drive ≡ true

-- Fields in range are in range topic by topic, and the other way round.
pub range_parts : (m : Motor) → in_range m ≡ true → InRange m
unfolding in_range settings_in_range
range_parts m e = search (and_l, and_r) depth 7

pub parts_range : (m : Motor) → InRange m → in_range m ≡ true
unfolding in_range settings_in_range
parts_range m r = cc

-- "a driving record has end flags 0, A = 1, at least one pulse of room (below), no active enabled switch in its direction,
-- and" its aim; contacts that are read, and a speed in force
pub record UnderWay (m : Motor) : Type 0 where
  pub flags : m.ended ≡ 0
  pub ready : m.setup.a ≡ 1
  pub read : m.wiring.read ≡ 1
  pub slowest : 1 ≤ m.drive.speed
  pub fastest : m.drive.speed ≤ 5000000
  pub leeway : 1 ≤ room m.drive.going m
  pub clear : blocked m.drive.going m ≡ false
  pub aim : aim_right m ≡ true

-- A motor that keeps the rules for a driving record keeps each of them, and the other way round.
pub way_parts : (m : Motor) → under_way m ≡ true → UnderWay m
unfolding under_way
way_parts m e = search (and_l, and_r, leb-true, eqb-true, not-true)

pub parts_way : (m : Motor) → UnderWay m → under_way m ≡ true
unfolding under_way
parts_way m w = cc (eq-eqb _ _ w.flags, eq-eqb _ _ w.ready, eq-eqb _ _ w.read, le-leb _ _ w.slowest, le-leb _ _ w.fastest, le-leb _ _ w.leeway)

-- a sound motor in its parts: its fields, and the rules for a stopped or for a driving record
pub record Sound (m : Motor) : Type 0 where
  pub range : InRange m
  pub way : cond (busy m) (under_way m) (at_rest m.drive) ≡ true

-- A sound motor is sound in its parts, and the other way round.
pub sound_parts : (m : Motor) → sound_motor m ≡ true → Sound m
unfolding sound_motor
sound_parts m e = record { range = range_parts m (and_l _ _ e); way = and_r (in_range m) _ e }

pub parts_sound : (m : Motor) → Sound m → sound_motor m ≡ true
unfolding sound_motor
parts_sound m s = cc (parts_range m s.range)

-- A sound motor that drives keeps the rules for a driving record, and one with its fields in range that keeps them is sound.
pub sound_busy : (m : Motor) → sound_motor m ≡ true → busy m ≡ true → UnderWay m
sound_busy m e d = way_parts m (rw d at (sound_parts m e).way)

pub busy_sound : (m : Motor) → InRange m → UnderWay m → busy m ≡ true → sound_motor m ≡ true
busy_sound m r w d = parts_sound m (record { range = r; way = rw d (parts_way m w) })

-- A sound motor that is stopped has no drive, and one with its fields in range that has none is sound.
no_drive_law : (g : ℕ) (h : Bool) (k f v t : ℕ) → g ≡ 0 → h ≡ false → k ≡ 0 → f ≡ 0 → v ≡ 0 → t ≡ origin
    → ◌≡◌ {A = Drive} (record { going = g; held = h; kind = k; fraction = f; speed = v; target = t }) standing
no_drive_law g h k f v t eg eh ek ef ev et = cc

at_rest_law : (d : Drive) → d.going ≡ 0 → at_rest d ≡ true → d ≡ standing
unfolding at_rest
at_rest_law d g r = grind arith

pub sound_standing : (m : Motor) → sound_motor m ≡ true → busy m ≡ false → m.drive ≡ standing
sound_standing m e d = at_rest_law m.drive (eqb-true _ _ (not-false _ d)) (rw d at (sound_parts m e).way)

pub standing_sound : (m : Motor) → InRange m → m.drive ≡ standing → sound_motor m ≡ true
unfolding at_rest
standing_sound m r d = parts_sound m (record { range = r; way = rw d })

-- A position lies between 1 and 4,294,967,295.
pub position_bounds : (p : ℕ) → is_position p ≡ true → (1 ≤ p) × (p ≤ 4294967295)
position_bounds p e = search (and_l, and_r, leb-true)

pub bounds_position : (p : ℕ) → 1 ≤ p → p ≤ 4294967295 → is_position p ≡ true
bounds_position p l h = cc (le-leb 1 p l, le-leb p 4294967295 h)

-- A speed lies between 1 and 5,000,000.
pub speed_bounds : (v : ℕ) → is_speed v ≡ true → (1 ≤ v) × (v ≤ 5000000)
speed_bounds v e = search (and_l, and_r, leb-true)

-- every field of a motor as a number, between the least and the greatest that it may be
pub record Bounds (m : Motor) : Type 0 where
  pub place : (1 ≤ m.place) × (m.place ≤ 4294967295)
  pub cw_limit : (1 ≤ m.limits.cw) × (m.limits.cw ≤ 4294967295)
  pub ccw_limit : (1 ≤ m.limits.ccw) × (m.limits.ccw ≤ 4294967295)
  pub high : (1 ≤ m.speeds.high) × (m.speeds.high ≤ 5000000)
  pub middle : (1 ≤ m.speeds.middle) × (m.speeds.middle ≤ 5000000)
  pub low : (1 ≤ m.speeds.low) × (m.speeds.low ≤ 5000000)
  pub selected : m.speeds.selected ≤ 2
  pub setls : m.wiring.setls ≤ 255
  pub contacts : m.wiring.contacts ≤ 7
  pub read : m.wiring.read ≤ 1
  pub setup : (m.setup.a ≤ 1) × (m.setup.b ≤ 1) × (m.setup.c ≡ 0) × (m.setup.d ≤ 2)
  pub ended : m.ended ≤ 128
  pub going : m.drive.going ≤ 2
  pub kind : m.drive.kind ≤ 1
  pub fraction : m.drive.fraction ≤ 999
  pub target : (1 ≤ m.drive.target) × (m.drive.target ≤ 4294967295)

-- Fields in range lie between their bounds, and so do those of a sound motor.
flags_bound : (e : ℕ) → end_flags_in_range e ≡ true → e ≤ 128
flags_bound e h = grind arith

read_bound : (w : Wiring) → contacts_right w ≡ true → w.read ≤ 1
unfolding contacts_right
read_bound w h = grind arith

pub range_bounds : (m : Motor) → InRange m → Bounds m
unfolding limits_in_range speeds_in_range wiring_in_range setup_in_range drive_in_range
range_bounds m r = search (and_l, and_r, leb-true, eqb-true, flags_bound, read_bound)

pub sound_bounds : (m : Motor) → sound_motor m ≡ true → Bounds m
sound_bounds m e = range_bounds m (sound_parts m e).range

-- The target of a drive in range is a position.
pub target_position : (d : Drive) → drive_in_range d ≡ true → is_position d.target ≡ true
unfolding drive_in_range
target_position d e = and_r (leb d.going 2 && leb d.kind 1 && leb d.fraction 999) _ e

-- A drive with its four fields in range is in range: its speed is judged with the motor's way.
pub bounds_drive :
    (d : Drive) → d.going ≤ 2 → d.kind ≤ 1 → d.fraction ≤ 999 → is_position d.target ≡ true → drive_in_range d ≡ true
unfolding drive_in_range
bounds_drive d g k f t = cc (le-leb _ _ g, le-leb _ _ k, le-leb _ _ f)

-- A motor that drives goes CW or CCW.
pub going_way : (m : Motor) → InRange m → busy m ≡ true → (m.drive.going ≡ cw) ⊎ (m.drive.going ≡ ccw)
going_way m r d = go (eqb m.drive.going cw) refl
  where
    go : (t : Bool) → eqb m.drive.going cw ≡ t → (m.drive.going ≡ cw) ⊎ (m.drive.going ≡ ccw)
    go true e = inl (eqb-true _ _ e)
    go false e =
        inr (omega (arith, eqb-false m.drive.going cw e, eqb-false m.drive.going 0 (not-true _ d), (range_bounds m r).going))
