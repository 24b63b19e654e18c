-- What is judged of a record with a drive, and soundness. Assumes nothing.
use Rattle.std.proofs.Common.{◌≡◌, ℕ, ◌≤◌, Bool, true, cond, not, ◌&&◌, ◌||◌, eqb, leb, List, length, sym, refl, ◌∙◌, arith, eq-eqb, eqb-true, le-leb, leb-true}
use borrow.Author.Tests.{eqb-false, not-true}
use Rattle.digits.specs.Bytes.{part, all_zero}
use Rattle.digits.specs.Words.{word}
use Rattle.digits.specs.Places.{origin, is_position, ahead, cw}
use Rattle.digits.proofs.WordLaws.{word_zero}
use Rattle.record.specs.declared.Drive.{Drive}
use Rattle.record.specs.declared.Motor.{Motor}
use Rattle.record.specs.Record.{byte_at, long_at, going_of, held_of, motor_of}
use Rattle.motor.specs.Switches.{blocked, edge, room}
use Rattle.motor.specs.Sound.{is_speed, limits_in_range, speeds_in_range, wiring_in_range, setup_in_range, contacts_right, end_flags_in_range, aim_right, busy, sound_motor, held_right}
use Rattle.motor.specs.Judged.{aimed, free, way_allowed, driving_judged}
use Rattle.motor.proofs.SoundLaws.{and_l, and_r, InRange, UnderWay, bounds_drive, speed_bounds, range_bounds, sound_parts, sound_busy, busy_sound, target_position}
use Rattle.motor.proofs.StandingLaws.{word_44, first_byte}

-- A direction is CW or it is not: what is judged in it is the same for all that are not.
pub way_same : (g h : ℕ) (m : Motor) → eqb g cw ≡ eqb h cw → free g m ≡ free h m
unfolding room edge blocked
way_same g h m e = rw e

-- Byte 32 is allowed just where it tells a direction, and one that is held under pause alone.
allowed_way : (paused : Bool) (n : ℕ) → way_allowed paused n ≡ true → (going_of n ≤ 2) × ((paused || not (held_of n)) ≡ true)
allowed_way paused n e = grind arith

way_allowed_law : (paused : Bool) (n : ℕ) → going_of n ≤ 2 → (paused || not (held_of n)) ≡ true → (going_of n ≡ 0 → ⊥) → way_allowed paused n ≡ true
way_allowed_law paused n = grind arith

-- The aim of a drive, its kind and its target.
aim_good : (g p : ℕ) (d : Drive) → cond (eqb d.kind 1) (leb 1 (ahead g p d.target)) (eqb d.target origin) ≡ true
    → d.kind ≤ 1 → is_position d.target ≡ true → aimed g p d ≡ true
aim_good g p d e k t = grind arith

good_aim : (g p : ℕ) (d : Drive) → aimed g p d ≡ true
    → (cond (eqb d.kind 1) (leb 1 (ahead g p d.target)) (eqb d.target origin) ≡ true) × (d.kind ≤ 1) × (is_position d.target ≡ true)
good_aim g p d e = grind arith

-- What byte 32 and byte 44 tell of the motor.
byte_44 : (b : List ℕ) → (motor_of b).wiring.read ≡ byte_at b 44
unfolding motor_of
byte_44 b = refl

byte_32 : (paused : Bool) (b : List ℕ) → ((motor_of b).drive.going ≡ going_of (byte_at b 32)) × (held_right paused (motor_of b) ≡ (paused || not (held_of (byte_at b 32))))
unfolding motor_of
byte_32 paused b = (refl, refl)

-- A sound record with a drive is judged so.
pub sound_judged : (paused : Bool) (b : List ℕ) → length b ≡ 64 → busy (motor_of b) ≡ true
    → sound_motor (motor_of b) ≡ true → held_right paused (motor_of b) ≡ true → all_zero (part b 45 3) ≡ true → driving_judged paused b ≡ true
unfolding speeds_in_range aim_right
sound_judged paused b n drives s h z =
    let m = motor_of b in
    let r = (sound_parts m s).range in
    let k = range_bounds m r in
    let w = sound_busy m s drives in
    let zeros : word (part b 45 3) ≡ 0 = eqb-true (word (part b 45 3)) 0 (word_zero (part b 45 3) ∙ z) in
    let one : byte_at b 44 ≡ 1 = sym (byte_44 b) ∙ w.read in
    let first : eqb (long_at b 44) 1 ≡ true = eq-eqb (long_at b 44) 1 (omega (arith, word_44 b n, zeros, one)) in
    let way : way_allowed paused (byte_at b 32) ≡ true = way_allowed_law paused (byte_at b 32) (rw (byte_32 paused b).0 at k.going) (sym (byte_32 paused b).1 ∙ h) (eqb-false (going_of (byte_at b 32)) 0 (not-true _ (rw (byte_32 paused b).0 at drives))) in
    let speeds : (is_speed m.speeds.high && is_speed m.speeds.middle && is_speed m.speeds.low) ≡ true = and_l _ _ r.speeds in
    let selected : leb m.speeds.selected 2 ≡ true = and_r (is_speed m.speeds.high && is_speed m.speeds.middle && is_speed m.speeds.low) _ r.speeds in
    let aim = aim_good m.drive.going m.place m.drive w.aim k.kind (target_position m.drive r.drive) in
    rw (
      first,
      way,
      eq-eqb m.ended 0 w.flags,
      eq-eqb m.setup.a 1 w.ready,
      le-leb 1 m.drive.speed w.slowest,
      le-leb m.drive.speed 5000000 w.fastest,
      le-leb m.drive.fraction 999 k.fraction,
      r.place,
      aim,
      r.limits,
      le-leb 1 (room m.drive.going m) w.leeway,
      w.clear,
      r.wiring,
      r.setup,
      speeds,
      selected,
    )

-- The parts of what is judged of a record with a drive.
record Judged (paused : Bool) (b : List ℕ) (m : Motor) : Type 0 where
  pub first : long_at b 44 ≡ 1
  pub way : way_allowed paused (byte_at b 32) ≡ true
  pub flags : eqb m.ended 0 ≡ true
  pub ready : eqb m.setup.a 1 ≡ true
  pub speed : is_speed m.drive.speed ≡ true
  pub fraction : leb m.drive.fraction 999 ≡ true
  pub place : is_position m.place ≡ true
  pub aim : aimed m.drive.going m.place m.drive ≡ true
  pub limits : limits_in_range m.limits ≡ true
  pub room : leb 1 (room m.drive.going m) ≡ true
  pub clear : not (blocked m.drive.going m) ≡ true
  pub speeds : (is_speed m.speeds.high && is_speed m.speeds.middle && is_speed m.speeds.low) ≡ true
  pub selected : leb m.speeds.selected 2 ≡ true
  pub wiring : wiring_in_range m.wiring ≡ true
  pub setup : setup_in_range m.setup ≡ true

judged_parts : (paused : Bool) (b : List ℕ) → driving_judged paused b ≡ true → Judged paused b (motor_of b)
judged_parts paused b e = search (and_l, and_r, eqb-true) depth 10

-- What is judged so is a sound record with a drive.
read_right : (m : Motor) → m.wiring.read ≡ 1 → contacts_right m.wiring ≡ true
unfolding contacts_right
read_right m e = rw e

flags_right : (e : ℕ) → eqb e 0 ≡ true → end_flags_in_range e ≡ true
flags_right e h = rw h

speeds_right : (m : Motor) → (is_speed m.speeds.high && is_speed m.speeds.middle && is_speed m.speeds.low) ≡ true
    → leb m.speeds.selected 2 ≡ true → speeds_in_range m.speeds ≡ true
unfolding speeds_in_range
speeds_right m e f = rw (e, f)

pub judged_sound : (paused : Bool) (b : List ℕ) → length b ≡ 64 → busy (motor_of b) ≡ true → driving_judged paused b ≡ true
    → (sound_motor (motor_of b) ≡ true) × (held_right paused (motor_of b) ≡ true) × (all_zero (part b 45 3) ≡ true)
unfolding aim_right
judged_sound paused b n drives e =
    let m = motor_of b in
    let j = judged_parts paused b e in
    let first = first_byte (byte_at b 44) (word (part b 45 3)) (sym (word_44 b n) ∙ j.first) in
    let read : m.wiring.read ≡ 1 = byte_44 b ∙ first.0 in
    let way = allowed_way paused (byte_at b 32) j.way in
    let aim = good_aim m.drive.going m.place m.drive j.aim in
    let speed = speed_bounds m.drive.speed j.speed in
    let drive = bounds_drive m.drive (rw (byte_32 paused b).0 way.0) aim.1 (leb-true m.drive.fraction 999 j.fraction) aim.2 in
    let range : InRange m =
    record {
      place = j.place;
      limits = j.limits;
      speeds = speeds_right m j.speeds j.selected;
      wiring = j.wiring;
      setup = j.setup;
      ended = flags_right m.ended j.flags;
      read = read_right m read;
      drive = drive;
    } in
    let rules : UnderWay m =
    record {
      flags = eqb-true m.ended 0 j.flags;
      ready = eqb-true m.setup.a 1 j.ready;
      read = read;
      slowest = speed.0;
      fastest = speed.1;
      leeway = leb-true 1 (room m.drive.going m) j.room;
      clear = not-true (blocked m.drive.going m) j.clear;
      aim = aim.0;
    } in
    (busy_sound m range rules drives, (byte_32 paused b).1 ∙ way.1, sym (word_zero (part b 45 3)) ∙ eq-eqb (word (part b 45 3)) 0 first.1)
