-- The order in which the code judges a record, and soundness. Assumes nothing.
use Rattle.std.proofs.Common.{◌≡◌, ℕ, Bool, true, false, not, ◌&&◌, eqb, List, length, sym, refl, arith, eq-eqb, ne_eqb, eqb-true}
use mathlib.Core.Bool.{and-true, and-false}
use borrow.Author.Tests.{eqb-false}
use Rattle.digits.specs.Bytes.{AllBytes, part, all_zero}
use Rattle.digits.specs.Words.{word}
use Rattle.digits.proofs.WordLaws.{word_zero, zero_part}
use Rattle.record.specs.Record.{byte_at, long_at, wiring_of, going_of, motor_of}
use Rattle.motor.specs.Sound.{contacts_right, settings_in_range, end_flags_in_range, busy, sound_motor, sound_record, held_right, sound_under}
use Rattle.motor.specs.Judged.{driving_judged, standing_judged, sound_listed}
use Rattle.motor.proofs.SoundLaws.{and_l, and_r, both_ways}
use Rattle.motor.proofs.StandingLaws.{still_sound}
use Rattle.motor.proofs.DrivingLaws.{sound_judged, judged_sound}

-- Soundness in the order of the code: the tail, and then the rest by what byte 32 tells.
regroup : (s z t h : Bool) → (s && (z && t) && h) ≡ (t && (s && h && z))
regroup s z t h = grind arith

in_order : (paused : Bool) (b : List ℕ) → length b ≡ 64
    → sound_under paused b ≡ (all_zero (part b 48 16) && (sound_motor (motor_of b) && held_right paused (motor_of b) && all_zero (part b 45 3)))
unfolding sound_under sound_record
in_order paused b n =
    rw (eq-eqb (length b) 64 n, zero_part b 45 3 16, word_zero (part b 45 3))
    (regroup (sound_motor (motor_of b)) (all_zero (part b 45 3)) (all_zero (part b 48 16)) (held_right paused (motor_of b)))

pub tail_judged : (paused listed : Bool) (b : List ℕ) → length b ≡ 64 → all_zero (part b 48 16) ≡ false → sound_listed paused listed b ≡ false
tail_judged paused listed b n e = rw (in_order paused b n, e)

together : (w t s c z : Bool) → (w && t && (s && c) && z) ≡ (w && (t && (c && z) && s))
together w t s c z = grind arith

standing_judged_law : (paused : Bool) (b : List ℕ) → length b ≡ 64 → AllBytes b → all_zero (part b 48 16) ≡ true → byte_at b 32 ≡ 0
    → sound_under paused b ≡ standing_judged b
unfolding motor_of
standing_judged_law paused b n bytes t e =
    rw (in_order paused b n, t, still_sound paused b n bytes e, zero_part b 32 8 4, ← word_zero (part b 40 4))
    (together (eqb (word (part b 32 8)) 0) (eqb (long_at b 40) 0) (settings_in_range (motor_of b) && end_flags_in_range (motor_of b).ended) (contacts_right (wiring_of b)) (all_zero (part b 45 3)))

still_way : (n : ℕ) → going_of n ≡ 0 → n ≡ 0
still_way n = grind arith

busy_byte : (b : List ℕ) → (byte_at b 32 ≡ 0 → ⊥) → busy (motor_of b) ≡ true
unfolding motor_of
busy_byte b f = rw (ne_eqb (going_of (byte_at b 32)) 0 (λ e. f (still_way (byte_at b 32) e)))

driving_judged_law : (paused : Bool) (b : List ℕ) → length b ≡ 64 → all_zero (part b 48 16) ≡ true → (byte_at b 32 ≡ 0 → ⊥)
    → sound_under paused b ≡ driving_judged paused b
driving_judged_law paused b n t f = rw (in_order paused b n, t) (both_ways _ _ there back)
  where
    there : (sound_motor (motor_of b) && held_right paused (motor_of b) && all_zero (part b 45 3)) ≡ true → driving_judged paused b ≡ true
    there e =
        let s = and_l (sound_motor (motor_of b)) _ (and_l _ (all_zero (part b 45 3)) e) in
        let h = and_r (sound_motor (motor_of b)) _ (and_l _ (all_zero (part b 45 3)) e) in
        sound_judged paused b n (busy_byte b f) s h (and_r (sound_motor (motor_of b) && held_right paused (motor_of b)) _ e)

    back : driving_judged paused b ≡ true → (sound_motor (motor_of b) && held_right paused (motor_of b) && all_zero (part b 45 3)) ≡ true
    back e = let s = judged_sound paused b n (busy_byte b f) e in rw (s.0, s.1, s.2)

-- By what the busy set says of a record: one that it has not has no drive, and one that it has has one.
still_byte : (b : List ℕ) → byte_at b 32 ≡ 0 → busy (motor_of b) ≡ false
unfolding motor_of
still_byte b e = rw e

pub unlisted_judged : (paused : Bool) (b : List ℕ) → length b ≡ 64 → AllBytes b → all_zero (part b 48 16) ≡ true
    → sound_listed paused false b ≡ standing_judged b
unlisted_judged paused b n bytes t = go (eqb (byte_at b 32) 0) refl
  where
    go : (f : Bool) → eqb (byte_at b 32) 0 ≡ f → (sound_under paused b && not (busy (motor_of b))) ≡ standing_judged b
    go true e = let z = eqb-true (byte_at b 32) 0 e in rw (still_byte b z, and-true) (standing_judged_law paused b n bytes t z)
    go false e = rw (busy_byte b (eqb-false (byte_at b 32) 0 e), and-false, word_zero (part b 32 8), zero_part b 32 1 7, e)

pub listed_judged : (paused : Bool) (b : List ℕ) → length b ≡ 64 → all_zero (part b 48 16) ≡ true → sound_listed paused true b ≡ driving_judged paused b
listed_judged paused b n t = go (eqb (byte_at b 32) 0) refl
  where
    go : (f : Bool) → eqb (byte_at b 32) 0 ≡ f → (sound_under paused b && busy (motor_of b)) ≡ driving_judged paused b
    go true e = let z = eqb-true (byte_at b 32) 0 e in rw (still_byte b z, and-false, z) (sym (and-false (eqb (long_at b 44) 1)))
    go false e = let f = eqb-false (byte_at b 32) 0 e in rw (busy_byte b f, and-true) (driving_judged_law paused b n t f)
