-- What is judged of a record without a drive, with zeros where one would stand, and soundness. Assumes nothing.
use Rattle.std.proofs.Common.{◌≡◌, ℕ, ◌+◌, ◌*◌, ◌%◌, ◌<◌, Bool, true, false, cond, ◌&&◌, eqb, ◌⊎◌, List, length, sym, refl, ◌∙◌, arith, eq-eqb, eqb-true}
use Rattle.digits.specs.Bytes.{AllBytes, part, all_zero}
use Rattle.digits.specs.Words.{word}
use Rattle.digits.specs.Places.{origin, place_of}
use Rattle.digits.proofs.PartLaws.{part_length, part_bytes}
use Rattle.digits.proofs.WordLaws.{word_part, word_below, word_zero, zero_part}
use Rattle.record.specs.declared.Motor.{Motor}
use Rattle.record.specs.Record.{byte_at, long_at, drive_of, motor_of, standing}
use Rattle.motor.specs.Sound.{contacts_right, settings_in_range, end_flags_in_range, drive_in_range, in_range, at_rest, busy, sound_motor, held_right}
use Rattle.motor.specs.Judged.{told}
use Rattle.motor.proofs.SoundLaws.{and_l, and_r, and_true, and_false, or_true, both_ways}

-- Of a part that is all zero the first word is 0, and what comes after it is all zero.
zeros_split : (b : List ℕ) (at m n : ℕ) → all_zero (part b at (m + n)) ≡ true
    → (word (part b at m) ≡ 0) × (all_zero (part b (at + m) n) ≡ true)
zeros_split b at m n h =
    let first = eqb (word (part b at m)) 0 in
    let after = all_zero (part b (at + m) n) in
    let both : (first && after) ≡ true = rw (zero_part b at m n) at h in
    (eqb-true (word (part b at m)) 0 (and_l first after both), and_r first after both)

-- Bytes 32 to 43 are zero: there is no drive.
zeros_still : (b : List ℕ) → all_zero (part b 32 12) ≡ true → drive_of b ≡ standing
unfolding place_of
zeros_still b h =
    let going = zeros_split b 32 1 11 h in
    let kind = zeros_split b 33 1 10 going.1 in
    let fraction = zeros_split b 34 2 8 kind.1 in
    let speed = zeros_split b 36 4 4 fraction.1 in
    let target = zeros_split b 40 4 0 speed.1 in
    rw (going.0, kind.0, fraction.0, speed.0, target.0)

-- Of a motor with no drive only the position, the settings, the end flags and the contacts are judged.
standing_sound : (m : Motor) → m.drive ≡ standing → sound_motor m ≡ (settings_in_range m && end_flags_in_range m.ended && contacts_right m.wiring)
unfolding sound_motor in_range drive_in_range at_rest
standing_sound m e = rw (e) (rw (and_true, and_true))

standing_right : (paused : Bool) (m : Motor) → m.drive ≡ standing → held_right paused m ≡ true
standing_right paused m e = rw (e) (or_true paused)

-- So it is of a record with zeros where a drive would stand, whether pause is on or not.
zeros_sound : (paused : Bool) (b : List ℕ) → all_zero (part b 32 12) ≡ true
    → (sound_motor (motor_of b) && held_right paused (motor_of b))
    ≡ (settings_in_range (motor_of b) && end_flags_in_range (motor_of b).ended && contacts_right (motor_of b).wiring)
unfolding motor_of
zeros_sound paused b h =
    let none = zeros_still b h in
    rw (standing_sound (motor_of b) none, standing_right paused (motor_of b) none) (and_true _)

-- The word of bytes 44 to 47 in its parts, and that of bytes 40 to 47.
pub word_44 : (b : List ℕ) → length b ≡ 64 → long_at b 44 ≡ byte_at b 44 + 256 * word (part b 45 3)
word_44 b n = word_part b 44 1 3 (omega arith)

word_40 : (b : List ℕ) → length b ≡ 64 → word (part b 40 8) ≡ long_at b 40 + 4294967296 * (byte_at b 44 + 256 * word (part b 45 3))
word_40 b n = rw (← word_44 b n) (word_part b 40 4 4 (omega arith))

-- A word of four bytes that is 1 has 1 in the first of them, and zeros.
pub first_byte : (r z : ℕ) → r + 256 * z ≡ 1 → (r ≡ 1) × (z ≡ 0)
first_byte r z e = grind arith

-- What bytes 40 to 47 tell where the rules for them hold: no target, and contacts that are read, or unknown and 0.
told_parts : (t r c z : ℕ) → (eqb t 0 && (cond (eqb r 0) (eqb c 0) (eqb r 1) && eqb z 0)) ≡ true
    → (t ≡ 0) × (z ≡ 0) × ((r ≡ 1) ⊎ ((r ≡ 0) × (c ≡ 0)))
told_parts t r c z e = grind arith

closed_told : (t r c z : ℕ) → (t + 4294967296 * (r + 256 * z) ≡ 4294967296 → ⊥) → (c ≡ 0 → ⊥)
    → (eqb t 0 && (cond (eqb r 0) (eqb c 0) (eqb r 1) && eqb z 0)) ≡ false
closed_told t r c z f h = grind arith

read_told : (t r c z : ℕ) → t < 4294967296 → t + 4294967296 * (r + 256 * z) ≡ 4294967296
    → (eqb t 0 && (cond (eqb r 0) (eqb c 0) (eqb r 1) && eqb z 0)) ≡ true
read_told t r c z h e = grind arith

unknown_told : (t r c z : ℕ) → (t + 4294967296 * (r + 256 * z) ≡ 4294967296 → ⊥) → c ≡ 0
    → eqb (t + 4294967296 * (r + 256 * z)) 0 ≡ (eqb t 0 && (cond (eqb r 0) (eqb c 0) (eqb r 1) && eqb z 0))
unknown_told t r c z f h = grind arith

-- So of a record.
long_below : (b : List ℕ) → length b ≡ 64 → AllBytes b → long_at b 40 < 4294967296
long_below b n bytes = word_below 4 (part b 40 4) (part_length b 40 4 (omega arith)) (part_bytes b 40 4 bytes)

pub told_closed : (b : List ℕ) → length b ≡ 64 → (word (part b 40 8) ≡ 4294967296 → ⊥) → (byte_at b 26 ≡ 0 → ⊥) → told b ≡ false
unfolding contacts_right
told_closed b n f g =
    rw (← word_zero (part b 45 3))
    (closed_told (long_at b 40) (byte_at b 44) (byte_at b 26) (word (part b 45 3)) (λ w. f (word_40 b n ∙ w)) g)

pub told_read : (b : List ℕ) → length b ≡ 64 → AllBytes b → word (part b 40 8) ≡ 4294967296 → told b ≡ true
unfolding contacts_right
told_read b n bytes e =
    rw (← word_zero (part b 45 3))
    (read_told (long_at b 40) (byte_at b 44) (byte_at b 26) (word (part b 45 3)) (long_below b n bytes) (sym (word_40 b n) ∙ e))

pub told_unknown : (b : List ℕ) → length b ≡ 64 → (word (part b 40 8) ≡ 4294967296 → ⊥) → byte_at b 26 ≡ 0
    → eqb (word (part b 40 8)) 0 ≡ told b
unfolding contacts_right
told_unknown b n f e =
    rw (← word_zero (part b 45 3), word_40 b n)
    (unknown_told (long_at b 40) (byte_at b 44) (byte_at b 26) (word (part b 45 3)) (λ w. f (word_40 b n ∙ w)) e)

-- Of a record with 0 in byte 32 the drive is at rest just where the bytes of one are zero.
still_target : (w : ℕ) → w < 4294967296 → eqb (place_of w) origin ≡ eqb w 0
unfolding place_of
still_target w h = both_ways _ _ (λ e. eq-eqb w 0 (omega (arith, eqb-true ((w + 2147483648) % 4294967296) origin e))) (λ e. rw (eqb-true w 0 e))

in_turn : (k f s t : Bool) → (k && f && s && t) ≡ (k && (f && (s && t)))
in_turn k f s t = grind arith

still_zeros : (b : List ℕ) → length b ≡ 64 → AllBytes b → byte_at b 32 ≡ 0 → at_rest (drive_of b) ≡ all_zero (part b 32 12)
unfolding at_rest
still_zeros b n bytes e =
    rw (
      zero_part b 32 1 11,
      zero_part b 33 1 10,
      zero_part b 34 2 8,
      zero_part b 36 4 4,
      ← word_zero (part b 40 4),
      e,
      still_target (long_at b 40) (long_below b n bytes),
    )
    (in_turn (eqb (byte_at b 33) 0) (eqb (word (part b 34 2)) 0) (eqb (long_at b 36) 0) (eqb (long_at b 40) 0))

-- A motor whose drive tells no direction and is not at rest is not sound.
restless : (m : Motor) → busy m ≡ false → at_rest m.drive ≡ false → sound_motor m ≡ false
unfolding sound_motor
restless m e f = rw (e, f) (and_false (in_range m))

idle_byte : (b : List ℕ) → byte_at b 32 ≡ 0 → busy (motor_of b) ≡ false
unfolding motor_of
idle_byte b e = rw e

still_motor : (b : List ℕ) → length b ≡ 64 → AllBytes b → byte_at b 32 ≡ 0 → at_rest (motor_of b).drive ≡ all_zero (part b 32 12)
unfolding motor_of
still_motor b n bytes e = still_zeros b n bytes e

pub still_sound : (paused : Bool) (b : List ℕ) → length b ≡ 64 → AllBytes b → byte_at b 32 ≡ 0
    → (sound_motor (motor_of b) && held_right paused (motor_of b))
    ≡ (all_zero (part b 32 12) && (settings_in_range (motor_of b) && end_flags_in_range (motor_of b).ended && contacts_right (motor_of b).wiring))
still_sound paused b n bytes e = go (all_zero (part b 32 12)) refl
  where
    go : (t : Bool) → all_zero (part b 32 12) ≡ t
        → (sound_motor (motor_of b) && held_right paused (motor_of b)) ≡ (t && (settings_in_range (motor_of b) && end_flags_in_range (motor_of b).ended && contacts_right (motor_of b).wiring))
    go true z = zeros_sound paused b z
    go false z = rw (restless (motor_of b) (idle_byte b e) (still_motor b n bytes e ∙ z))
