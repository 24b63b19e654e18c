-- A motor that is written and read back is the same motor, and bytes that are read and written back are the same bytes.
-- Assumes nothing.
use mathlib.Core.Path.{◌≡◌, refl, sym, ap, ◌∙◌}
use mathlib.Core.List.{List, [], ◌∷◌, ◌++◌}
use mathlib.Core.Bool.{Bool, true, false}
use Prim.Native.Nat.{ℕ, ◌+◌, ◌≤◌, ◌<◌}
use native.Mathlib.Omega.{arith}
use lib.ListN.{length, get_or, replicate}
use lib.Dec.{eqb}
use borrow.Author.Tests.{eqb-true}
use Rattle.digits.specs.Bytes.{AllBytes, part, joined, all_zero}
use Rattle.digits.specs.Words.{word, word_bytes}
use Rattle.digits.specs.Places.{word_of}
use Rattle.digits.proofs.PartLaws.{append_bytes, cons_bytes, none_bytes, zeros_bytes, part_length, part_add, part_bytes, part_one, zero_bytes, part_whole, cut_joined}
use Rattle.digits.proofs.WordLaws.{byte_word, word_bytes_law, bytes_word, word_below, word_bytes_bytes}
use Rattle.digits.proofs.Signed.{place_bytes_law, word_place}
use Rattle.record.specs.declared.Limits.{Limits}
use Rattle.record.specs.declared.Speeds.{Speeds}
use Rattle.record.specs.declared.Drive.{Drive}
use Rattle.record.specs.declared.Motor.{Motor}
use Rattle.record.specs.Record.{byte_at, long_at, place_at, limits_of, speeds_of, wiring_of, setup_of, drive_of, motor_of, place_bytes, limit_bytes, speed_bytes, wiring_bytes, setup_bytes, setting_bytes, going_of, held_of, going_byte, drive_bytes, rest_bytes, rest_zero, record_of, standing}

-- every number of a motor fits the bytes that it is written in, as the types of the code have it
pub record FitsRecord (m : Motor) : Type 0 where
  pub place : m.place < 4294967296
  pub cw : m.limits.cw < 4294967296
  pub ccw : m.limits.ccw < 4294967296
  pub high : m.speeds.high < 4294967296
  pub middle : m.speeds.middle < 4294967296
  pub low : m.speeds.low < 4294967296
  pub fraction : m.drive.fraction < 65536
  pub speed : m.drive.speed < 4294967296
  pub target : m.drive.target < 4294967296

-- what byte 32 tells of a drive is its direction and whether it is held, as it is of a drive that has a direction where it is held
pub record FitsWay (d : Drive) : Type 0 where
  pub going : going_of (going_byte d) ≡ d.going
  pub held : held_of (going_byte d) ≡ d.held

pub way_fits : (d : Drive) → d.going ≤ 2 → (d.going ≡ 0 → d.held ≡ false) → FitsWay d
way_fits d below still = grind arith

-- Written and read back is the same motor.
pub written_read : (m : Motor) → FitsRecord m → FitsWay m.drive → motor_of (record_of m) ≡ m
unfolding motor_of record_of setting_bytes joined part word_bytes
written_read m f w =
    rw (place_bytes_law m.place f.place, place_bytes_law m.limits.cw f.cw, place_bytes_law m.limits.ccw f.ccw, place_bytes_law m.drive.target f.target)
    (rw (word_bytes_law 4 m.speeds.high f.high, word_bytes_law 4 m.speeds.middle f.middle, word_bytes_law 4 m.speeds.low f.low, word_bytes_law 4 m.drive.speed f.speed, word_bytes_law 2 m.drive.fraction f.fraction)
    (simp (byte_word, w.going, w.held)))

-- A record has 64 bytes.
pub record_length : (m : Motor) → length (record_of m) ≡ 64
unfolding record_of setting_bytes joined word_bytes
record_length m = refl

-- Bytes 32 to 43 are the drive's, and where there is none they are zero.
pub drive_part : (m : Motor) → part (record_of m) 32 12 ≡ drive_bytes m.drive
unfolding record_of setting_bytes joined part word_bytes
drive_part m = refl

pub standing_zero : (m : Motor) → m.drive ≡ standing → part (record_of m) 32 12 ≡ replicate 12 0
unfolding joined word_bytes word_of
standing_zero m e = rw (drive_part m, e)

-- The bytes that no topic has are zero.
pub rest_clear : (m : Motor) → rest_zero (record_of m) ≡ true
unfolding record_of setting_bytes joined part word_bytes all_zero
rest_clear m = refl

-- The bytes of a record are bytes, where the one-byte fields of its motor are.
pub record FitsBytes (m : Motor) : Type 0 where
  pub selected : m.speeds.selected < 256
  pub setls : m.wiring.setls < 256
  pub contacts : m.wiring.contacts < 256
  pub read : m.wiring.read < 256
  pub a : m.setup.a < 256
  pub b : m.setup.b < 256
  pub c : m.setup.c < 256
  pub d : m.setup.d < 256
  pub ended : m.ended < 256
  pub going : going_byte m.drive < 256
  pub kind : m.drive.kind < 256

-- Byte 32 is a byte where the direction is.
pub way_below : (d : Drive) → d.going < 256 → going_byte d < 256
way_below d h = grind arith

limit_bytes_law : (l : Limits) → AllBytes (limit_bytes l)
unfolding joined
limit_bytes_law l = search (word_bytes_bytes, none_bytes, append_bytes) depth 8

speed_bytes_law : (v : Speeds) → v.selected < 256 → AllBytes (speed_bytes v)
unfolding joined
speed_bytes_law v h = search (word_bytes_bytes, none_bytes, cons_bytes, append_bytes) depth 8

drive_bytes_law : (d : Drive) → going_byte d < 256 → d.kind < 256 → AllBytes (drive_bytes d)
unfolding joined
drive_bytes_law d g k = search (word_bytes_bytes, none_bytes, cons_bytes, append_bytes) depth 8

setting_bytes_law : (m : Motor) → FitsBytes m → AllBytes (setting_bytes m)
unfolding setting_bytes joined
setting_bytes_law m f =
    append_bytes (place_bytes m.place) _ (word_bytes_bytes 4 (word_of m.place))
    (append_bytes (limit_bytes m.limits) _ (limit_bytes_law m.limits)
    (append_bytes (speed_bytes m.speeds) _ (speed_bytes_law m.speeds f.selected) (search (none_bytes, cons_bytes) depth 8)))

rest_bytes_law : (m : Motor) → m.wiring.read < 256 → AllBytes (rest_bytes m)
unfolding joined
rest_bytes_law m h = search (zeros_bytes, none_bytes, cons_bytes, append_bytes) depth 8

pub record_bytes : (m : Motor) → FitsBytes m → AllBytes (record_of m)
unfolding record_of joined
record_bytes m f = search (setting_bytes_law, drive_bytes_law, rest_bytes_law, none_bytes, cons_bytes, append_bytes) depth 12

-- Bytes of a record, each below 256, as the bytes of a buffer are.
module _ (b : List ℕ) (whole : length b ≡ 64) (bytes : AllBytes b) where
  -- A field's bytes are those that its number is written in.
  word_back : (at n : ℕ) → at + n ≤ 64 → word_bytes n (word (part b at n)) ≡ part b at n
  word_back at n h = bytes_word n (part b at n) (part_length b at n (omega arith)) (part_bytes b at n bytes)

  place_back : (at : ℕ) → at + 4 ≤ 64 → place_bytes (place_at b at) ≡ part b at 4
  place_back at h =
      rw (word_place (long_at b at) (word_below 4 (part b at 4) (part_length b at 4 (omega arith)) (part_bytes b at 4 bytes))) (word_back at 4 h)

  byte_back : (at : ℕ) → at < 64 → byte_at b at ∷ [] ≡ part b at 1
  byte_back at h = rw (part_one b at (omega arith), byte_word (get_or b at 0))

  cons_back : (at n : ℕ) → at < 64 → byte_at b at ∷ part b (at + 1) n ≡ part b at (1 + n)
  cons_back at n h = ap (λ (l : List ℕ). l ++ part b (at + 1) n) (byte_back at h) ∙ sym (part_add b at 1 n)

  limits_back : limit_bytes (limits_of b) ≡ part b 4 8
  limits_back = rw (place_back 4 (omega arith), place_back 8 (omega arith)) (cut_joined (4 ∷ 4 ∷ []) b 4)

  speeds_back : speed_bytes (speeds_of b) ≡ part b 12 13
  speeds_back =
      rw (word_back 12 4 (omega arith), word_back 16 4 (omega arith), word_back 20 4 (omega arith), byte_back 24 (omega arith))
      (cut_joined (4 ∷ 4 ∷ 4 ∷ 1 ∷ []) b 12)

  wiring_back : wiring_bytes (wiring_of b) ≡ part b 25 2
  wiring_back = rw (byte_back 26 (omega arith)) (cons_back 25 1 (omega arith))

  setup_back : setup_bytes (setup_of b) ≡ part b 27 4
  setup_back = rw (byte_back 30 (omega arith), cons_back 29 1 (omega arith), cons_back 28 2 (omega arith)) (cons_back 27 3 (omega arith))

  settings_back : setting_bytes (motor_of b) ≡ part b 0 31
  unfolding setting_bytes motor_of
  settings_back = rw (place_back 0 (omega arith), limits_back, speeds_back, wiring_back, setup_back) (cut_joined (4 ∷ 8 ∷ 13 ∷ 2 ∷ 4 ∷ []) b 0)

  -- Byte 32 is the byte that its direction and its hold make.
  way_back : going_byte (drive_of b) ≡ byte_at b 32
  way_back = go (eqb (byte_at b 32) 3) refl
    where
      go : (t : Bool) → eqb (byte_at b 32) 3 ≡ t → going_byte (drive_of b) ≡ byte_at b 32
      go true e = rw (eqb-true (byte_at b 32) 3 e)
      go false e = four (eqb (byte_at b 32) 4) refl
        where
          four : (t : Bool) → eqb (byte_at b 32) 4 ≡ t → going_byte (drive_of b) ≡ byte_at b 32
          four true f = rw (eqb-true (byte_at b 32) 4 f)
          four false f = rw (e, f)

  drive_back : drive_bytes (drive_of b) ≡ part b 32 12
  unfolding joined
  drive_back =
      rw (way_back, word_back 34 2 (omega arith), word_back 36 4 (omega arith), place_back 40 (omega arith), cut_joined (2 ∷ 4 ∷ 4 ∷ []) b 34, cons_back 33 10 (omega arith))
      (cons_back 32 11 (omega arith))

  rest_back : rest_zero b ≡ true → rest_bytes (motor_of b) ≡ part b 44 20
  unfolding joined motor_of
  rest_back z =
      let zeros : replicate 19 0 ≡ part b 45 19 = rw (zero_bytes (part b 45 19) z, part_length b 45 19 (omega arith)) in
      rw (zeros) (cons_back 44 19 (omega arith))

  -- Read and written back is the same bytes, where those that no topic has are zero.
  pub read_written : rest_zero b ≡ true → record_of (motor_of b) ≡ b
  unfolding record_of motor_of
  read_written z =
      rw (settings_back, byte_back 31 (omega arith), drive_back, rest_back z) (cut_joined (31 ∷ 1 ∷ 12 ∷ 20 ∷ []) b 0 ∙ rw (← whole) (part_whole b))
