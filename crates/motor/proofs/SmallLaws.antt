-- The fields of one byte, bytes 24 to 31: what their bits tell and what is asked besides. Assumes nothing.
use Rattle.std.proofs.Common.{◌≡◌, ℕ, ◌%◌, ◌<◌, Bool, true, false, not, ◌&&◌, eqb, leb, List, length, refl, arith, eq-eqb, eqb-true, le-leb, leb-true}
use mathlib.Core.Bool.{false≢true}
use lib.Bits.{bit_and}
use Rattle.digits.specs.Bytes.{AllBytes, part}
use Rattle.digits.specs.Words.{word, is_set}
use Rattle.record.specs.declared.Motor.{Motor}
use Rattle.record.specs.Record.{motor_of}
use Rattle.motor.specs.Sound.{wiring_in_range, setup_in_range, end_flags_in_range}
use Rattle.motor.proofs.SoundLaws.{and_l, and_r, and_true}
use Rattle.motor.proofs.BitLaws.{peel, byte_below, three_at_most, seven_at_most, one_at_most, none_at_all, bit_three, upper_three}

-- the bits that no sound record has set are clear
abbrev pub clear : Motor → Bool
clear m =
    leb m.speeds.selected 3
    && (not (is_set 3 m.wiring.setls)
    && (leb m.wiring.contacts 7
    && (leb m.setup.a 1
    && (leb m.setup.b 1 && (eqb m.setup.c 0 && (leb m.setup.d 3 && eqb (m.ended % 32) 0))))))

-- the fields of one byte are in their ranges
abbrev pub small : Motor → Bool
small m = leb m.speeds.selected 2 && wiring_in_range m.wiring && setup_in_range m.setup && end_flags_in_range m.ended

-- They are clear in the number that bytes 24 to 31 stand for.
bits_told : (b : List ℕ) → length b ≡ 64 → AllBytes b → eqb (bit_and (word (part b 24 8)) 0x1ffcfffefef808fc) 0 ≡ clear (motor_of b)
unfolding motor_of
bits_told b n bytes =
    rw (
      peel b bytes 24 7 0xfc 0x1ffcfffefef808 (omega arith) (omega arith),
      peel b bytes 25 6 0x08 0x1ffcfffefef8 (omega arith) (omega arith),
      peel b bytes 26 5 0xf8 0x1ffcfffefe (omega arith) (omega arith),
      peel b bytes 27 4 0xfe 0x1ffcfffe (omega arith) (omega arith),
      peel b bytes 28 3 0xfe 0x1ffcff (omega arith) (omega arith),
      peel b bytes 29 2 0xff 0x1ffc (omega arith) (omega arith),
      peel b bytes 30 1 0xfc 0x1f (omega arith) (omega arith),
      three_at_most (word (part b 24 1)) (byte_below b bytes 24 (omega arith)),
      bit_three (word (part b 25 1)),
      seven_at_most (word (part b 26 1)) (byte_below b bytes 26 (omega arith)),
      one_at_most (word (part b 27 1)) (byte_below b bytes 27 (omega arith)),
      one_at_most (word (part b 28 1)) (byte_below b bytes 28 (omega arith)),
      none_at_all (word (part b 29 1)) (byte_below b bytes 29 (omega arith)),
      three_at_most (word (part b 30 1)) (byte_below b bytes 30 (omega arith)),
      upper_three (word (part b 31 1)),
    )

-- So of the motor that a record holds; its SETLS and its end flags are bytes.
pub bits_held : (b : List ℕ) (m : Motor) → m ≡ motor_of b → length b ≡ 64 → AllBytes b
    → eqb (bit_and (word (part b 24 8)) 0x1ffcfffefef808fc) 0 ≡ clear m
bits_held b m e n bytes = rw (e) (bits_told b n bytes)

pub bytes_held : (b : List ℕ) (m : Motor) → m ≡ motor_of b → length b ≡ 64 → AllBytes b → (m.wiring.setls < 256) × (m.ended < 256)
unfolding motor_of
bytes_held b m e n bytes = rw (e) (byte_below b bytes 25 (omega arith), byte_below b bytes 31 (omega arith))

-- End flags that are clear below the upper three bits.
flags_told : (e : ℕ) → e < 256 → e % 32 ≡ 0 → end_flags_in_range e ≡ (leb e 0x80 && not (eqb e 0x60))
flags_told e h z = grind arith

-- Of end flags in range those bits are clear.
flags_upper : (e : ℕ) → end_flags_in_range e ≡ true → e % 32 ≡ 0
flags_upper e h = grind arith

-- What clear bits tell, field by field.
record Told (m : Motor) : Type 0 where
  pub setls : not (is_set 3 m.wiring.setls) ≡ true
  pub contacts : leb m.wiring.contacts 7 ≡ true
  pub a : leb m.setup.a 1 ≡ true
  pub b : leb m.setup.b 1 ≡ true
  pub c : eqb m.setup.c 0 ≡ true
  pub ended : eqb (m.ended % 32) 0 ≡ true

told_parts : (m : Motor) → clear m ≡ true → Told m
told_parts m h = search (and_l, and_r) depth 9

-- Where the bits are clear, the selected speed, D and the end flags decide.
pub small_told : (m : Motor) → m.wiring.setls < 256 → m.ended < 256 → clear m ≡ true
    → small m ≡ (leb m.speeds.selected 2 && leb m.setup.d 2 && (leb m.ended 0x80 && not (eqb m.ended 0x60)))
unfolding wiring_in_range setup_in_range
small_told m w e h =
    let t = told_parts m h in
    rw (le-leb m.wiring.setls 255 (omega arith), t.setls, t.contacts, t.a, t.b, t.c, flags_told m.ended e (eqb-true (m.ended % 32) 0 t.ended), and_true (leb m.speeds.selected 2))

-- The fields of one byte that are in their ranges, one by one.
record Small (m : Motor) : Type 0 where
  pub selected : leb m.speeds.selected 2 ≡ true
  pub setls : not (is_set 3 m.wiring.setls) ≡ true
  pub contacts : leb m.wiring.contacts 7 ≡ true
  pub a : leb m.setup.a 1 ≡ true
  pub b : leb m.setup.b 1 ≡ true
  pub c : eqb m.setup.c 0 ≡ true
  pub d : leb m.setup.d 2 ≡ true
  pub ended : end_flags_in_range m.ended ≡ true

small_parts : (m : Motor) → small m ≡ true → Small m
unfolding wiring_in_range setup_in_range
small_parts m h = search (and_l, and_r)

-- Of fields in their ranges the bits are clear.
small_clear : (m : Motor) → small m ≡ true → clear m ≡ true
small_clear m h =
    let s = small_parts m h in
    let selected : leb m.speeds.selected 3 ≡ true = le-leb m.speeds.selected 3 (omega (arith, leb-true m.speeds.selected 2 s.selected)) in
    let d : leb m.setup.d 3 ≡ true = le-leb m.setup.d 3 (omega (arith, leb-true m.setup.d 2 s.d)) in
    let ended : eqb (m.ended % 32) 0 ≡ true = eq-eqb (m.ended % 32) 0 (flags_upper m.ended s.ended) in
    rw (selected, s.setls, s.contacts, s.a, s.b, s.c, d, ended)

-- Where one of the bits is set, a field is out of its range.
pub small_set : (m : Motor) → clear m ≡ false → small m ≡ false
small_set m h = go (small m) refl
  where
    go : (t : Bool) → small m ≡ t → t ≡ false
    go true e = absurd (false≢true (rw (h) at (small_clear m e)))
    go false e = refl
