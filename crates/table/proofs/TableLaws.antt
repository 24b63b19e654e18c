-- Laws of the table that the crates above go by: its length, the motors of the first channels changed, and sound tables.
-- Assumes nothing.
use mathlib.Core.Path.{◌≡◌, ◌∙◌}
use mathlib.Core.List.{List, ◌++◌, append_assoc, append-nil, flat_map}
use mathlib.Core.Bool.{true}
use Prim.Native.Nat.{ℕ, suc, ◌+◌, ◌*◌, ◌≤◌, ◌<◌}
use native.Mathlib.Numerals.{add-one}
use native.Mathlib.Omega.{arith}
use lib.ListN.{length, take, drop, length-append, length-take, length-drop, take-append-drop, drop_of_length-le}
use lib.Dec.{eqb, leb}
use lib.Seq.{drop-drop, drop_at}
use borrow.Author.Tests.{eqb-true, eq-eqb, leb-true}
use Rattle.digits.specs.Bytes.{AllBytes, part, pieces, every}
use Rattle.digits.specs.Words.{is_set, bits_set}
use Rattle.digits.proofs.CountLaws.{in_all, all_in}
use Rattle.record.specs.declared.Motor.{Motor}
use Rattle.record.specs.Record.{motor_of, record_of, fresh_motor}
use Rattle.record.proofs.RoundTrip.{record_length}
use Rattle.motor.specs.Sound.{busy, sound_motor, sound_record, held_right, sound_under}
use Rattle.motor.proofs.SoundLaws.{and_l, and_r, both_ways}
use Rattle.motor.proofs.RecordLaws.{record_motor_sound, under_record, under_held}
use Rattle.table.specs.Layout.{table_size, head_of, paused, record_start, record_at, records, motor_at, busy_set, sealed, with_record, with_motor, with_motors, fresh_table}
use Rattle.table.specs.Sound.{sound_head, sound_table}
use Rattle.table.proofs.SealLaws.{placed_length, set_at, sealed_length, sealed_after, sealed_again, sealed_over, true_sealed}
use Rattle.table.proofs.PieceLaws.{every_each, each_every, flat_more, flat_length, gather_length, put_next}

-- Sixteen bits are all set in one number alone.
pub all_busy : (n : ℕ) → n < 65536 → eqb n 65535 ≡ leb 16 (bits_set n)
all_busy n h = both_ways (eqb n 65535) (leb 16 (bits_set n)) there back
  where
    there : eqb n 65535 ≡ true → leb 16 (bits_set n) ≡ true
    there e = rw (all_in 16 n (eqb-true n 65535 e))

    back : leb 16 (bits_set n) ≡ true → eqb n 65535 ≡ true
    back e = eq-eqb n 65535 (in_all 16 n h (leb-true 16 (bits_set n) e))

-- A write into the table keeps its length.
pub motor_length : (t : List ℕ) (c : ℕ) (m : Motor) → length t ≡ table_size → c ≤ 15 → length (with_motor t c m) ≡ table_size
unfolding with_motor
motor_length t c m e h = sealed_length (with_record t c (record_of m)) (placed_length t c (record_of m) e h (record_length m))

pub fresh_length : (card : ℕ) → length (fresh_table card) ≡ table_size
unfolding fresh_table
fresh_length card = rw (length-append, length-append, gather_length (λ c. record_of fresh_motor) 64 16 (λ c. record_length fresh_motor))

-- the records of the first k motors changed by f
unfoldable pub changed : (Motor → Motor) → ℕ → List ℕ → List ℕ
changed f k t = flat_map (λ r. record_of (f (motor_of r))) (pieces 64 k (drop 64 t))

-- the table with the records of the first k channels changed by f, and every other byte as it was; and with its busy set kept
unfoldable pub passed : (Motor → Motor) → ℕ → List ℕ → List ℕ
passed f k t = take 64 t ++ (changed f k t ++ drop (record_start k) t)

unfoldable pub up_to : (Motor → Motor) → ℕ → List ℕ → List ℕ
up_to f k t = sealed (passed f k t)

changed_length : (f : Motor → Motor) (k : ℕ) (t : List ℕ) → length (changed f k t) ≡ 64 * k
unfolding changed
changed_length f k t = flat_length (λ r. record_of (f (motor_of r))) 64 64 k (drop 64 t) (λ r. record_length (f (motor_of r)))

-- What is made of each motor, one after the other, with one motor more.
pub flat_motors : (g : Motor → List ℕ) (t : List ℕ) (k : ℕ)
    → flat_map (λ r. g (motor_of r)) (pieces 64 (suc k) (drop 64 t))
    ≡ flat_map (λ r. g (motor_of r)) (pieces 64 k (drop 64 t)) ++ g (motor_at t k)
unfolding motor_at part
flat_motors g t k = flat_more (λ r. g (motor_of r)) 64 k (drop 64 t) ∙ rw drop-drop

changed_next : (f : Motor → Motor) (k : ℕ) (t : List ℕ) → changed f (k + 1) t ≡ changed f k t ++ record_of (f (motor_at t k))
unfolding changed
changed_next f k t = rw add-one (flat_motors (λ m. record_of (f m)) t k)

-- No motor changed.
pub up_to_none : (f : Motor → Motor) (t : List ℕ) → up_to f 0 t ≡ sealed t
unfolding up_to passed changed flat_map pieces
up_to_none f t = rw (take-append-drop 64 t)

module _ (f : Motor → Motor) (k : ℕ) (t : List ℕ) (whole : length t ≡ table_size) where
  -- the head and the records that were changed
  front : length (take 64 t ++ changed f k t) ≡ record_start k
  front = let n = changed_length f k t in rw (length-append, length-take) (omega arith)

  passed_length : k ≤ 16 → length (passed f k t) ≡ table_size
  unfolding passed
  passed_length h = let n = changed_length f k t in simp (length-append, length-take, length-drop) (omega arith)

  pub up_to_length : k ≤ 16 → length (up_to f k t) ≡ table_size
  unfolding up_to
  up_to_length h = sealed_length (passed f k t) (passed_length h)

  pub up_to_sealed : k ≤ 16 → sealed (up_to f k t) ≡ up_to f k t
  unfolding up_to
  up_to_sealed h = sealed_again (passed f k t) (passed_length h)

  rest : drop (record_start k) (passed f k t) ≡ drop (record_start k) t
  unfolding passed
  rest = rw (← append_assoc (take 64 t) (changed f k t) (drop (record_start k) t)) (drop_at (take 64 t ++ changed f k t) (drop (record_start k) t) (record_start k) front)

  -- The record of the next channel is the table's own, and so is its motor.
  pub up_to_record : k ≤ 16 → record_at (up_to f k t) k ≡ record_at t k
  unfolding up_to
  up_to_record h = sealed_after (passed f k t) (passed_length h) (record_start k) 64 (omega arith) ∙ (unfold part in rw rest)

  pub up_to_motor : k ≤ 16 → motor_at (up_to f k t) k ≡ motor_at t k
  unfolding motor_at
  up_to_motor h = rw (up_to_record h)

  -- The next record written is one more changed.
  passed_next : with_record (passed f k t) k (record_of (f (motor_at t k))) ≡ passed f (k + 1) t
  unfolding passed
  passed_next =
      let b = record_of (f (motor_at t k)) in
      let d = drop (record_start k) t in
      let p = take 64 t ++ changed f k t in
      let next : record_start (k + 1) ≡ record_start k + 64 = omega arith in
      rw (← append_assoc (take 64 t) (changed f k t) d, put_next p d b (record_start k) front, record_length (f (motor_at t k)), drop-drop 64 (record_start k) t, next, changed_next f k t)
      (simp append_assoc)

  pub up_to_next : k ≤ 15 → with_motor (up_to f k t) k (f (motor_at (up_to f k t) k)) ≡ up_to f (k + 1) t
  unfolding with_motor up_to
  up_to_next h =
      let b = record_of (f (motor_at t k)) in
      rw (up_to_motor (omega arith), sealed_over (passed f k t) k b (passed_length (omega arith)) h (record_length (f (motor_at t k))), passed_next)

-- All sixteen motors changed.
pub up_to_all : (f : Motor → Motor) (t : List ℕ) → length t ≡ table_size → up_to f 16 t ≡ with_motors t f
unfolding up_to passed changed with_motors
up_to_all f t e = rw (drop_of_length-le t {i = 1088} (omega arith), append-nil)

pub motors_length : (f : Motor → Motor) (t : List ℕ) → length t ≡ table_size → length (with_motors t f) ≡ table_size
motors_length f t e = rw (← up_to_all f t e) (up_to_length f 16 t e (omega arith))

pub motors_sealed : (f : Motor → Motor) (t : List ℕ) → length t ≡ table_size → sealed (with_motors t f) ≡ with_motors t f
motors_sealed f t e = rw (← up_to_all f t e) (up_to_sealed f 16 t e (omega arith))

-- A sound table by its parts: its length, its head, its records, and its busy set.
record SoundParts (t : List ℕ) : Type 0 where
  pub whole : eqb (length t) table_size ≡ true
  pub head : sound_head t ≡ true
  pub all : every (sound_under (paused (head_of t))) (records t) ≡ true
  pub set : eqb (head_of t).busy (busy_set t) ≡ true

table_parts : (t : List ℕ) → sound_table t ≡ true → SoundParts t
unfolding sound_table
table_parts t s = search (and_l, and_r)

-- A sound table has a table's length, and its motors are sound.
pub sound_length : (t : List ℕ) → sound_table t ≡ true → length t ≡ table_size
sound_length t s = eqb-true (length t) table_size (table_parts t s).whole

pub sound_records : (t : List ℕ) → sound_table t ≡ true → every (sound_under (paused (head_of t))) (records t) ≡ true
sound_records t s = (table_parts t s).all

sound_under_at : (t : List ℕ) (c : ℕ) → sound_table t ≡ true → c ≤ 15 → sound_under (paused (head_of t)) (record_at t c) ≡ true
unfolding part
sound_under_at t c s h =
    rw (← drop-drop (64 * c) 64 t) (every_each (sound_under (paused (head_of t))) 64 16 (drop 64 t) c (sound_records t s) (omega arith))

pub sound_record_at : (t : List ℕ) (c : ℕ) → sound_table t ≡ true → c ≤ 15 → sound_record (record_at t c) ≡ true
sound_record_at t c s h = under_record (paused (head_of t)) (record_at t c) (sound_under_at t c s h)

pub motor_sound_in : (t : List ℕ) (c : ℕ) → sound_record (record_at t c) ≡ true → sound_motor (motor_at t c) ≡ true
unfolding motor_at
motor_sound_in t c s = record_motor_sound (record_at t c) s

pub sound_motor_at : (t : List ℕ) (c : ℕ) → sound_table t ≡ true → c ≤ 15 → sound_motor (motor_at t c) ≡ true
sound_motor_at t c s h = motor_sound_in t c (sound_record_at t c s h)

-- What is held in it is held under pause.
pub sound_held_at : (t : List ℕ) (c : ℕ) → sound_table t ≡ true → c ≤ 15 → held_right (paused (head_of t)) (motor_at t c) ≡ true
unfolding motor_at
sound_held_at t c s h = under_held (paused (head_of t)) (record_at t c) (sound_under_at t c s h)

pub sound_head_of : (t : List ℕ) → sound_table t ≡ true → sound_head t ≡ true
sound_head_of t s = (table_parts t s).head

-- Its busy set is true: it is the set of the busy channels, and has a bit just where the channel is busy.
pub sound_set : (t : List ℕ) → sound_table t ≡ true → (head_of t).busy ≡ busy_set t
sound_set t s = eqb-true (head_of t).busy (busy_set t) (table_parts t s).set

pub sound_set_at : (t : List ℕ) (c : ℕ) → sound_table t ≡ true → c ≤ 15 → is_set c (head_of t).busy ≡ busy (motor_at t c)
sound_set_at t c s h = rw (sound_set t s) (set_at t c h)

pub sound_sealed : (t : List ℕ) → sound_table t ≡ true → AllBytes t → sealed t ≡ t
sound_sealed t s bytes = true_sealed t (sound_length t s) bytes (sound_set t s)

-- A table is sound where its length is right, its head is sound, each of its records is, what is held is held under pause, and its busy
-- set is true.
pub sound_from : (t : List ℕ) → length t ≡ table_size → sound_head t ≡ true
    → ((c : ℕ) → c < 16 → sound_record (record_at t c) ≡ true) → ((c : ℕ) → c < 16 → held_right (paused (head_of t)) (motor_at t c) ≡ true)
    → (head_of t).busy ≡ busy_set t → sound_table t ≡ true
unfolding sound_table sound_under motor_at part
sound_from t e h r k w =
    let all : every (sound_under (paused (head_of t))) (records t) ≡ true =
    each_every (sound_under (paused (head_of t))) 64 16 (drop 64 t) (λ c l. rw (drop-drop (64 * c) 64 t, r c l) (k c l)) in
    rw (eq-eqb (length t) table_size e, h, all) (eq-eqb (head_of t).busy (busy_set t) w)
