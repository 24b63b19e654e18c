-- One piece of a run of equal pieces: a record of a table whose sixteen motors were changed, and a count of a pulse buffer.
-- Assumes nothing.
use mathlib.Core.Path.{◌≡◌, refl, ◌∙◌}
use mathlib.Core.List.{List, [], ◌++◌, append-nil, flat_map}
use mathlib.Core.Bool.{Bool, true, false}
use mathlib.Core.Logic.{inl, inr}
use Prim.Native.Nat.{ℕ, zero, suc, ◌+◌, ◌*◌, ◌≤◌, ◌<◌}
use native.Mathlib.Nat.{mul-zero, mul-suc, mul-le-mul_left}
use native.Mathlib.Omega.{arith}
use lib.ListN.{length, take, drop, replicate, length-append, length-take, length-drop, drop_of_length-le}
use lib.Dec.{eqb}
use lib.Seq.{drop-drop, take_at, drop_at, take-append-le, drop-append-le}
use borrow.Author.Tests.{eqb-true, eqb-false}
use Rattle.digits.specs.Bytes.{part, put, pieces, gather}
use Rattle.digits.specs.Words.{word_bytes}
use Rattle.record.specs.declared.Motor.{Motor}
use Rattle.record.specs.Record.{motor_of, record_of, fresh_motor}
use Rattle.record.proofs.RoundTrip.{record_length}
use Rattle.motor.specs.Sound.{sound_motor}
use Rattle.motor.proofs.RecordLaws.{sound_written_read}
use Rattle.pulses.specs.Ticks.{tick_count}
use Rattle.table.specs.Layout.{table_size, head_bytes, head_rest, fresh_head, record_start, record_at, records, motor_at, sealed, with_motors, fresh_table}
use Rattle.table.specs.Computing.{computing_table}
use Rattle.table.proofs.PieceLaws.{flat_more, flat_length, part_before}
use Rattle.table.proofs.SealLaws.{Beside, sealed_after, sealed_beside}
use Rattle.urqolina.specs.Calls.{counts}

-- Pieces of n bytes, laid one after the other: the one numbered c is the c-th that was laid.
pub laid_part : (laid piece : ℕ → List ℕ) (n : ℕ) → laid 0 ≡ [] → ((k : ℕ) → laid (suc k) ≡ laid k ++ piece k) → ((k : ℕ) → length (piece k) ≡ n)
    → (k : ℕ) → (length (laid k) ≡ n * k) × ((c : ℕ) → c < k → part (laid k) (n * c) n ≡ piece c)
unfolding part
laid_part laid piece n none more each zero = (rw (none, mul-zero), λ c l. absurd (omega arith))
laid_part laid piece n none more each (suc k) = go (laid_part laid piece n none more each k)
  where
    go : (length (laid k) ≡ n * k) × ((c : ℕ) → c < k → part (laid k) (n * c) n ≡ piece c)
        → (length (laid (suc k)) ≡ n * suc k) × ((c : ℕ) → c < suc k → part (laid (suc k)) (n * c) n ≡ piece c)
    go earlier = (rw (more k, length-append, earlier.0, each k, mul-suc), λ c l. last c l (eqb c k) refl)
      where
        last : (c : ℕ) → c < suc k → (b : Bool) → eqb c k ≡ b → take n (drop (n * c) (laid (suc k))) ≡ piece c
        last c l true e =
            rw (eqb-true c k e, more k, drop_at (laid k) (piece k) (n * k) earlier.0)
            (rw append-nil at (take_at (piece k) [] n (each k)))
        last c l false e =
            let below : c < k = omega (arith, eqb-false c k e) in
            let within : n * c + n ≤ n * k = rw (← mul-suc n c) (mul-le-mul_left n below) in
            let fits : n ≤ length (drop (n * c) (laid k)) = rw length-drop (omega (arith, earlier.0, within)) in
            rw (more k, drop-append-le (n * c) (laid k) (piece k) (omega (arith, earlier.0, within)), take-append-le n (drop (n * c) (laid k)) (piece k) fits)
            (earlier.1 c below)

-- What f makes of the pieces of w bytes of s, n bytes each.
pub flat_part : (f : List ℕ → List ℕ) (w n : ℕ) (s : List ℕ) → ((r : List ℕ) → length (f r) ≡ n) → (k c : ℕ) → c < k
    → part (flat_map f (pieces w k s)) (n * c) n ≡ f (take w (drop (w * c) s))
flat_part f w n s h k c l =
    (laid_part (λ j. flat_map f (pieces w j s)) (λ j. f (take w (drop (w * j) s))) n (unfold flat_map pieces in refl) (λ j. flat_more f w j s) (λ j. h (take w (drop (w * j) s))) k).1 c l

-- Sixteen motors changed by g.
module _ (t : List ℕ) (g : Motor → Motor) (whole : length t ≡ table_size) where
  -- their records, one after the other, and the table with them
  all : List ℕ
  all = flat_map (λ r. record_of (g (motor_of r))) (records t)

  all_length : length all ≡ 1024
  unfolding all
  all_length = flat_length (λ r. record_of (g (motor_of r))) 64 64 16 (drop 64 t) (λ r. record_length (g (motor_of r)))

  laid : List ℕ
  laid = take 64 t ++ all

  laid_length : length laid ≡ table_size
  unfolding laid
  laid_length = let n = all_length in rw (length-append, length-take) (omega arith)

  laid_head : (i n : ℕ) → i + n ≤ 64 → part laid i n ≡ part t i n
  unfolding laid put
  laid_head i n h = rw (all_length, drop_of_length-le t {i = 1088} (omega arith), append-nil) at (part_before t all 64 i n h (omega arith))

  motors_laid : with_motors t g ≡ sealed laid
  unfolding with_motors laid all
  motors_laid = refl

  -- They leave the head beside the busy set,
  pub motors_beside : (i n : ℕ) → Beside i n → part (with_motors t g) i n ≡ part t i n
  motors_beside i n b = rw (motors_laid) (sealed_beside laid laid_length i n b ∙ laid_head i n (within b))
    where
      within : Beside i n → i + n ≤ 64
      within (inl l) = omega arith
      within (inr l) = l.1

  -- and each record is that of the motor as it is then.
  laid_record : (c : ℕ) → c ≤ 15 → record_at laid c ≡ record_of (g (motor_at t c))
  unfolding part motor_at laid all
  laid_record c h =
      let f : List ℕ → List ℕ = λ r. record_of (g (motor_of r)) in
      let head : length (take 64 t) ≡ 64 = rw length-take (omega arith) in
      rw (← drop-drop (64 * c) 64 (take 64 t ++ flat_map f (pieces 64 16 (drop 64 t))), drop_at (take 64 t) (flat_map f (pieces 64 16 (drop 64 t))) 64 head)
      (flat_part f 64 64 (drop 64 t) (λ r. record_length (g (motor_of r))) 16 c (omega arith) ∙ rw drop-drop)

  pub motors_record : (c : ℕ) → c ≤ 15 → record_at (with_motors t g) c ≡ record_of (g (motor_at t c))
  motors_record c h = rw (motors_laid) (sealed_after laid laid_length (record_start c) 64 (omega arith) ∙ laid_record c h)

-- and its motor, where it is sound
pub motors_motor : (t : List ℕ) (g : Motor → Motor) (c : ℕ) → length t ≡ table_size → c ≤ 15 → sound_motor (g (motor_at t c)) ≡ true
    → motor_at (with_motors t g) c ≡ g (motor_at t c)
unfolding motor_at
motors_motor t g c e h s = rw (motors_record t g e c h) (sound_written_read (g (motor_at t c)) s)

-- The count of channel c in the pulse buffer after a tick.
four_bytes : (n : ℕ) → length (word_bytes 4 n) ≡ 4
unfolding word_bytes
four_bytes n = refl

pub counts_part : (t : List ℕ) (c : ℕ) → c ≤ 15 → part (counts t) (4 * c) 4 ≡ word_bytes 4 (tick_count (motor_at t c))
unfolding part motor_at
counts_part t c h =
    flat_part (λ r. word_bytes 4 (tick_count (motor_of r))) 64 4 (drop 64 t) (λ r. four_bytes (tick_count (motor_of r))) 16 c (omega arith)
    ∙ rw drop-drop

-- Each motor of a fresh table is a fresh motor.
pub fresh_motor_law : (card c : ℕ) → c ≤ 15 → motor_at (fresh_table card) c ≡ fresh_motor
unfolding motor_at fresh_table part
fresh_motor_law card c h =
    let all : List ℕ = gather (λ j. record_of fresh_motor) 16 in
    let one : take 64 (drop (64 * c) all) ≡ record_of fresh_motor =
    (laid_part (gather (λ j. record_of fresh_motor)) (λ j. record_of fresh_motor) 64 (unfold gather in refl) (λ j. unfold gather in refl) (λ j. record_length fresh_motor) 16).1 c (omega arith) in
    rw (← drop-drop (64 * c) 64 (head_bytes (fresh_head card) ++ (replicate head_rest 0 ++ all)), one) (sound_written_read fresh_motor (unfold computing_table in refl))
