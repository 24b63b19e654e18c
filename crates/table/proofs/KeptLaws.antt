-- What a write into the table keeps: the other fields and records, and its soundness. Assumes nothing.
use mathlib.Core.Path.{◌≡◌, refl, sym, ◌∙◌}
use mathlib.Core.List.{List}
use mathlib.Core.Bool.{Bool, true, false, false≢true}
use mathlib.Core.Logic.{◌⊎◌, inl, inr}
use Prim.Native.Nat.{ℕ, zero, suc, ◌+◌, ◌≤◌, ◌<◌}
use native.Mathlib.Numerals.{add-one}
use native.Mathlib.Omega.{arith}
use lib.ListN.{length}
use lib.Dec.{eqb}
use borrow.Author.Tests.{eqb-true, eqb-false, leb-false, not-true}
use Rattle.digits.specs.Bytes.{AllBytes, part}
use Rattle.digits.specs.Words.{how_many, bits_set}
use Rattle.digits.proofs.PartLaws.{part_bytes}
use Rattle.digits.proofs.CountLaws.{many_less, many_one}
use Rattle.record.specs.declared.Motor.{Motor}
use Rattle.record.specs.Record.{record_of}
use Rattle.record.proofs.RoundTrip.{record_length}
use Rattle.motor.specs.Sound.{busy, sound_motor, sound_record, held_right}
use Rattle.motor.proofs.RecordLaws.{record_sound, sound_written_read, sound_read_written}
use Rattle.table.specs.Layout.{table_size, head_of, paused, most_busy, card_full, record_start, record_at, motor_at, busy_set, sealed, with_record, with_motor, with_motors, fresh_table}
use Rattle.table.specs.Sound.{sound_table}
use Rattle.table.specs.Computing.{computing_table}
use Rattle.table.proofs.PieceLaws.{put_back}
use Rattle.table.proofs.SealLaws.{Beside, placed_length, placed_record, placed_head, placed_other, set_many, sealed_length, sealed_after, sealed_beside, sealed_motor, sealed_head, sealed_true, sealed_again, kept_sealed}
use Rattle.table.proofs.TableLaws.{motor_length, up_to, up_to_none, up_to_next, up_to_all, sound_length, sound_record_at, sound_motor_at, sound_held_at, sound_set, sound_sealed, sound_from}
use Rattle.table.proofs.HeadLaws.{same_head, same_sound, sound_few}

-- A record that is written is read back, and leaves the other records and, but for the busy set, the head.
module _ (t : List ℕ) (c : ℕ) (m : Motor) (whole : length t ≡ table_size) (channel : c ≤ 15) where
  placed_whole : length (with_record t c (record_of m)) ≡ table_size
  placed_whole = placed_length t c (record_of m) whole channel (record_length m)

  pub written_record : record_at (with_motor t c m) c ≡ record_of m
  unfolding with_motor
  written_record = sealed_after (with_record t c (record_of m)) placed_whole (record_start c) 64 (omega arith) ∙ placed_record t c (record_of m) whole channel (record_length m)

  pub written_motor : sound_motor m ≡ true → motor_at (with_motor t c m) c ≡ m
  unfolding motor_at
  written_motor s = rw written_record (sound_written_read m s)

  pub motor_beside : (i n : ℕ) → Beside i n → part (with_motor t c m) i n ≡ part t i n
  unfolding with_motor
  motor_beside i n b = sealed_beside (with_record t c (record_of m)) placed_whole i n b ∙ placed_head t c (record_of m) whole channel (record_length m) i n (within b)
    where
      within : Beside i n → i + n ≤ 64
      within (inl h) = omega arith
      within (inr h) = h.1

  pub record_kept : (d : ℕ) → (d ≡ c → ⊥) → record_at (with_motor t c m) d ≡ record_at t d
  unfolding with_motor
  record_kept d ne = sealed_after (with_record t c (record_of m)) placed_whole (record_start d) 64 (omega arith) ∙ placed_other t c (record_of m) whole channel (record_length m) d ne

  pub motor_kept : (d : ℕ) → (d ≡ c → ⊥) → motor_at (with_motor t c m) d ≡ motor_at t d
  unfolding motor_at
  motor_kept d ne = rw (record_kept d ne)

  -- Its busy set is the table's.
  pub written_set : (head_of (with_motor t c m)).busy ≡ busy_set (with_motor t c m)
  unfolding with_motor
  written_set = sealed_true (sealed (with_record t c (record_of m))) (sealed_length _ placed_whole) (sealed_again _ placed_whole)

-- A sound record that is read and written back is the same bytes, and leaves a sealed table as it is.
module _ (t : List ℕ) (c : ℕ) (sound : sound_record (record_at t c) ≡ true) (bytes : AllBytes t) where
  pub read_back : record_of (motor_at t c) ≡ record_at t c
  unfolding motor_at
  read_back = sound_read_written (record_at t c) sound (part_bytes t (record_start c) 64 bytes)

  pub motor_back : length t ≡ table_size → c ≤ 15 → sealed t ≡ t → with_motor t c (motor_at t c) ≡ t
  unfolding with_motor
  motor_back e h seal = rw (read_back, put_back t (record_start c) 64 (omega arith)) seal

-- A sound motor that is busy as the one before it needs no mark in the busy set of a sealed table.
pub motor_unmarked : (t : List ℕ) (c : ℕ) (m : Motor) → length t ≡ table_size → c ≤ 15 → sealed t ≡ t → sound_motor m ≡ true
    → busy m ≡ busy (motor_at t c) → with_record t c (record_of m) ≡ with_motor t c m
unfolding with_motor
motor_unmarked t c m e h seal s same =
    sym (kept_sealed t c (record_of m) e h (record_length m) seal (rw (sound_written_read m s) same))

-- A sound motor written into a sound table, which goes off only where the card is not full, leaves no more busy than the card lets.
module _ (t : List ℕ) (c : ℕ) (m : Motor) (sound : sound_table t ≡ true) (channel : c ≤ 15) (right : sound_motor m ≡ true)
    (goes : busy m ≡ true → busy (motor_at t c) ≡ false → card_full (head_of t) ≡ false) where
  -- how many are busy before, and after
  before : ℕ → Bool
  before d = busy (motor_at t d)

  now : ℕ → Bool
  now d = busy (motor_at (with_motor t c m) d)

  others : (d : ℕ) → (d ≡ c → ⊥) → now d ≡ before d
  unfolding now before
  others d ne = rw (motor_kept t c m (sound_length t sound) channel d ne)

  few_before : how_many before 16 ≤ most_busy (head_of t).card
  unfolding before
  few_before = rw (← set_many t, ← sound_set t sound) (sound_few t sound)

  pub motor_few : bits_set (head_of (with_motor t c m)).busy ≤ most_busy (head_of t).card
  unfolding now before card_full
  motor_few = rw (written_set t c m (sound_length t sound) channel, set_many (with_motor t c m)) (go (before c) (now c) refl refl)
    where
      own : now c ≡ busy m
      own = rw (written_motor t c m (sound_length t sound) channel right)

      among : (before c ≡ true) ⊎ (now c ≡ false) → (d : ℕ) → d < 16 → now d ≡ true → before d ≡ true
      among k d l e = by (eqb d c) refl k
        where
          by : (b : Bool) → eqb d c ≡ b → (before c ≡ true) ⊎ (now c ≡ false) → before d ≡ true
          by true q (inl y) = rw (eqb-true d c q) y
          by true q (inr n) = absurd (false≢true (sym n ∙ (rw (eqb-true d c q) at e)))
          by false q k = sym (others d (eqb-false d c q)) ∙ e

      go : (a b : Bool) → before c ≡ a → now c ≡ b → how_many now 16 ≤ most_busy (head_of t).card
      go true b x y = omega (arith, few_before, many_less before now 16 (among (inl x)))
      go false false x y = omega (arith, few_before, many_less before now 16 (among (inr y)))
      go false true x y =
          let room : bits_set (head_of t).busy < most_busy (head_of t).card = leb-false (most_busy (head_of t).card) (bits_set (head_of t).busy) (goes (sym own ∙ y) x) in
          let few : how_many before 16 < most_busy (head_of t).card = rw (← set_many t, ← sound_set t sound) room in
          omega (arith, few, many_one before now 16 c (omega arith) (λ d l ne. others d ne))

-- A sound motor written into a sound table, held under pause alone, leaves it sound.
pub motor_sound : (t : List ℕ) (c : ℕ) (m : Motor) → sound_table t ≡ true → c ≤ 15 → sound_motor m ≡ true
    → held_right (paused (head_of t)) m ≡ true → (busy m ≡ true → busy (motor_at t c) ≡ false → card_full (head_of t) ≡ false)
    → sound_table (with_motor t c m) ≡ true
motor_sound t c m s h sm k goes =
    let e = sound_length t s in
    sound_from (with_motor t c m) (motor_length t c m e h)
    (same_sound t (with_motor t c m) (motor_beside t c m e h) s (motor_few t c m s h sm goes))
    (λ d l. go d l (eqb d c) refl)
    (λ d l. rw (same_head t (with_motor t c m) (motor_beside t c m e h)) (held d l (eqb d c) refl))
    (written_set t c m e h)
  where
    held : (d : ℕ) → d < 16 → (b : Bool) → eqb d c ≡ b → held_right (paused (head_of t)) (motor_at (with_motor t c m) d) ≡ true
    held d l true q = rw (eqb-true d c q, written_motor t c m (sound_length t s) h sm) k
    held d l false q = rw (motor_kept t c m (sound_length t s) h d (eqb-false d c q)) (sound_held_at t d s (omega arith))

    go : (d : ℕ) → d < 16 → (b : Bool) → eqb d c ≡ b → sound_record (record_at (with_motor t c m) d) ≡ true
    go d l true q = rw (eqb-true d c q, written_record t c m (sound_length t s) h) (record_sound m sm)
    go d l false q = rw (record_kept t c m (sound_length t s) h d (eqb-false d c q)) (sound_record_at t d s (omega arith))

-- A sound table that is sealed once more is sound.
sealed_sound : (t : List ℕ) → sound_table t ≡ true → sound_table (sealed t) ≡ true
sealed_sound t s =
    let e = sound_length t s in
    sound_from (sealed t) (sealed_length t e)
    (same_sound t (sealed t) (sealed_beside t e) s (rw (sealed_head t e, ← sound_set t s) (sound_few t s)))
    (λ c l. rw (sealed_after t e (record_start c) 64 (omega arith)) (sound_record_at t c s (omega arith)))
    (λ c l. rw (same_head t (sealed t) (sealed_beside t e), sealed_motor t e c) (sound_held_at t c s (omega arith)))
    (sealed_true (sealed t) (sealed_length t e) (sealed_again t e))

-- Sixteen motors changed in a way that keeps each of them sound, and holds none of them and sets none off, leave the table sound.
module _ (f : Motor → Motor) (keeps : (m : Motor) → sound_motor m ≡ true → sound_motor (f m) ≡ true) (frees : (m : Motor) → m.drive.held ≡ false → (f m).drive.held ≡ false)
    (rests : (m : Motor) → busy m ≡ false → busy (f m) ≡ false) where
  right : (paused : Bool) (m : Motor) → held_right paused m ≡ true → held_right paused (f m) ≡ true
  right true m e = refl
  right false m e = rw (frees m (not-true _ e))

  up_to_sound : (t : List ℕ) → sound_table t ≡ true → (k : ℕ) → k ≤ 16 → sound_table (up_to f k t) ≡ true
  up_to_sound t s zero h = rw (up_to_none f t) (sealed_sound t s)
  up_to_sound t s (suc k) h =
      let e = sound_length t s in
      let u = up_to f k t in
      let so_far = up_to_sound t s k (omega arith) in
      rw (← add-one k, ← up_to_next f k t e (omega arith))
      (motor_sound u k (f (motor_at u k)) so_far (omega arith) (keeps _ (sound_motor_at u k so_far (omega arith))) (right (paused (head_of u)) (motor_at u k) (sound_held_at u k so_far (omega arith)))
      (λ y n. absurd (false≢true (sym (rests (motor_at u k) n) ∙ y))))

  pub motors_sound : (t : List ℕ) → sound_table t ≡ true → sound_table (with_motors t f) ≡ true
  motors_sound t s = rw (← up_to_all f t (sound_length t s)) (up_to_sound t s 16 (omega arith))

-- Sixteen motors that are written as they were leave a sound table.
pub motors_back : (f : Motor → Motor) (t : List ℕ) → sound_table t ≡ true → AllBytes t → ((c : ℕ) → c ≤ 15 → f (motor_at t c) ≡ motor_at t c)
    → with_motors t f ≡ t
motors_back f t s bytes same = rw (← up_to_all f t (sound_length t s)) (go 16 (omega arith))
  where
    go : (k : ℕ) → k ≤ 16 → up_to f k t ≡ t
    go zero h = up_to_none f t ∙ sound_sealed t s bytes
    go (suc k) h =
        rw (← add-one k, ← up_to_next f k t (sound_length t s) (omega arith), go k (omega arith), same k (omega arith))
        (motor_back t k (sound_record_at t k s (omega arith)) bytes (sound_length t s) (omega arith) (sound_sealed t s bytes))

-- A fresh table is sound, of either card.
pub fresh_sound : (card : ℕ) → card ≤ 1 → sound_table (fresh_table card) ≡ true
unfolding computing_table
fresh_sound zero h = refl
fresh_sound (suc zero) h = refl
fresh_sound (suc (suc n)) h = absurd (omega arith)
