-- The busy set in the head, and bytes in the place of a record: what each write leaves, and that the set is kept one channel at a time.
-- Assumes nothing.
use mathlib.Core.Path.{◌≡◌, refl, sym, ap, ◌∙◌}
use mathlib.Core.List.{List}
use mathlib.Core.Bool.{Bool, true, false}
use mathlib.Core.Logic.{◌⊎◌, inl, inr}
use Prim.Native.Nat.{ℕ, ◌+◌, ◌/◌, ◌%◌, ◌≤◌, ◌<◌}
use native.Mathlib.Omega.{arith}
use lib.ListN.{length}
use lib.Dec.{eqb, ltb}
use borrow.Author.Tests.{ltb-true, ltb-false, eqb-true, eqb-false}
use Rattle.digits.specs.Bytes.{AllBytes, part, put}
use Rattle.digits.specs.Words.{word, word_bytes, is_set, how_many, bits_set}
use Rattle.digits.proofs.PartLaws.{part_length, part_bytes}
use Rattle.digits.proofs.PutLaws.{put_length, put_over, put_swap}
use Rattle.digits.proofs.WordLaws.{bytes_word, word_below}
use Rattle.digits.proofs.SetLaws.{bits_below, bits_at, bits_same, marked_bits}
use Rattle.digits.proofs.CountLaws.{bits_many}
use Rattle.record.specs.Record.{motor_of}
use Rattle.motor.specs.Sound.{busy}
use Rattle.table.specs.declared.head.Head.{Head}
use Rattle.table.specs.Layout.{table_size, head_of, set_bytes, with_busy, record_start, record_at, motor_at, busy_set, sealed, with_record}
use Rattle.table.specs.Marking.{marked_at}
use Rattle.table.proofs.PieceLaws.{put_back, part_same, part_before, part_after}

-- Bytes in the place of a record are there, and leave the head and the other records.
module _ (t : List ℕ) (c : ℕ) (b : List ℕ) (whole : length t ≡ table_size) (channel : c ≤ 15) (size : length b ≡ 64) where
  pub placed_length : length (with_record t c b) ≡ table_size
  placed_length = put_length t (record_start c) b (omega arith) ∙ whole

  pub placed_record : record_at (with_record t c b) c ≡ b
  placed_record = part_same t b (record_start c) 64 size (omega arith)

  pub placed_head : (i n : ℕ) → i + n ≤ 64 → part (with_record t c b) i n ≡ part t i n
  placed_head i n h = part_before t b (record_start c) i n (omega arith) (omega arith)

  pub placed_other : (d : ℕ) → (d ≡ c → ⊥) → record_at (with_record t c b) d ≡ record_at t d
  placed_other d ne = go (ltb d c) refl
    where
      go : (f : Bool) → ltb d c ≡ f → record_at (put t (record_start c) b) d ≡ record_at t d
      go true e = let l = ltb-true d c e in part_before t b (record_start c) (record_start d) 64 (omega arith) (omega arith)
      go false e = let l = ltb-false d c e in part_after t b (record_start c) (record_start d) 64 (omega arith) (omega arith)

  pub placed_motor : motor_at (with_record t c b) c ≡ motor_of b
  unfolding motor_at
  placed_motor = rw placed_record

  pub placed_beside : (d : ℕ) → (d ≡ c → ⊥) → motor_at (with_record t c b) d ≡ motor_at t d
  unfolding motor_at
  placed_beside d ne = rw (placed_other d ne)

-- Tables whose channels are busy alike have one busy set, of sixteen bits.
pub set_below : (t : List ℕ) → busy_set t < 65536
unfolding busy_set
set_below t = bits_below (λ c. busy (motor_at t c)) 16

pub set_at : (t : List ℕ) (c : ℕ) → c ≤ 15 → is_set c (busy_set t) ≡ busy (motor_at t c)
unfolding busy_set
set_at t c h = bits_at (λ d. busy (motor_at t d)) 16 c (omega arith)

pub same_set : (t u : List ℕ) → ((c : ℕ) → c ≤ 15 → busy (motor_at u c) ≡ busy (motor_at t c)) → busy_set u ≡ busy_set t
unfolding busy_set
same_set t u same = bits_same (λ c. busy (motor_at t c)) (λ c. busy (motor_at u c)) 16 (λ c h. same c (omega arith))

-- It has as many bits set as there are busy channels.
pub set_many : (t : List ℕ) → bits_set (busy_set t) ≡ how_many (λ c. busy (motor_at t c)) 16
unfolding busy_set
set_many t = bits_many (λ c. busy (motor_at t c)) 16

-- The two bytes of a set are its number.
pub set_word : (n : ℕ) → word (set_bytes n) ≡ n
unfolding word
set_word n = omega arith

pub word_set : (s : List ℕ) → length s ≡ 2 → AllBytes s → set_bytes (word s) ≡ s
unfolding word_bytes
word_set s e bytes =
    let below : word s < 65536 = word_below 2 s e bytes in
    let high : word s / 256 % 256 ≡ word s / 256 = omega arith in
    rw (high) at (bytes_word 2 s e bytes)

-- bytes of the head beside the set: 0 to 3, or 6 to 63
abbrev pub Beside : ℕ → ℕ → Type 0
Beside i n = (i + n ≤ 4) ⊎ ((6 ≤ i) × (i + n ≤ 64))

-- A set that is written into the head leaves every other byte.
module _ (t : List ℕ) (n : ℕ) (whole : length t ≡ table_size) where
  pub set_length : length (put t 4 (set_bytes n)) ≡ table_size
  set_length = put_length t 4 (set_bytes n) (omega arith) ∙ whole

  pub set_before : (i k : ℕ) → i + k ≤ 4 → part (put t 4 (set_bytes n)) i k ≡ part t i k
  set_before i k h = part_before t (set_bytes n) 4 i k h (omega arith)

  pub set_after : (i k : ℕ) → 6 ≤ i → part (put t 4 (set_bytes n)) i k ≡ part t i k
  set_after i k h = part_after t (set_bytes n) 4 i k (omega arith) (omega arith)

  pub set_head : head_of (put t 4 (set_bytes n)) ≡ with_busy (head_of t) n
  unfolding head_of
  set_head =
      rw (set_before 0 1 (omega arith), set_before 1 1 (omega arith), set_before 2 1 (omega arith), set_before 3 1 (omega arith), set_after 6 1 (omega arith), part_same t (set_bytes n) 4 2 refl (omega arith), set_word n)

  pub set_motor : (c : ℕ) → motor_at (put t 4 (set_bytes n)) c ≡ motor_at t c
  unfolding motor_at
  set_motor c = rw (set_after (record_start c) 64 (omega arith))

  pub set_set : busy_set (put t 4 (set_bytes n)) ≡ busy_set t
  set_set = same_set t (put t 4 (set_bytes n)) (λ c h. rw (set_motor c))

-- So does sealing, and it is done once.
module _ (t : List ℕ) (whole : length t ≡ table_size) where
  pub sealed_length : length (sealed t) ≡ table_size
  unfolding sealed
  sealed_length = set_length t (busy_set t) whole

  pub sealed_before : (i k : ℕ) → i + k ≤ 4 → part (sealed t) i k ≡ part t i k
  unfolding sealed
  sealed_before i k h = set_before t (busy_set t) whole i k h

  pub sealed_after : (i k : ℕ) → 6 ≤ i → part (sealed t) i k ≡ part t i k
  unfolding sealed
  sealed_after i k h = set_after t (busy_set t) whole i k h

  pub sealed_beside : (i k : ℕ) → Beside i k → part (sealed t) i k ≡ part t i k
  sealed_beside i k (inl h) = sealed_before i k h
  sealed_beside i k (inr h) = sealed_after i k h.0

  pub sealed_motor : (c : ℕ) → motor_at (sealed t) c ≡ motor_at t c
  unfolding sealed
  sealed_motor c = set_motor t (busy_set t) whole c

  pub sealed_set : busy_set (sealed t) ≡ busy_set t
  unfolding sealed
  sealed_set = set_set t (busy_set t) whole

  pub sealed_head : head_of (sealed t) ≡ with_busy (head_of t) (busy_set t)
  unfolding sealed
  sealed_head = set_head t (busy_set t) whole

  pub sealed_again : sealed (sealed t) ≡ sealed t
  unfolding sealed
  sealed_again = rw (set_set t (busy_set t) whole) (put_over t (set_bytes (busy_set t)) (set_bytes (busy_set t)) 4 refl (omega arith))

  -- A table that is sealed tells its set.
  pub sealed_true : sealed t ≡ t → (head_of t).busy ≡ busy_set t
  sealed_true e = ap (λ (u : List ℕ). (head_of u).busy) (sym e) ∙ ap (λ (h : Head). h.busy) sealed_head

  -- And bytes that tell their set are sealed.
  pub true_sealed : AllBytes t → (head_of t).busy ≡ busy_set t → sealed t ≡ t
  unfolding sealed head_of
  true_sealed bytes e = rw (← e, word_set (part t 4 2) (part_length t 4 2 (omega arith)) (part_bytes t 4 2 bytes)) (put_back t 4 2 (omega arith))

-- A record written into a table that is sealed after it might as well be written into the sealed table.
pub sealed_over : (t : List ℕ) (c : ℕ) (b : List ℕ) → length t ≡ table_size → c ≤ 15 → length b ≡ 64
    → sealed (with_record (sealed t) c b) ≡ sealed (with_record t c b)
unfolding sealed
sealed_over t c b e h n =
    let w = set_bytes (busy_set t) in
    let u = with_record t c b in
    let whole : length u ≡ table_size = placed_length t c b e h n in
    rw (put_swap t w b 4 (record_start c) (omega arith) (omega arith), set_set u (busy_set t) whole) (put_over u w (set_bytes (busy_set u)) 4 refl (omega arith))

-- Into a sealed table.
module _ (t : List ℕ) (c : ℕ) (b : List ℕ) (whole : length t ≡ table_size) (channel : c ≤ 15) (size : length b ≡ 64) (seal : sealed t ≡ t) where
  -- The other channels are busy as before.
  beside : (d : ℕ) → (d ≡ c → ⊥) → busy (motor_at (with_record t c b) d) ≡ busy (motor_at t d)
  beside d ne = rw (placed_beside t c b whole channel size d ne)

  -- A record that is busy as the one before it leaves the table sealed.
  pub kept_sealed : busy (motor_of b) ≡ busy (motor_at t c) → sealed (with_record t c b) ≡ with_record t c b
  unfolding sealed
  kept_sealed same =
      rw (same_set t (with_record t c b) (λ d h. go d (eqb d c) refl), ← put_swap t (set_bytes (busy_set t)) b 4 (record_start c) (omega arith) (omega arith)) (ap (λ (u : List ℕ). with_record u c b) seal)
    where
      go : (d : ℕ) (f : Bool) → eqb d c ≡ f → busy (motor_at (with_record t c b) d) ≡ busy (motor_at t d)
      go d true e = rw (eqb-true d c e, placed_motor t c b whole channel size) same
      go d false e = beside d (eqb-false d c e)

  -- Marked at its channel, the table is sealed.
  busy_before : (head_of (with_record t c b)).busy ≡ busy_set t
  unfolding head_of
  busy_before = rw (placed_head t c b whole channel size 4 2 (omega arith)) (sealed_true t whole seal)

  pub marked_sealed : marked_at (with_record t c b) c ≡ sealed (with_record t c b)
  unfolding sealed busy_set
  marked_sealed =
      rw (busy_before, marked_bits (λ d. busy (motor_at t d)) (λ d. busy (motor_at (with_record t c b) d)) 16 c (omega arith) (λ d h ne. beside d ne))
