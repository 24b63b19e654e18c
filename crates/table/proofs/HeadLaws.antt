-- The head by value: what is there after it is written, what a write of it leaves, and what leaves it. Only `same_head`,
-- `head_back` and the parts of its range know its fields, and what keeps a table sound knows pause. Assumes nothing.
use mathlib.Core.Path.{◌≡◌, sym, ap, ◌∙◌}
use mathlib.Core.List.{List, [], ◌∷◌, ◌++◌}
use mathlib.Core.Bool.{true}
use mathlib.Core.Logic.{inl, inr}
use Prim.Native.Nat.{ℕ, ◌≤◌, ◌<◌}
use native.Mathlib.Omega.{arith}
use lib.ListN.{length, get_or}
use lib.Dec.{leb}
use borrow.Author.Tests.{leb-true, le-leb}
use Rattle.digits.specs.Bytes.{AllBytes, part, put, all_zero}
use Rattle.digits.specs.Words.{word, bits_set}
use Rattle.digits.proofs.PartLaws.{part_length, part_add, part_one, part_bytes}
use Rattle.digits.proofs.WordLaws.{byte_word}
use Rattle.digits.proofs.PutLaws.{put_length}
use Rattle.motor.specs.Sound.{held_right}
use Rattle.motor.proofs.SoundLaws.{and_l, and_r}
use Rattle.table.specs.declared.head.Head.{Head}
use Rattle.table.specs.Layout.{table_size, head_of, set_bytes, head_bytes, paused, most_busy, head_used, head_rest, with_head, with_busy, record_start, record_at, motor_at, busy_set}
use Rattle.table.specs.Sound.{head_in_range, sound_head, sound_table}
use Rattle.table.proofs.PieceLaws.{put_back, part_after}
use Rattle.table.proofs.SealLaws.{Beside, same_set, set_word, word_set}
use Rattle.table.proofs.TableLaws.{sound_length, sound_record_at, sound_held_at, sound_head_of, sound_set, sound_from}

-- The range of a head by its parts, for whoever changes one of them: `search` puts the others back.
pub record HeadRange (h : Head) : Type 0 where
  pub mode : leb h.mode 1 ≡ true
  pub reply : leb h.reply 1 ≡ true
  pub errors : leb h.errors 15 ≡ true
  pub pause : leb h.pause 1 ≡ true
  pub card : leb h.card 1 ≡ true
  pub few : leb (bits_set h.busy) (most_busy h.card) ≡ true

pub range_parts : (h : Head) → head_in_range h ≡ true → HeadRange h
unfolding head_in_range
range_parts h r = search (and_l, and_r) depth 7

pub parts_range : (h : Head) → HeadRange h → head_in_range h ≡ true
unfolding head_in_range
parts_range h p = rw (p.mode, p.reply, p.errors, p.pause, p.card) p.few

-- The error flags are four bits.
pub range_errors : (h : Head) → head_in_range h ≡ true → h.errors ≤ 15
range_errors h r = leb-true h.errors 15 (range_parts h r).errors

-- The head of a sound table is in range.
pub sound_range : (t : List ℕ) → sound_table t ≡ true → head_in_range (head_of t) ≡ true
unfolding sound_head
sound_range t s = and_l (head_in_range (head_of t)) (all_zero (part t head_used head_rest)) (sound_head_of t s)

-- No more are busy in it than the card lets.
pub sound_few : (t : List ℕ) → sound_table t ≡ true → bits_set (head_of t).busy ≤ most_busy (head_of t).card
sound_few t s = leb-true (bits_set (head_of t).busy) (most_busy (head_of t).card) (range_parts (head_of t) (sound_range t s)).few

-- Where the bytes beside the busy set are the same, the head is but for that set, and is sound where no more are busy than the card lets.
module _ (t u : List ℕ) (same : (i n : ℕ) → Beside i n → part u i n ≡ part t i n) where
  pub same_head : head_of u ≡ with_busy (head_of t) (head_of u).busy
  unfolding head_of
  same_head = rw (same 0 1 (inl (omega arith)), same 1 1 (inl (omega arith)), same 2 1 (inl (omega arith)), same 3 1 (inl (omega arith)), same 6 1 (inr (omega arith, omega arith)))

  pub same_sound : sound_table t ≡ true → bits_set (head_of u).busy ≤ most_busy (head_of t).card → sound_head u ≡ true
  unfolding sound_head
  same_sound s l =
      let p = range_parts (head_of t) (sound_range t s) in
      let range : head_in_range (with_busy (head_of t) (head_of u).busy) ≡ true =
      parts_range (with_busy (head_of t) (head_of u).busy) (record { mode = p.mode; reply = p.reply; errors = p.errors; pause = p.pause; card = p.card; few = le-leb (bits_set (head_of u).busy) (most_busy (head_of t).card) l }) in
      rw (same_head, range, same head_used head_rest (inr (omega arith, omega arith)))
      (and_r (head_in_range (head_of t)) (all_zero (part t head_used head_rest)) (sound_head_of t s))

-- A head that is written is read back, and leaves every byte after its fields, the records among them.
module _ (t : List ℕ) (h : Head) (whole : length t ≡ table_size) where
  pub head_length : length (with_head t h) ≡ table_size
  unfolding with_head
  head_length = put_length t 0 (head_bytes h) (omega arith) ∙ whole

  pub head_back : head_of (with_head t h) ≡ h
  unfolding head_of with_head part put
  head_back = rw (byte_word h.mode, byte_word h.reply, byte_word h.errors, byte_word h.pause, byte_word h.card, set_word h.busy)

  pub head_after : (i n : ℕ) → head_used ≤ i → part (with_head t h) i n ≡ part t i n
  unfolding with_head
  head_after i n l = part_after t (head_bytes h) 0 i n (omega arith) (omega arith)

  pub head_record : (c : ℕ) → record_at (with_head t h) c ≡ record_at t c
  head_record c = head_after (record_start c) 64 (omega arith)

  pub head_motor : (c : ℕ) → motor_at (with_head t h) c ≡ motor_at t c
  unfolding motor_at
  head_motor c = rw (head_record c)

  pub head_set : busy_set (with_head t h) ≡ busy_set t
  head_set = same_set t (with_head t h) (λ c l. rw (head_motor c))

-- The head that a table holds, written back, leaves the table.
pub head_same : (t : List ℕ) → length t ≡ table_size → AllBytes t → with_head t (head_of t) ≡ t
unfolding with_head head_of
head_same t e bytes = rw (← fields) (put_back t 0 head_used (omega arith))
  where
    one : (at : ℕ) → at < table_size → part t at 1 ≡ word (part t at 1) ∷ []
    one at l = rw (part_one t at (omega arith), byte_word (get_or t at 0))

    set : part t 4 2 ≡ set_bytes (word (part t 4 2))
    set = sym (word_set (part t 4 2) (part_length t 4 2 (omega arith)) (part_bytes t 4 2 bytes))

    fields : part t 0 head_used ≡ head_bytes (head_of t)
    fields =
        part_add t 0 1 6 ∙ ap (λ (s : List ℕ). s ++ part t 1 6) (one 0 (omega arith))
        ∙ rw (part_add t 1 1 5, part_add t 2 1 4, part_add t 3 1 3, part_add t 4 2 1)
        (rest (one 1 (omega arith)) (one 2 (omega arith)) (one 3 (omega arith)) set (one 6 (omega arith)))
      where
        rest : {a b c d e : List ℕ} {v w x y z : List ℕ} → a ≡ v → b ≡ w → c ≡ x → d ≡ y → e ≡ z
            → word (part t 0 1) ∷ (a ++ (b ++ (c ++ (d ++ e)))) ≡ word (part t 0 1) ∷ (v ++ (w ++ (x ++ (y ++ z))))
        rest p q r s u = cc

-- A head in range that is written into a sound table leaves it sound, where what is held is held under its pause, and its busy set is
-- the table's.
pub head_sound : (t : List ℕ) (h : Head) → sound_table t ≡ true → head_in_range h ≡ true
    → ((c : ℕ) → c ≤ 15 → held_right (paused h) (motor_at t c) ≡ true) → h.busy ≡ busy_set t → sound_table (with_head t h) ≡ true
unfolding sound_head
head_sound t h s r k w =
    let e = sound_length t s in
    let zeros = and_r (head_in_range (head_of t)) (all_zero (part t head_used head_rest)) (sound_head_of t s) in
    sound_from (with_head t h) (head_length t h e)
    (rw (head_back t h e, r, head_after t h e head_used head_rest (omega arith)) zeros)
    (λ c l. rw (head_record t h e c) (sound_record_at t c s (omega arith)))
    (λ c l. rw (head_back t h e, head_motor t h e c) (k c (omega arith)))
    (rw (head_back t h e, head_set t h e) w)

-- So it is of a head that leaves pause and the busy set as they were.
pub head_sound_on : (t : List ℕ) (h : Head) → sound_table t ≡ true → head_in_range h ≡ true → h.pause ≡ (head_of t).pause → h.busy ≡ (head_of t).busy
    → sound_table (with_head t h) ≡ true
head_sound_on t h s r e w = head_sound t h s r (λ c l. rw e (sound_held_at t c s l)) (w ∙ sound_set t s)
