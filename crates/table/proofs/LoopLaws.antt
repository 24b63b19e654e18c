-- What the loops over the head and over the records have done after k turns. Assumes nothing.
use mathlib.Core.Path.{◌≡◌, refl, sym, ◌∙◌}
use mathlib.Core.List.{List, [], ◌∷◌, ◌++◌}
use mathlib.Core.Bool.{Bool, true, false, ◌&&◌, not, cond, false≢true}
use Prim.Native.Nat.{ℕ, zero, suc, ◌+◌, ◌*◌, ◌<◌}
use native.Mathlib.Nat.{add-zero, add-suc}
use native.Mathlib.Numerals.{add-one}
use native.Mathlib.Omega.{arith}
use lib.ListN.{length, drop, replicate, length-append}
use lib.Dec.{eqb}
use lib.Seq.{drop-drop}
use borrow.Author.Tests.{eqb-true, eqb-false, eq-eqb}
use Rattle.digits.specs.Bytes.{part, put, every, gather, all_zero}
use Rattle.digits.specs.Words.{word, is_set}
use Rattle.digits.proofs.PutLaws.{put_after, put_none, put_whole}
use Rattle.digits.proofs.WordLaws.{zero_part}
use Rattle.digits.proofs.SetLaws.{bits_unique}
use Rattle.record.specs.Record.{record_of, fresh_motor}
use Rattle.record.proofs.RoundTrip.{record_length}
use Rattle.motor.specs.Sound.{busy, sound_under}
use Rattle.motor.specs.Judged.{sound_listed}
use Rattle.motor.proofs.SoundLaws.{and_l, and_r, both_ways}
use Rattle.table.specs.Layout.{table_size, head_bytes, head_used, head_rest, fresh_head, record_at, records, motor_at, busy_set, with_record, fresh_table}
use Rattle.table.proofs.SealLaws.{set_at}
use Rattle.table.proofs.PieceLaws.{every_each, each_every, gather_length}
use Rattle.std.specs.List.{list_all, range_with_len}

none_zero : (t : List ℕ) → all_zero (part t 64 0) ≡ true
unfolding all_zero part
none_zero t = refl

-- The bytes of the head that no field has are zero where one is, and the words of eight bytes after it.
pub rest_zero : (t : List ℕ) → all_zero (part t head_used head_rest) ≡ (eqb (word (part t 7 1)) 0 && list_all (λ k. eqb (word (part t (8 * k) 8)) 0) (range_with_len 1 7))
rest_zero t =
    rw (zero_part t 7 1 56, zero_part t 8 8 48, zero_part t 16 8 40, zero_part t 24 8 32, zero_part t 32 8 24, zero_part t 40 8 16, zero_part t 48 8 8, zero_part t 56 8 0, none_zero t)

-- A channel is in a set where it is busy, or it is not in it and not busy.
listed_busy : (a b : Bool) → cond a b (not b) ≡ true → a ≡ b
listed_busy true b e = sym e
listed_busy false true e = absurd (false≢true e)
listed_busy false false e = refl

busy_listed : (b : Bool) → cond b b (not b) ≡ true
busy_listed true = refl
busy_listed false = refl

-- the first k records are sound, where pause is on or off, and the set w has just those that are busy
unfoldable pub right_to : Bool → ℕ → List ℕ → ℕ → Bool
right_to paused w t zero = true
right_to paused w t (suc k) = right_to paused w t k && sound_listed paused (is_set k w) (record_at t k)

module _ (paused : Bool) (w : ℕ) (t : List ℕ) where
  pub right_none : right_to paused w t 0 ≡ true
  unfolding right_to
  right_none = refl

  pub right_next : (k : ℕ) → right_to paused w t (k + 1) ≡ (right_to paused w t k && sound_listed paused (is_set k w) (record_at t k))
  unfolding right_to
  right_next k = rw (add-one k)

  -- Where one of the first k is not right, no more of them are.
  pub right_fails : (k n : ℕ) → right_to paused w t k ≡ false → right_to paused w t (k + n) ≡ false
  right_fails k zero e = rw (add-zero k) e
  right_fails k (suc n) e = rw (add-suc k n, ← add-one (k + n), right_next (k + n), right_fails k n e)

  -- Each of them, and all of them.
  right_each : (k c : ℕ) → c < k → right_to paused w t k ≡ true → sound_listed paused (is_set c w) (record_at t c) ≡ true
  unfolding right_to
  right_each zero c h e = absurd (omega arith)
  right_each (suc k) c h e = go (eqb c k) refl (λ l. right_each k c l (and_l (right_to paused w t k) _ e))
    where
      go : (f : Bool) → eqb c k ≡ f → (c < k → sound_listed paused (is_set c w) (record_at t c) ≡ true) → sound_listed paused (is_set c w) (record_at t c) ≡ true
      go true q before = rw (eqb-true c k q) (and_r (right_to paused w t k) _ e)
      go false q before = before (omega (arith, eqb-false c k q))

  each_right : (k : ℕ) → ((c : ℕ) → c < k → sound_listed paused (is_set c w) (record_at t c) ≡ true) → right_to paused w t k ≡ true
  unfolding right_to
  each_right zero all = refl
  each_right (suc k) all = rw (each_right k (λ c h. all c (omega arith)), all k (omega arith))

  -- All sixteen are right where all records are sound and the set is that of the busy channels.
  pub right_all : w < 65536 → right_to paused w t 16 ≡ (every (sound_under paused) (records t) && eqb w (busy_set t))
  unfolding part motor_at busy_set
  right_all below = both_ways _ _ there back
    where
      there : right_to paused w t 16 ≡ true → (every (sound_under paused) (records t) && eqb w (busy_set t)) ≡ true
      there e =
          let at : (c : ℕ) → c < 16 → sound_listed paused (is_set c w) (record_at t c) ≡ true = λ c h. right_each 16 c h e in
          let all : every (sound_under paused) (records t) ≡ true =
          each_every (sound_under paused) 64 16 (drop 64 t) (λ c h. rw (drop-drop (64 * c) 64 t) (and_l (sound_under paused (record_at t c)) _ (at c h))) in
          let set : w ≡ busy_set t =
          bits_unique (λ c. busy (motor_at t c)) 16 w below (λ c h. listed_busy (is_set c w) (busy (motor_at t c)) (and_r (sound_under paused (record_at t c)) _ (at c h))) in
          rw all (eq-eqb w (busy_set t) set)

      back : (every (sound_under paused) (records t) && eqb w (busy_set t)) ≡ true → right_to paused w t 16 ≡ true
      back e =
          let all : every (sound_under paused) (records t) ≡ true = and_l (every (sound_under paused) (records t)) _ e in
          let set : w ≡ busy_set t = eqb-true w (busy_set t) (and_r (every (sound_under paused) (records t)) _ e) in
          let under : (c : ℕ) → c < 16 → sound_under paused (record_at t c) ≡ true =
          λ c h. rw (drop-drop (64 * c) 64 t) at (every_each (sound_under paused) 64 16 (drop 64 t) c all h) in
          each_right 16 (λ c h. rw (under c h, set, set_at t c (omega arith)) (busy_listed (busy (motor_at t c))))

-- the first k records made fresh
unfoldable pub fresh_to : List ℕ → ℕ → List ℕ
fresh_to t k = put t 64 (gather (λ c. record_of fresh_motor) k)

pub fresh_none : (t : List ℕ) → fresh_to t 0 ≡ t
unfolding fresh_to gather
fresh_none t = put_none t 64

fresh_size : (k : ℕ) → length (gather (λ c. record_of fresh_motor) k) ≡ 64 * k
fresh_size k = gather_length (λ c. record_of fresh_motor) 64 k (λ c. record_length fresh_motor)

pub fresh_next : (t : List ℕ) (k : ℕ) → length t ≡ table_size → k < 16 → with_record (fresh_to t k) k (record_of fresh_motor) ≡ fresh_to t (k + 1)
unfolding fresh_to gather
fresh_next t k e h =
    let n = fresh_size k in
    rw (add-one k, ← n) (put_after t (gather (λ c. record_of fresh_motor) k) (record_of fresh_motor) 64 (omega arith))

-- The head zeroed with the card in it, and all records fresh, are the fresh table of the card.
card_put : (t : List ℕ) (card : ℕ) → put (put t 0 (replicate 64 0)) 6 (card ∷ []) ≡ put t 0 (head_bytes (fresh_head card) ++ replicate head_rest 0)
unfolding put
card_put t card = refl

pub fresh_all : (t : List ℕ) (card : ℕ) → length t ≡ table_size → fresh_to (put (put t 0 (replicate 64 0)) 6 (card ∷ [])) 16 ≡ fresh_table card
unfolding fresh_to fresh_table
fresh_all t card e =
    let x : List ℕ = head_bytes (fresh_head card) ++ replicate head_rest 0 in
    let y = gather (λ c. record_of fresh_motor) 16 in
    let n = fresh_size 16 in
    rw (card_put t card) (put_after t x y 0 (omega arith) ∙ put_whole t (x ++ y) (rw length-append (omega arith)))
