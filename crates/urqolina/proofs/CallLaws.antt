-- What the calls go by: counts gathered channel by channel, and the sizes that a call tests. Assumes nothing.
use mathlib.Core.Path.{◌≡◌, refl, sym, ◌∙◌}
use mathlib.Core.List.{List, flat_map}
use mathlib.Core.Bool.{true, ◌&&◌}
use Prim.Native.Nat.{ℕ, ◌+◌, ◌*◌, ◌≤◌}
use native.Mathlib.Nat.{zero-add}
use native.Mathlib.Numerals.{add-one}
use native.Mathlib.Omega.{arith}
use lib.ListN.{length, drop}
use lib.Dec.{eqb, leb}
use borrow.Author.Tests.{leb-true, eqb-true}
use Rattle.digits.specs.Bytes.{put, pieces}
use Rattle.digits.specs.Words.{word_bytes}
use Rattle.digits.proofs.PutLaws.{put_none, put_after, put_whole}
use Rattle.record.specs.Record.{motor_of}
use Rattle.motor.proofs.SoundLaws.{and_l, and_r}
use Rattle.pulses.specs.Ticks.{tick_count}
use Rattle.table.specs.Layout.{table_size, motor_at}
use Rattle.table.proofs.TableLaws.{flat_motors}
use Rattle.table.proofs.PieceLaws.{flat_length}
use Rattle.urqolina.specs.Calls.{counts}

-- the counts of the first k channels
abbrev pub counts_to : ℕ → List ℕ → List ℕ
counts_to k t = flat_map (λ r. word_bytes 4 (tick_count (motor_of r))) (pieces 64 k (drop 64 t))

four_bytes : (n : ℕ) → length (word_bytes 4 n) ≡ 4
unfolding word_bytes
four_bytes n = refl

pub counts_length : (k : ℕ) (t : List ℕ) → length (counts_to k t) ≡ 4 * k
counts_length k t = flat_length (λ r. word_bytes 4 (tick_count (motor_of r))) 64 4 k (drop 64 t) (λ r. four_bytes (tick_count (motor_of r)))

-- No count leaves the buffer as it was.
pub counts_none : (t p : List ℕ) → put p 0 (counts_to 0 t) ≡ p
unfolding flat_map pieces
counts_none t p = put_none p 0

-- One count more, put after those of the channels before it.
pub counts_next : (k : ℕ) (t p : List ℕ) → k ≤ 15 → length p ≡ 64
    → put (put p 0 (counts_to k t)) (4 * k) (word_bytes 4 (tick_count (motor_at t k))) ≡ put p 0 (counts_to (k + 1) t)
counts_next k t p h e =
    let n = counts_length k t in
    rw (← n, ← zero-add (length (counts_to k t)), put_after p (counts_to k t) (word_bytes 4 (tick_count (motor_at t k))) 0 (omega arith), add-one)
    (rw (flat_motors (λ m. word_bytes 4 (tick_count m)) t k))

-- All sixteen fill the buffer.
pub counts_all : (t p : List ℕ) → length p ≡ 64 → put p 0 (counts_to 16 t) ≡ counts t
counts_all t p e = put_whole p (counts_to 16 t) (counts_length 16 t ∙ sym e)

-- What the sizes that a call tests are, one by one.
pub sizes_card : (t : List ℕ) (card : ℕ) → (eqb (length t) table_size && leb card 1) ≡ true → (length t ≡ table_size) × (card ≤ 1)
sizes_card t card e = (eqb-true (length t) table_size (and_l (eqb (length t) table_size) (leb card 1) e), leb-true card 1 (and_r (eqb (length t) table_size) (leb card 1) e))

pub sizes_channel : (t : List ℕ) (c n : ℕ) → (eqb (length t) table_size && leb c 15 && leb n 7) ≡ true → (c ≤ 15) × (n ≤ 7)
sizes_channel t c n e =
    let front = and_l (eqb (length t) table_size && leb c 15) (leb n 7) e in (
      leb-true c 15 (and_r (eqb (length t) table_size) (leb c 15) front),
      leb-true n 7 (and_r (eqb (length t) table_size && leb c 15) (leb n 7) e),
    )
