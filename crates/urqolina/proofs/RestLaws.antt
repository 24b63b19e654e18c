-- The channels that a tick has not come to: those left in the busy set, and those past the last of them, which a tick leaves as they
-- are. Assumes nothing.
use mathlib.Core.Path.{◌≡◌, refl, sym, ap, ◌∙◌}
use mathlib.Core.List.{List, ◌++◌}
use mathlib.Core.Bool.{Bool, true, false}
use Prim.Native.Nat.{ℕ, zero, suc, ◌+◌, ◌*◌, ◌-◌, ◌/◌, ◌^◌, ◌≤◌, ◌<◌}
use native.Mathlib.Nat.{zero-div}
use native.Mathlib.Omega.{arith}
use lib.ListN.{length, replicate, length-replicate, replicate-append-replicate}
use lib.Seq.{take_at, drop_at}
use lib.Pow.{shr-shr}
use lib.Dec.{eqb}
use borrow.Author.Tests.{eqb-true, eqb-false}
use Rattle.digits.specs.Bytes.{AllBytes, part, put}
use Rattle.digits.specs.Words.{word_bytes, is_set}
use Rattle.digits.proofs.PutLaws.{put_length, put_whole}
use Rattle.record.specs.declared.Motor.{Motor}
use Rattle.motor.specs.Sound.{busy, moving, sound_record}
use Rattle.motor.proofs.MovingLaws.{idle_still}
use Rattle.pulses.specs.Ticks.{tick_motor, tick_count}
use Rattle.pulses.proofs.Laws.{stopped_given_none, stopped_count}
use Rattle.record.specs.Record.{record_of}
use Rattle.table.specs.Layout.{table_size, record_start, record_at, motor_at, sealed, with_motor}
use Rattle.table.specs.Sound.{sound_table}
use Rattle.table.proofs.PieceLaws.{part_after, put_back}
use Rattle.table.proofs.TableLaws.{up_to, up_to_length, up_to_record, up_to_motor, up_to_sealed, up_to_next, sound_length, sound_record_at}
use Rattle.table.proofs.KeptLaws.{read_back}
use Rattle.urqolina.proofs.CallLaws.{counts_to, counts_length, counts_next}

-- A set with the channels before c left out: some are left, or none.
pub some_left : (n c : ℕ) → n < 65536 → c ≤ 16 → (n / 2 ^ c ≡ 0 → ⊥) → c ≤ 15
some_left n c l h some = go (eqb c 16) refl
  where
    go : (b : Bool) → eqb c 16 ≡ b → c ≤ 15
    go true e = absurd (some (rw (eqb-true c 16 e) (omega arith)))
    go false e = omega (arith, eqb-false c 16 e)

pub none_left : (n c d : ℕ) → n / 2 ^ c ≡ 0 → c ≤ d → is_set d n ≡ false
none_left n c d e h =
    let at : d ≡ c + (d - c) = omega arith in
    rw (at, ← shr-shr n c (d - c), e, zero-div (2 ^ (d - c)))

-- what a tick makes of a motor
abbrev pub ticked : Motor → Motor
ticked m = (tick_motor m).motor

-- A tick leaves a table at a channel that does not move, stopped or held, whose record is that of its motor.
pub idle_table : (t : List ℕ) (c : ℕ) → length t ≡ table_size → c ≤ 15 → sealed t ≡ t → record_of (motor_at t c) ≡ record_at t c
    → moving (motor_at t c) ≡ false → with_motor t c (ticked (motor_at t c)) ≡ t
unfolding with_motor
idle_table t c e h seal back still =
    let same : (tick_motor (motor_at t c)).motor ≡ motor_at t c = rw (stopped_given_none (motor_at t c) still) in
    rw (same, back, put_back t (record_start c) 64 (omega arith)) seal

-- and leaves the pulse buffer, where a 0 stands.
pub idle_count : (p : List ℕ) (c : ℕ) (m : Motor) → length p ≡ 64 → c ≤ 15 → part p (4 * c) 4 ≡ word_bytes 4 0 → moving m ≡ false
    → put p (4 * c) (word_bytes 4 (tick_count m)) ≡ p
idle_count p c m e h z still = rw (stopped_count m still, ← z) (put_back p (4 * c) 4 (omega arith))

-- sixteen counts of 0
unfoldable pub no_counts : List ℕ
no_counts = replicate 64 0

pub none_length : length no_counts ≡ 64
unfolding no_counts
none_length = refl

pub zeroed_counts : (p : List ℕ) → length p ≡ 64 → put p 0 (replicate 64 0) ≡ no_counts
unfolding no_counts
zeroed_counts p e = put_whole p (replicate 64 0) (sym e)

zeros_part : (a n r : ℕ) → part (replicate (a + (n + r)) 0) a n ≡ replicate n 0
unfolding part
zeros_part a n r =
    let x : List ℕ = replicate a 0 in
    let y : List ℕ = replicate n 0 in
    let z : List ℕ = replicate r 0 in
    rw (← replicate-append-replicate {A = ℕ} a (n + r) 0, ← replicate-append-replicate {A = ℕ} n r 0, drop_at x (y ++ z) a (length-replicate a 0), take_at y z n (length-replicate n 0))

none_at : (c : ℕ) → c ≤ 15 → part no_counts (4 * c) 4 ≡ word_bytes 4 0
unfolding no_counts word_bytes
none_at c h =
    let cut : 64 ≡ 4 * c + (4 + (60 - 4 * c)) = omega arith in
    ap (λ (n : ℕ). part (replicate {A = ℕ} n 0) (4 * c) 4) cut ∙ zeros_part (4 * c) 4 (60 - 4 * c)

-- The counts of the channels before c leave those from c on as they were, 0.
pub zero_count : (t : List ℕ) (c : ℕ) → c ≤ 15 → part (put no_counts 0 (counts_to c t)) (4 * c) 4 ≡ word_bytes 4 0
zero_count t c h =
    let n = counts_length c t in
    part_after no_counts (counts_to c t) 0 (4 * c) 4 (omega arith) (omega arith) ∙ none_at c h

pub counted_length : (t : List ℕ) (c : ℕ) → c ≤ 16 → length (put no_counts 0 (counts_to c t)) ≡ 64
counted_length t c h =
    let n = counts_length c t in
    let z = none_length in
    put_length no_counts 0 (counts_to c t) (omega arith) ∙ none_length

-- Where no channel from c on is busy, the tick is done with c.
module _ (t : List ℕ) (s : sound_table t ≡ true) where
  whole : length t ≡ table_size
  whole = sound_length t s

  -- the record of a channel that the tick has not come to is that of its motor
  abbrev Back : List ℕ → ℕ → Type 0
  Back u c = record_of (motor_at u c) ≡ record_at u c

  rest_next : (c : ℕ) → c ≤ 15 → Back (up_to ticked c t) c → busy (motor_at t c) ≡ false → up_to ticked (c + 1) t ≡ up_to ticked c t
  rest_next c h back still =
      let l : c ≤ 16 = omega arith in
      sym (up_to_next ticked c t whole h)
      ∙ idle_table (up_to ticked c t) c (up_to_length ticked c t whole l) h (up_to_sealed ticked c t whole l) back (rw (up_to_motor ticked c t whole l) (idle_still (motor_at t c) still))

  rest_count : (c : ℕ) → c ≤ 15 → busy (motor_at t c) ≡ false → put no_counts 0 (counts_to (c + 1) t) ≡ put no_counts 0 (counts_to c t)
  rest_count c h still =
      sym (counts_next c t no_counts h none_length)
      ∙ idle_count (put no_counts 0 (counts_to c t)) c (motor_at t c) (counted_length t c (omega arith)) h (zero_count t c h) (idle_still (motor_at t c) still)

  -- by what is known of the table at each channel that the tick comes to, which a channel that does not move leaves
  rest_by : (P : ℕ → Type 0) → ((d : ℕ) → d ≤ 15 → P d → Back (up_to ticked d t) d)
      → ((d : ℕ) → up_to ticked (d + 1) t ≡ up_to ticked d t → P d → P (d + 1))
      → (k c : ℕ) → c + k ≡ 16 → ((d : ℕ) → c ≤ d → d ≤ 15 → busy (motor_at t d) ≡ false) → P c → up_to ticked c t ≡ up_to ticked 16 t
  rest_by P back on zero c e still p = let same : c ≡ 16 = omega arith in rw same
  rest_by P back on (suc k) c e still p =
      let h : c ≤ 15 = omega arith in
      let next = rest_next c h (back c h p) (still c (omega arith) h) in
      sym next ∙ rest_by P back on k (c + 1) (omega arith) (λ d l h. still d (omega arith) h) (on c next p)

  pub rest_table : (bytes : AllBytes t) (k c : ℕ) → c + k ≡ 16 → ((d : ℕ) → c ≤ d → d ≤ 15 → busy (motor_at t d) ≡ false)
      → up_to ticked c t ≡ up_to ticked 16 t
  rest_table bytes k c e still = rest_by (λ d. AllBytes t) back (λ d e p. p) k c e still bytes
    where
      back : (d : ℕ) → d ≤ 15 → AllBytes t → Back (up_to ticked d t) d
      back d h p =
          let l : d ≤ 16 = omega arith in
          rw (up_to_motor ticked d t whole l, up_to_record ticked d t whole l) (read_back t d (sound_record_at t d s h) p)

  -- The same where the bytes of the table as far as the tick has come are known, and not those that it began with.
  pub rest_table_so_far : (k c : ℕ) → c + k ≡ 16 → ((d : ℕ) → c ≤ d → d ≤ 15 → busy (motor_at t d) ≡ false) → AllBytes (up_to ticked c t)
      → up_to ticked c t ≡ up_to ticked 16 t
  rest_table_so_far = rest_by (λ d. AllBytes (up_to ticked d t)) back (λ d e p. rw e p)
    where
      back : (d : ℕ) → d ≤ 15 → AllBytes (up_to ticked d t) → Back (up_to ticked d t) d
      back d h p =
          let l : d ≤ 16 = omega arith in
          read_back (up_to ticked d t) d (rw (up_to_record ticked d t whole l) (sound_record_at t d s h)) p

  pub rest_counts : (k c : ℕ) → c + k ≡ 16 → ((d : ℕ) → c ≤ d → d ≤ 15 → busy (motor_at t d) ≡ false)
      → put no_counts 0 (counts_to c t) ≡ put no_counts 0 (counts_to 16 t)
  rest_counts zero c e still = let same : c ≡ 16 = omega arith in rw same
  rest_counts (suc k) c e still =
      sym (rest_count c (omega arith) (still c (omega arith) (omega arith))) ∙ rest_counts k (c + 1) (omega arith) (λ d l h. still d (omega arith) h)
