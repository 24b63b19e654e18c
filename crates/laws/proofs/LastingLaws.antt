-- The table stays sound over any sequence of calls after a fresh one, so 6 never comes. Assumes nothing.
use mathlib.Core.Path.{◌≡◌, refl, ap}
use mathlib.Core.List.{List, [], ◌∷◌}
use mathlib.Core.Bool.{Bool, true, false, ◌||◌, false≢true}
use Prim.Native.Nat.{ℕ, ◌%◌}
use native.Mathlib.Omega.{arith}
use lib.ListN.{length}
use lib.Dec.{eqb}
use borrow.Author.Tests.{eq-eqb, le-leb}
use Rattle.table.specs.Layout.{table_size, fresh_table}
use Rattle.drive.specs.Numbers.{is_refusal}
use Rattle.table.specs.Sound.{sound_table}
use Rattle.table.proofs.KeptLaws.{fresh_sound}
use Rattle.urqolina.specs.Calls.{TableAfter}
use Rattle.urqolina.proofs.Refusals.{fresh_made_law, command_accepted, reading_accepted, tick_accepted}
use Rattle.laws.specs.Sequences.{urqolina, Call, command, reading, tick, after, run, Beginning, from_fresh, ran}
use Rattle.laws.specs.Numbers.{sizes_right}
use Rattle.laws.specs.Pulses.{Lasting}
use Rattle.laws.proofs.Following.{next}
use Rattle.laws.proofs.NumberLaws.{numbers}

-- Every beginning makes the fresh table of its card.
pub made_fresh : (b : Beginning) → from_fresh urqolina b ≡ fresh_table b.card
made_fresh b = ap (λ (a : TableAfter). a.table) (fresh_made_law b.bytes b.card (rw (eq-eqb (length b.bytes) table_size b.whole) (le-leb b.card 1 b.known)))

-- A sound table stays sound over any sequence.
pub run_sound : (t : List ℕ) (ks : List Call) → sound_table t ≡ true → sound_table (run urqolina t ks) ≡ true
unfolding run
run_sound t [] s = s
run_sound t (k ∷ ks) s = run_sound (after urqolina t k).table ks (next t k s).sound

pub ran_sound : (b : Beginning) (ks : List Call) → sound_table (ran urqolina b ks) ≡ true
ran_sound b ks = rw (made_fresh b) (run_sound (fresh_table b.card) ks (fresh_sound b.card b.known))

-- On a sound table no call gives 6: with the sizes right it gives 0, or the number of a refusal.
taken_number : (t : List ℕ) (k : Call) → sound_table t ≡ true → sizes_right t k ≡ true
    → let n = (after urqolina t k).result % 256 in (eqb n 0 || is_refusal n) ≡ true
unfolding after
taken_number t (command line reply) s e = command_accepted t line reply e s
taken_number t (reading c n) s e = rw (reading_accepted t c n e s)
taken_number t (tick p) s e = rw (tick_accepted t p e s)

never_six_law : (t : List ℕ) (k : Call) → sound_table t ≡ true → (after urqolina t k).result % 256 ≡ 6 → ⊥
never_six_law t k s = go (sizes_right t k) refl
  where
    go : (b : Bool) → sizes_right t k ≡ b → (after urqolina t k).result % 256 ≡ 6 → ⊥
    go true e h = false≢true (rw h at (taken_number t k s e))
    go false e h = absurd (omega (arith, rw (numbers.sizes t k e) at h))

-- Soundness lasts.
pub lasting : Lasting urqolina
lasting = record { sound = ran_sound; never_six = λ b ks k. never_six_law (ran urqolina b ks) k (ran_sound b ks) }
