-- The numbers of the four calls, for all inputs: "5 and 6 change nothing anywhere; fresh gives only 0 or 5." The sizes are
-- judged first, then the table; with both right a reading and a tick give 0, and a command 0 or the number of
-- a refusal.
use mathlib.Core.Path.{◌≡◌, refl}
use mathlib.Core.List.{List}
use mathlib.Core.Bool.{Bool, true, false, ◌&&◌, ◌||◌}
use mathlib.Core.Logic.{◌⊎◌, inl, inr}
use Prim.Native.Nat.{ℕ, ◌%◌}
use lib.ListN.{length}
use lib.Dec.{eqb, leb}
use Rattle.drive.specs.Numbers.{number_of, is_refusal}
use Rattle.table.specs.Layout.{table_size, fresh_table}
use Rattle.table.specs.Sound.{sound_table}
use Rattle.obeying.specs.Taking.{order_in}
use Rattle.obeying.proofs.NumberLaws.{taken_number}
use Rattle.urqolina.specs.Calls.{fresh_call, command_call, reading_call, tick_call}

-- a fresh call makes the fresh table of its card and gives 0, or gives 5 and leaves the bytes
pub fresh_made_law : (t : List ℕ) (card : ℕ) → (eqb (length t) table_size && leb card 1) ≡ true → fresh_call t card ≡ record { result = 0; table = fresh_table card }
unfolding fresh_call number_of
fresh_made_law t card e = rw e

pub fresh_refused_law : (t : List ℕ) (card : ℕ) → (eqb (length t) table_size && leb card 1) ≡ false → fresh_call t card ≡ record { result = 5; table = t }
unfolding fresh_call number_of
fresh_refused_law t card e = rw e

-- a command with a wrong size, and one on a table that is not sound
pub command_size : (t line reply : List ℕ) → (eqb (length t) table_size && leb 32 (length reply)) ≡ false
    → command_call t line reply ≡ record { result = 5; table = t; reply = reply }
unfolding command_call number_of
command_size t line reply e = rw e

pub command_unsound : (t line reply : List ℕ) → (eqb (length t) table_size && leb 32 (length reply)) ≡ true → sound_table t ≡ false
    → command_call t line reply ≡ record { result = 6; table = t; reply = reply }
unfolding command_call number_of
command_unsound t line reply e u = rw (e, u)

-- a reading
pub reading_size : (t : List ℕ) (c n : ℕ) → (eqb (length t) table_size && leb c 15 && leb n 7) ≡ false
    → reading_call t c n ≡ record { result = 5; table = t }
unfolding reading_call number_of
reading_size t c n e = rw e

pub reading_unsound : (t : List ℕ) (c n : ℕ) → (eqb (length t) table_size && leb c 15 && leb n 7) ≡ true → sound_table t ≡ false
    → reading_call t c n ≡ record { result = 6; table = t }
unfolding reading_call number_of
reading_unsound t c n e u = rw (e, u)

-- a tick
pub tick_size : (t pulses : List ℕ) → (eqb (length t) table_size && eqb (length pulses) 64) ≡ false
    → tick_call t pulses ≡ record { result = 5; table = t; pulses = pulses }
unfolding tick_call number_of
tick_size t pulses e = rw e

pub tick_unsound : (t pulses : List ℕ) → (eqb (length t) table_size && eqb (length pulses) 64) ≡ true → sound_table t ≡ false
    → tick_call t pulses ≡ record { result = 6; table = t; pulses = pulses }
unfolding tick_call number_of
tick_unsound t pulses e u = rw (e, u)

pub fresh_numbers : (t : List ℕ) (card : ℕ) → ((fresh_call t card).result ≡ 0) ⊎ ((fresh_call t card).result ≡ 5)
unfolding fresh_call number_of
fresh_numbers t card = go (eqb (length t) table_size && leb card 1) refl
  where
    go : (b : Bool) → (eqb (length t) table_size && leb card 1) ≡ b → ((fresh_call t card).result ≡ 0) ⊎ ((fresh_call t card).result ≡ 5)
    go true e = inl (rw e)
    go false e = inr (rw e)

-- with the sizes right and the table sound: a reading and a tick
pub reading_accepted : (t : List ℕ) (c n : ℕ) → (eqb (length t) table_size && leb c 15 && leb n 7) ≡ true → sound_table t ≡ true
    → (reading_call t c n).result ≡ 0
unfolding reading_call number_of
reading_accepted t c n e u = rw (e, u)

pub tick_accepted : (t pulses : List ℕ) → (eqb (length t) table_size && eqb (length pulses) 64) ≡ true → sound_table t ≡ true
    → (tick_call t pulses).result ≡ 0
unfolding tick_call number_of
tick_accepted t pulses e u = rw (e, u)

-- and a command
pub command_accepted : (t line reply : List ℕ) → (eqb (length t) table_size && leb 32 (length reply)) ≡ true → sound_table t ≡ true
    → let n = (command_call t line reply).result % 256 in (eqb n 0 || is_refusal n) ≡ true
unfolding command_call number_of
command_accepted t line reply e u = rw (e, u) (taken_number t (order_in t line) reply)
