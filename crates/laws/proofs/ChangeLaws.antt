-- Demand 2, what an accepted call changes. Assumes nothing.
use Rattle.std.specs.Prelude.{Option, Some, None}
use mathlib.Core.Path.{◌≡◌, refl}
use mathlib.Core.List.{List}
use mathlib.Core.Bool.{true}
use Prim.Native.Nat.{ℕ}
use borrow.Author.Tests.{eq-eqb}
use Rattle.drive.specs.Numbers.{number_of}
use Rattle.line.specs.declared.Order.{Order}
use Rattle.table.specs.Sound.{sound_table}
use Rattle.commands.specs.Judging.{judge}
use Rattle.commands.specs.Changing.{changed}
use Rattle.obeying.specs.Taking.{order_in, obeyed, taken}
use Rattle.urqolina.specs.Calls.{command_call, reading_call, tick_call}
use Rattle.laws.specs.Sequences.{urqolina, command}
use Rattle.laws.specs.Numbers.{sizes_right, Changes}

orders : (t line reply : List ℕ) (o : Order) → sizes_right t (command line reply) ≡ true → sound_table t ≡ true → order_in t line ≡ Some o
    → number_of (judge t o) ≡ 0 → (command_call t line reply).table ≡ changed t o
unfolding command_call taken obeyed number_of
orders t line reply o e s q z = rw (e, s, q, eq-eqb (number_of (judge t o)) 0 z)

pub changes : Changes urqolina
unfolding reading_call tick_call number_of
changes = record { orders = orders; readings = λ t c n e s. rw (e, s); ticks = λ t p e s. rw (e, s) (refl, refl) }
