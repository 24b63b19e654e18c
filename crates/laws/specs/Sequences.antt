-- Sequences of calls: "For any sequence of commands, readings and ticks after a fresh table, refused ones included, where
-- nothing else writes to the table". A sequence is a list of calls, each with all that it is lent, of any length and content;
-- the table goes from one call to the next.
use Rattle.std.specs.Prelude.{ℕ, ◌≤◌, List, [], ◌∷◌, Bool, true, ◌&&◌, not, ◌≡◌, length}
use Rattle.table.specs.Layout.{table_size}
use Rattle.obeying.specs.Taking.{CommandAfter}
use Rattle.urqolina.specs.Calls.{TableAfter, TickAfter, fresh_call, command_call, reading_call, tick_call}

-- the four calls of a library, as functions of all that they are lent. The demands are stated of any library, so that one can
-- ask which libraries they refuse.
pub record Library : Type 0 where
  pub fresh : List ℕ → ℕ → TableAfter
  pub command : List ℕ → List ℕ → List ℕ → CommandAfter
  pub reading : List ℕ → ℕ → ℕ → TableAfter
  pub tick : List ℕ → List ℕ → TickAfter

-- ours: what the four exported calls promise to be
abbrev pub urqolina : Library
urqolina = record { fresh = fresh_call; command = command_call; reading = reading_call; tick = tick_call }

-- a call, with all that it is lent beside the table
pub data Call : Type 0 where
  -- a line and a reply buffer
  command : List ℕ → List ℕ → Call
  -- a channel and its contacts
  reading : ℕ → ℕ → Call
  -- a pulse buffer
  tick : List ℕ → Call

-- what a call leaves: its result, the table, and the buffer that it was lent; a reading is lent none
pub record After : Type 0 where
  pub result : ℕ
  pub table : List ℕ
  pub buffer : List ℕ

-- a call made on a table
unfoldable pub after : Library → List ℕ → Call → After
after l t (command line reply) =
    let a = l.command t line reply in
    record { result = a.result; table = a.table; buffer = a.reply }
after l t (reading c n) =
    let a = l.reading t c n in
    record { result = a.result; table = a.table; buffer = [] }
after l t (tick p) =
    let a = l.tick t p in
    record { result = a.result; table = a.table; buffer = a.pulses }

-- the table after a sequence of calls
unfoldable pub run : Library → List ℕ → List Call → List ℕ
run l t [] = t
run l t (k ∷ ks) = run l (after l t k).table ks

-- how a sequence begins: with a fresh call that is lent a table's bytes, whatever they hold, and told one of the cards (02 §7)
pub record Beginning : Type 0 where
  pub bytes : List ℕ
  pub whole : length bytes ≡ table_size
  pub card : ℕ
  pub known : card ≤ 1

-- the table that this call leaves
abbrev pub from_fresh : Library → Beginning → List ℕ
from_fresh l b = (l.fresh b.bytes b.card).table

-- "after a fresh table": the table after such a beginning and a sequence of calls
abbrev pub ran : Library → Beginning → List Call → List ℕ
ran l b ks = run l (from_fresh l b) ks

-- no call of a sequence passes a test, which sees the table before it
unfoldable pub never : Library → (List ℕ → Call → Bool) → List ℕ → List Call → Bool
never l test t [] = true
never l test t (k ∷ ks) = not (test t k) && never l test (after l t k).table ks
