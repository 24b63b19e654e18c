-- Demand 2, what the lines that are done and change nothing leave: the whole table, byte for byte. A demand of its own, beside those that
-- Demands.antt gathers.
use Rattle.std.specs.Prelude.{Option, Some, None}
use Rattle.std.specs.Prelude.{◌≡◌, List, Bool, true, false, not, ℕ, ◌%◌, eqb}
use Rattle.digits.specs.Bytes.{AllBytes}
use Rattle.digits.specs.Words.{is_set, how_many}
use Rattle.motor.specs.Sound.{busy}
use Rattle.line.specs.declared.HeadOrder.{HeadOrder}
use Rattle.line.specs.declared.HeadOrder.TheVariants.{Mode, AllReply, ClearErrors, ClearError, Pause}
use Rattle.line.specs.declared.Order.{Order}
use Rattle.line.specs.declared.Order.TheVariants.{Go, Stop, StopAll, ChangeSpeed, Set, Ask, AskHead, ForHead}
use Rattle.line.specs.Forms.{order_of}
use Rattle.table.specs.declared.head.Head.{Head}
use Rattle.table.specs.Layout.{head_of, motor_at}
use Rattle.laws.specs.Sequences.{Library}
use Rattle.laws.specs.Ledger.{sets_off}

-- an order of the head finds its field as it would make it: "Repeating LOC or REM changes nothing and is OK", 02 §3: "ON and OFF repeated
-- are OK", and so it is with ALL_REP EN and DS, and with error flags that are clear
unfoldable pub repeats : Head → HeadOrder → Bool
repeats h (Mode k) = eqb h.mode k
repeats h (AllReply k) = eqb h.reply k
repeats h ClearErrors = eqb h.errors 0
repeats h (ClearError e) = not (is_set e h.errors)
repeats h (Pause k) = eqb h.pause k

-- an order that changes nothing on a table where it is done: "ABS to the present position, REL 0 and a stop on a stopped motor are OK and
-- change nothing"; ASSTP and AESTP where all sixteen stand; a repeated order of the head; a read
unfoldable pub changes_nothing : List ℕ → Order → Bool
changes_nothing t (Go x s) = not (sets_off (motor_at t x) s)
changes_nothing t (Stop x flags) = not (busy (motor_at t x))
changes_nothing t (StopAll flags) = eqb (how_many (λ c. busy (motor_at t c)) 16) 0
changes_nothing t (ChangeSpeed x v) = false
changes_nothing t (Set x s) = false
changes_nothing t (Ask x q) = true
changes_nothing t (AskHead q) = true
changes_nothing t (ForHead h) = repeats (head_of t) h

-- On any table, whatever its bytes hold: such a line, where it is 0, leaves every byte of it.
pub record Unchanged (l : Library) : Type 0 where
  pub table : (t line reply : List ℕ) (o : Order) → AllBytes t → order_of line ≡ Some o → changes_nothing t o ≡ true → (l.command t line reply).result % 256 ≡ 0
      → (l.command t line reply).table ≡ t
