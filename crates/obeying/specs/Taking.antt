-- What a line does on a sound table, a function from the table, what the line is and the reply buffer to all that is left: the
-- result, the table and the reply buffer. The inputs are any lists, sound or not.
use Rattle.std.specs.Prelude.{Ok, Err}
use Rattle.std.specs.Prelude.{Option, Some, None}
use Rattle.std.specs.Prelude.{ℕ, ◌+◌, ◌*◌, List, Bool, cond, length, eqb}
use Rattle.digits.specs.Bytes.{put}
use Rattle.drive.specs.Numbers.{Verdict}
use Rattle.drive.specs.declared.Refusal.TheVariants.{NoForm}
use Rattle.drive.specs.Numbers.{number_of}
use Rattle.line.specs.declared.Order.{Order}
use Rattle.line.specs.Forms.{order_of, on_card}
use Rattle.table.specs.Layout.{head_of}
use Rattle.commands.specs.Judging.{judge}
use Rattle.commands.specs.Changing.{changed, flagged}
use Rattle.commands.specs.Answers.{told, answer}

-- "0 | OK | done"
abbrev pub accepted : Verdict → Bool
accepted v = eqb (number_of v) 0

-- what a command leaves
pub record CommandAfter : Type 0 where
  pub result : ℕ
  pub table : List ℕ
  pub reply : List ℕ

-- "The command's result is the number plus 256 times the reply length." "Bytes past the reply stay as they were."
abbrev pub replied : Verdict → List ℕ → List ℕ → List ℕ → CommandAfter
replied v t text reply = record { result = number_of v + 256 * length text; table = t; reply = put reply 0 text }

-- a line that is refused: its flag is set, and its text made on the table after that
unfoldable pub refused : List ℕ → Verdict → List ℕ → CommandAfter
refused t v reply =
    let u = flagged t (number_of v) in
    replied v u (told u v) reply

-- an order that is accepted: the answer is made on the table after it
unfoldable pub obeyed : List ℕ → Order → List ℕ → CommandAfter
obeyed t o reply = replied (Ok tt) (changed t o) (answer (changed t o) o) reply

-- what a line is on a table, whose card decides which lines have a form; 02 §7, of `STQ?`: "On the sixteen card it is 1"
abbrev pub order_in : List ℕ → List ℕ → Option Order
order_in t line = on_card (head_of t).card (order_of line)

-- a line on a sound table: "1 .. the line has none of the forms above", then the order's verdict
unfoldable pub taken : List ℕ → Option Order → List ℕ → CommandAfter
taken t None reply = refused t (Err NoForm) reply
taken t (Some o) reply = cond (accepted (judge t o)) (obeyed t o reply) (refused t (judge t o) reply)
