-- Document 01, "Numbers handed back": what is answered, on the table after the command.
use Rattle.std.specs.Prelude.{Ok}
use Rattle.std.specs.Prelude.{ℕ, List}
use Rattle.drive.specs.Numbers.{Verdict}
use Rattle.line.specs.declared.Order.{Order}
use Rattle.line.specs.declared.Order.TheVariants.{Go, Stop, StopAll, ChangeSpeed, Set, Ask, AskHead, ForHead}
use Rattle.replies.specs.Replies.{echo, question_text, head_text}
use Rattle.table.specs.Layout.{head_of, motor_at}

-- "Other commands, and numbers 1 to 4, write their text if all-reply is on after the command", where 4 "reads as the split numbers" (02
-- §5)
abbrev pub told : List ℕ → Verdict → List ℕ
told t v = echo (head_of t).reply v

-- the answer to an accepted order, on the table after it: "A read's reply is always written"
unfoldable pub answer : List ℕ → Order → List ℕ
answer t (Go x s) = told t (Ok tt)
answer t (Stop x e) = told t (Ok tt)
answer t (StopAll e) = told t (Ok tt)
answer t (ChangeSpeed x v) = told t (Ok tt)
answer t (Set x s) = told t (Ok tt)
answer t (Ask x q) = question_text (head_of t).mode x (motor_at t x) q
answer t (AskHead q) = head_text (head_of t) q
answer t (ForHead o) = told t (Ok tt)
