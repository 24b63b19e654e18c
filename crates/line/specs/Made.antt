-- What every order of a line is, whatever the line: it names one of the sixteen channels, and its directions, speed numbers,
-- end flags and head bytes are those that document 01 gives. That every order is so is proved (`line_made` in
-- proofs/OrderLaws.antt); a function that takes an order may ask for it.
use Rattle.std.specs.Prelude.{ℕ, Bool, true, ◌&&◌, ◌||◌, eqb, leb}
use Rattle.digits.specs.Places.{cw, ccw}
use Rattle.line.specs.declared.Start.{Start}
use Rattle.line.specs.declared.Start.TheVariants.{Abs, Rel, Scan, Jog}
use Rattle.line.specs.declared.Setting.{Setting}
use Rattle.line.specs.declared.Setting.TheVariants.{Preset, SetCwLimit, SetCcwLimit, Select, SetSpeed, SetSwitches, SetMotor}
use Rattle.line.specs.declared.Order.{Order}
use Rattle.line.specs.declared.Order.TheVariants.{Go, Stop, StopAll, ChangeSpeed, Set, Ask, AskHead, ForHead}
use Rattle.line.specs.declared.HeadOrder.{HeadOrder}
use Rattle.line.specs.declared.HeadOrder.TheVariants.{Mode, AllReply, ClearErrors, ClearError, Pause}
use Rattle.std.specs.Prelude.{Option, Some, None}
use Rattle.line.specs.Forms.{ssend, esend}

-- one of the sixteen channels
abbrev pub on_bench : ℕ → Bool
on_bench x = leb x 15

abbrev pub direction : ℕ → Bool
direction going = eqb going cw || eqb going ccw

abbrev pub end_flag : ℕ → Bool
end_flag flags = eqb flags ssend || eqb flags esend

abbrev pub start_made : Start → Bool
start_made (Abs w) = true
start_made (Rel w) = true
start_made (Scan going) = direction going
start_made (Jog going) = direction going

-- the 0 of DYYY0yyy is itself
abbrev pub setting_made : Setting → Bool
setting_made (Preset w) = true
setting_made (SetCwLimit w) = true
setting_made (SetCcwLimit w) = true
setting_made (Select k) = leb k 2
setting_made (SetSpeed k v) = leb k 2
setting_made (SetSwitches q r) = eqb r.a 0
setting_made (SetMotor q) = true

abbrev pub head_made : HeadOrder → Bool
head_made (Mode k) = leb k 1
head_made (AllReply k) = leb k 1
head_made ClearErrors = true
head_made (ClearError e) = true
head_made (Pause k) = leb k 1

-- an order as a line makes it
unfoldable pub order_made : Order → Bool
order_made (Go x s) = on_bench x && start_made s
order_made (Stop x flags) = on_bench x && end_flag flags
order_made (StopAll flags) = end_flag flags
order_made (ChangeSpeed x v) = on_bench x
order_made (Set x s) = on_bench x && setting_made s
order_made (Ask x q) = on_bench x
order_made (AskHead q) = true
order_made (ForHead h) = head_made h

-- what a line is: such an order, or nothing
abbrev pub parsed_made : Option Order → Bool
parsed_made (Some o) = order_made o
parsed_made None = true
