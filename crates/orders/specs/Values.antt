-- Document 01, "Lines": what an order needs and the values that it may carry, as far as the line itself tells.
use Rattle.std.specs.Prelude.{Bool, true, false, ◌&&◌, leb}
use Rattle.record.specs.declared.Setup.{Setup}
use Rattle.motor.specs.Sound.{is_speed, setup_in_range}
use Rattle.line.specs.declared.Written.{Written}
use Rattle.line.specs.declared.Four.{Four}
use Rattle.line.specs.declared.Start.{Start}
use Rattle.line.specs.declared.Start.TheVariants.{Abs, Rel, Scan, Jog}
use Rattle.line.specs.declared.Setting.{Setting}
use Rattle.line.specs.declared.Setting.TheVariants.{Preset, SetCwLimit, SetCcwLimit, Select, SetSpeed, SetSwitches, SetMotor}
use Rattle.line.specs.declared.HeadOrder.{HeadOrder}
use Rattle.line.specs.declared.HeadOrder.TheVariants.{Mode, AllReply, ClearErrors, ClearError, Pause}
use Rattle.line.specs.declared.Order.{Order}
use Rattle.line.specs.declared.Order.TheVariants.{Go, Stop, StopAll, ChangeSpeed, Set, Ask, AskHead, ForHead}

-- of the orders of the head "LOC, REM and the ERR family are taken in both modes"; 02 §3: `PAUSE ON` and `PAUSE OFF` "remote only"
abbrev pub head_needs_remote : HeadOrder → Bool
head_needs_remote (Mode k) = false
head_needs_remote (AllReply k) = true
head_needs_remote ClearErrors = false
head_needs_remote (ClearError e) = false
head_needs_remote (Pause k) = true

-- "Reads, the four stops, LOC, REM and the ERR family are taken in both modes; the rest need remote mode." 02 §3, of `PAUSE?`: "the read
-- in both modes"; 02 §6, of `BSY?`: "both modes"; 02 §7, of `STQ?`: "both modes"
unfoldable pub needs_remote : Order → Bool
needs_remote (Go x s) = true
needs_remote (Stop x e) = false
needs_remote (StopAll e) = false
needs_remote (ChangeSpeed x v) = true
needs_remote (Set x s) = true
needs_remote (Ask x q) = false
needs_remote (AskHead q) = false
needs_remote (ForHead h) = head_needs_remote h

-- "±d: .. its range the positions' range, REL's too"
abbrev pub signed_in_range : Written → Bool
signed_in_range w = leb w.digits 2147483647

-- "D, Y and y are 0 or 1"; the digits of 0yyy too, its 0 being 0 already
abbrev pub binary_digits : Four → Bool
binary_digits q = leb q.a 1 && leb q.b 1 && leb q.c 1 && leb q.d 1

-- the SETMT digits as they were written
abbrev pub setup_written : Four → Setup
setup_written q = record { a = q.a; b = q.b; c = q.c; d = q.d }

-- the value of a start is in its range; SCAN and JOG have none
abbrev pub start_in_range : Start → Bool
start_in_range (Abs w) = signed_in_range w
start_in_range (Rel w) = signed_in_range w
start_in_range (Scan going) = true
start_in_range (Jog going) = true

-- the value of a setting is in its range; a selection has none
abbrev pub setting_in_range : Setting → Bool
setting_in_range (Preset w) = signed_in_range w
setting_in_range (SetCwLimit w) = signed_in_range w
setting_in_range (SetCcwLimit w) = signed_in_range w
setting_in_range (Select k) = true
setting_in_range (SetSpeed k v) = is_speed v
setting_in_range (SetSwitches q r) = binary_digits q && binary_digits r
setting_in_range (SetMotor q) = setup_in_range (setup_written q)

-- the value of an order of the head is in its range: "ERRCe bit e, 0 to 3"
abbrev pub head_value_in_range : HeadOrder → Bool
head_value_in_range (Mode k) = true
head_value_in_range (AllReply k) = true
head_value_in_range ClearErrors = true
head_value_in_range (ClearError e) = leb e 3
head_value_in_range (Pause k) = true

-- the value that an order carries is in its range
unfoldable pub value_in_range : Order → Bool
value_in_range (Go x s) = start_in_range s
value_in_range (Stop x e) = true
value_in_range (StopAll e) = true
value_in_range (ChangeSpeed x v) = is_speed v
value_in_range (Set x s) = setting_in_range s
value_in_range (Ask x q) = true
value_in_range (AskHead q) = true
value_in_range (ForHead h) = head_value_in_range h
