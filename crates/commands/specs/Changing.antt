-- What an accepted order changes in the table, and what a refusal changes. Document 01, "Lines" and "Numbers handed back".
use Rattle.std.specs.Prelude.{ℕ, List, Bool, false, cond, eqb}
use Rattle.digits.specs.Words.{with_bit, without_bit}
use Rattle.drive.specs.Numbers.{flag_bit}
use Rattle.drive.specs.Drives.{started, released, stopped, speed_changed}
use Rattle.line.specs.declared.HeadOrder.{HeadOrder}
use Rattle.line.specs.declared.HeadOrder.TheVariants.{Mode, AllReply, ClearErrors, ClearError, Pause}
use Rattle.line.specs.declared.Order.{Order}
use Rattle.line.specs.declared.Order.TheVariants.{Go, Stop, StopAll, ChangeSpeed, Set, Ask, AskHead, ForHead}
use Rattle.orders.specs.Settings.{course_of, with_setting}
use Rattle.table.specs.declared.head.Head.{Head}
use Rattle.table.specs.Layout.{head_of, paused, with_head, with_mode, with_reply, with_errors, with_pause, motor_at, with_motor, with_motors}

-- the head after an accepted order of it. "ERRC clears all error flags, ERRCe bit e, 0 to 3." 02 §3: "ON and OFF repeated are OK", and
-- write what is there
unfoldable pub head_changed : Head → HeadOrder → Head
head_changed h (Mode k) = with_mode h k
head_changed h (AllReply k) = with_reply h k
head_changed h ClearErrors = with_errors h 0
head_changed h (ClearError e) = with_errors h (without_bit e h.errors)
head_changed h (Pause k) = with_pause h k

-- 02 §3: "OFF releases all"
abbrev pub releases : HeadOrder → Bool
releases (Mode k) = false
releases (AllReply k) = false
releases ClearErrors = false
releases (ClearError e) = false
releases (Pause k) = eqb k 0

-- what an order of the head is to the motors: nothing, but for PAUSE OFF
abbrev pub motors_freed : List ℕ → HeadOrder → List ℕ
motors_freed t o = cond (releases o) (with_motors t released) t

-- the table after an accepted order. "A command naming channel x leaves the other fifteen records byte for byte; here only
-- ASSTP and AESTP, which name none, reach several", and by 02 §3 PAUSE OFF. Reads change nothing. "LOC lets drives run on."
unfoldable pub changed : List ℕ → Order → List ℕ
changed t (Go x s) = with_motor t x (started (paused (head_of t)) (motor_at t x) (course_of (motor_at t x) s))
changed t (Stop x e) = with_motor t x (stopped e (motor_at t x))
changed t (StopAll e) = with_motors t (stopped e)
changed t (ChangeSpeed x v) = with_motor t x (speed_changed (motor_at t x) v)
changed t (Set x s) = with_motor t x (with_setting (motor_at t x) s)
changed t (Ask x q) = t
changed t (AskHead q) = t
changed t (ForHead o) = with_head (motors_freed t o) (head_changed (head_of t) o)

-- the table after a refusal with a number: "Numbers 1 to 4 set error flag bits 0 to 3 in turn and change nothing else in the
-- table", where 4 "reads as the split numbers" (02 §5)
unfoldable pub flagged : List ℕ → ℕ → List ℕ
flagged t n = with_head t (with_errors (head_of t) (with_bit (flag_bit n) (head_of t).errors))
