-- Document 01, "Numbers handed back": which verdict an order gets on a sound table.
use Rattle.std.specs.Prelude.{Ok, Err}
use Rattle.std.specs.Prelude.{ℕ, List, Bool, false, ◌&&◌, not, cond, eqb}
use Rattle.drive.specs.Numbers.{Verdict}
use Rattle.drive.specs.declared.Refusal.TheVariants.{Busy, OutOfRange, LocalMode}
use Rattle.motor.specs.Sound.{busy}
use Rattle.drive.specs.Drives.{judge_start, judge_speed_change}
use Rattle.line.specs.declared.Order.{Order}
use Rattle.line.specs.declared.Order.TheVariants.{Go, Stop, StopAll, ChangeSpeed, Set, Ask, AskHead, ForHead}
use Rattle.orders.specs.Values.{needs_remote, value_in_range}
use Rattle.orders.specs.Settings.{course_of}
use Rattle.table.specs.Layout.{head_of, card_full, motor_at}

-- "a start, setting or speed selection (not SPC) of a driving channel"
unfoldable pub meets_busy : List ℕ → Order → Bool
meets_busy t (Go x s) = busy (motor_at t x)
meets_busy t (Stop x e) = false
meets_busy t (StopAll e) = false
meets_busy t (ChangeSpeed x v) = false
meets_busy t (Set x s) = busy (motor_at t x)
meets_busy t (Ask x q) = false
meets_busy t (AskHead q) = false
meets_busy t (ForHead h) = false

-- what is judged after busy: "target out of range .., the other causes of 4", which lie in the motor. 02 §5: "8 to 12 for starts only",
-- and 13 for SPC. 02 §7: a start's last check is whether as many motors are busy as may be
unfoldable pub judge_motor : Bool → List ℕ → Order → Verdict
judge_motor full t (Go x s) = judge_start full (motor_at t x) (course_of (motor_at t x) s)
judge_motor full t (Stop x e) = Ok tt
judge_motor full t (StopAll e) = Ok tt
judge_motor full t (ChangeSpeed x v) = judge_speed_change (motor_at t x)
judge_motor full t (Set x s) = Ok tt
judge_motor full t (Ask x q) = Ok tt
judge_motor full t (AskHead q) = Ok tt
judge_motor full t (ForHead h) = Ok tt

-- "Order: .. local mode, value, busy, target out of range .., the other causes of 4." 02 §3: "Refusals: none new". 02 §5: "7 keeps local
-- mode's place". This is the verdict where the card is full, or not
unfoldable pub judge_where : Bool → List ℕ → Order → Verdict
judge_where full t o =
    cond (needs_remote o && eqb (head_of t).mode 0) (Err LocalMode)
    (cond (not (value_in_range o)) (Err OutOfRange)
    (cond (meets_busy t o) (Err Busy)
    (judge_motor full t o)))

-- 02 §7: "the number of set bits in the busy word decides whether a start is taken"
unfoldable pub judge : List ℕ → Order → Verdict
judge t o = judge_where (card_full (head_of t)) t o
