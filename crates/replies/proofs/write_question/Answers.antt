-- `replies::write_question` meets its contract. Assumes nothing.
use native.Mathlib.Omega.{arith}
use Rattle.text.proofs.TextLaws.{decimal_within}
use Rattle.replies.specs.Replies.{question_text}
use Rattle.replies.proofs.ReplyLaws.{question_within, short}
use Rattle.status.proofs.StatusLaws.{position_within}
use Rattle.replies.proofs.write_question.Goals as goal

pub write_signed-requires : goal.write_signed-requires
write_signed-requires c = omega (arith, position_within c.args.m.place)

pub write_signed-requires-in-AskCwLimit : goal.write_signed-requires-in-AskCwLimit
write_signed-requires-in-AskCwLimit c = omega (arith, position_within c.args.m.limits.cw)

pub write_signed-requires-in-AskCcwLimit : goal.write_signed-requires-in-AskCcwLimit
write_signed-requires-in-AskCcwLimit c = omega (arith, position_within c.args.m.limits.ccw)

pub write_decimal-requires : goal.write_decimal-requires
write_decimal-requires c = omega (arith, decimal_within 6 c.speed_numbered.result (omega arith))

pub returns-in-AskPosition : goal.returns-in-AskPosition
unfolding question_text
returns-in-AskPosition c =
    short (question_within c.args.k c.args.x c.args.m c.args.q) (rw c.in-AskPosition.is c.write_signed.ensures)

pub returns-in-AskCwLimit : goal.returns-in-AskCwLimit
unfolding question_text
returns-in-AskCwLimit c =
    short (question_within c.args.k c.args.x c.args.m c.args.q) (rw c.in-AskCwLimit.is c.write_signed-in-AskCwLimit.ensures)

pub returns-in-AskCcwLimit : goal.returns-in-AskCcwLimit
unfolding question_text
returns-in-AskCcwLimit c =
    short (question_within c.args.k c.args.x c.args.m c.args.q) (rw c.in-AskCcwLimit.is c.write_signed-in-AskCcwLimit.ensures)

pub returns-in-AskSelected : goal.returns-in-AskSelected
unfolding question_text
returns-in-AskSelected c =
    short (question_within c.args.k c.args.x c.args.m c.args.q) (rw c.in-AskSelected.is c.write_selected.ensures)

pub returns-in-AskSpeed : goal.returns-in-AskSpeed
unfolding question_text
returns-in-AskSpeed c =
    short (question_within c.args.k c.args.x c.args.m c.args.q)
    (rw (c.in-AskSpeed.is, ← c.speed_numbered.ensures) c.write_decimal.ensures)

pub returns-in-AskSwitches : goal.returns-in-AskSwitches
unfolding question_text
returns-in-AskSwitches c =
    short (question_within c.args.k c.args.x c.args.m c.args.q) (rw c.in-AskSwitches.is c.write_switches.ensures)

pub returns-in-AskMotor : goal.returns-in-AskMotor
unfolding question_text
returns-in-AskMotor c =
    short (question_within c.args.k c.args.x c.args.m c.args.q) (rw c.in-AskMotor.is c.write_setup.ensures)

pub returns-in-AskStatus : goal.returns-in-AskStatus
unfolding question_text
returns-in-AskStatus c =
    short (question_within c.args.k c.args.x c.args.m c.args.q) (rw c.in-AskStatus.is c.write_status.ensures)
