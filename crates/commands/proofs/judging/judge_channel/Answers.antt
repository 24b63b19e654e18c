-- `commands::judging::judge_channel` meets its contract. Assumes nothing.
use mathlib.Core.Path.{sym}
use Rattle.commands.proofs.ChannelLaws.{others_done}
use Rattle.commands.specs.Judging.{meets_busy, judge_motor}
use Rattle.orders.specs.Values.{value_in_range}
use Rattle.commands.proofs.ChannelLaws.{named, named_channel}
use Rattle.commands.proofs.judging.judge_channel.Goals as goal

pub motor_at-requires : goal.motor_at-requires
unfolding named
motor_at-requires c =
    rw c.in-Go.is at (named_channel _ c.requires.0)

pub judge_go-requires : goal.judge_go-requires
unfolding value_in_range
judge_go-requires c = rw c.in-Go.is at c.requires.1

pub motor_at-requires-in-ChangeSpeed : goal.motor_at-requires-in-ChangeSpeed
unfolding named
motor_at-requires-in-ChangeSpeed c = rw c.in-ChangeSpeed.is at (named_channel _ c.requires.0)

pub motor_at-requires-in-Set : goal.motor_at-requires-in-Set
unfolding named
motor_at-requires-in-Set c = rw c.in-Set.is at (named_channel _ c.requires.0)

pub returns-in-Go : goal.returns-in-Go
unfolding meets_busy judge_motor
returns-in-Go c =
    rw (c.in-Go.is, c.judge_go.ensures, c.motor_at.ensures, c.is_full.ensures, c.read_head.ensures)

pub returns-in-ChangeSpeed : goal.returns-in-ChangeSpeed
unfolding meets_busy judge_motor
returns-in-ChangeSpeed c = rw (c.in-ChangeSpeed.is, c.judge_speed_change.ensures, c.motor_at-in-ChangeSpeed.ensures)

pub returns-in-Set : goal.returns-in-Set
unfolding meets_busy judge_motor
returns-in-Set c = rw (c.in-Set.is, c.judge_set.ensures, c.motor_at-in-Set.ensures)

pub returns-in_default : goal.returns-in_default
returns-in_default c = sym (others_done _ _ c.args.o c.in_default.not-Go c.in_default.not-ChangeSpeed c.in_default.not-Set)
