-- `commands::judging::judge_order` meets its contract. Assumes nothing.
use Rattle.commands.specs.Judging.{judge_where, judge}
use Rattle.commands.proofs.judging.judge_order.Goals as goal

pub returns-then-needs_remote-head : goal.returns-then-needs_remote-head
unfolding judge judge_where
returns-then-needs_remote-head c =
    rw (← c.read_head-head.ensures, ← c.has_form.ensures, c.if-not-has_form.false, ← c.needs_remote.ensures, c.if-needs_remote-head.true)

pub returns-then-value_in_range : goal.returns-then-value_in_range
unfolding judge judge_where
returns-then-value_in_range c =
    rw (c.judge_channel.ensures, ← c.read_head-head.ensures, ← c.has_form.ensures, c.if-not-has_form.false, ← c.needs_remote.ensures, c.if-needs_remote-head.false, ← c.value_in_range.ensures, c.if-value_in_range.true)

pub returns-else-value_in_range : goal.returns-else-value_in_range
unfolding judge judge_where
returns-else-value_in_range c =
    rw (← c.read_head-head.ensures, ← c.has_form.ensures, c.if-not-has_form.false, ← c.needs_remote.ensures, c.if-needs_remote-head.false, ← c.value_in_range.ensures, c.if-value_in_range.false)
