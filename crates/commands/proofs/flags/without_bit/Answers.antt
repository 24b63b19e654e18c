-- `commands::flags::without_bit` meets its contract. Assumes nothing.
use Rattle.digits.specs.Words.{without_bit}
use Rattle.commands.proofs.flags.without_bit.Goals as goal

pub returns-then-is_set : goal.returns-then-is_set
unfolding without_bit
returns-then-is_set c = rw (← c.is_set.ensures, c.if-is_set.true, c.power.ensures.0)

pub returns-else-is_set : goal.returns-else-is_set
unfolding without_bit
returns-else-is_set c = rw (← c.is_set.ensures, c.if-is_set.false)
