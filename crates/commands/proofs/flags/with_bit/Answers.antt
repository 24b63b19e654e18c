-- `commands::flags::with_bit` meets its contract. Assumes nothing.
use Rattle.digits.specs.Words.{with_bit}
use Rattle.commands.proofs.flags.with_bit.Goals as goal

pub returns-then-is_set : goal.returns-then-is_set
unfolding with_bit
returns-then-is_set c = rw (← c.is_set.ensures, c.if-is_set.true)

pub returns-else-is_set : goal.returns-else-is_set
unfolding with_bit
returns-else-is_set c = rw (← c.is_set.ensures, c.if-is_set.false, c.power.ensures.0)
