-- `commands::flags::set_flag` meets its contract. Assumes nothing.
use Rattle.commands.specs.Changing.{flagged}
use Rattle.commands.proofs.flags.set_flag.Goals as goal

pub returns : goal.returns
unfolding flagged
returns c = rw (c.write_head.ensures, c.with_bit-flags.ensures, c.flag_bit.ensures.0, c.number_of.ensures, c.read_head-h.ensures)
