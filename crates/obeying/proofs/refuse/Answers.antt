-- `obeying::refuse` meets its contract. Assumes nothing.
use Rattle.obeying.specs.Taking.{refused}
use Rattle.table.proofs.HeadLaws.{sound_range, range_errors}
use Rattle.obeying.proofs.refuse.Goals as goal

pub set_flag-requires : goal.set_flag-requires
set_flag-requires c = range_errors _ (sound_range _ c.requires.0)

pub returns : goal.returns
unfolding refused
returns c = rw (c.result_of.ensures, c.write_echo-count.ensures.wrote.count, c.write_echo-count.ensures.wrote.buffer, c.read_head-h.ensures, c.set_flag.ensures)
