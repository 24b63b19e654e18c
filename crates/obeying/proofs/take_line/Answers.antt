-- `obeying::take_line` meets its contract. Assumes nothing.
use Rattle.obeying.specs.Taking.{taken}
use Rattle.obeying.proofs.take_line.Goals as goal

pub returns-in-None : goal.returns-in-None
unfolding taken
returns-in-None c = rw c.in-None.is c.refuse.ensures
