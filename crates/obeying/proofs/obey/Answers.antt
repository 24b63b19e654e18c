-- `obeying::obey` meets its contract. Assumes nothing.
use Rattle.obeying.proofs.TakingLaws.{unasked_told}
use Rattle.obeying.specs.Taking.{obeyed}
use borrow.Author.Tests.{leb-true}
use Rattle.line.specs.Made.{order_made}
use Rattle.obeying.proofs.obey.Goals as goal

pub tell_channel-requires : goal.tell_channel-requires
unfolding order_made
tell_channel-requires c = (c.requires.0, c.requires.1, leb-true _ 15 (rw c.in-Ask.is at c.requires.2))

pub returns-in_default : goal.returns-in_default
unfolding obeyed
returns-in_default c = rw (unasked_told _ c.args.o c.in_default.not-Ask c.in_default.not-AskHead) c.carry_out.ensures
