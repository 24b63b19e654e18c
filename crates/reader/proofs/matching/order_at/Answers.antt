-- `reader::matching::order_at` meets its contract. Assumes nothing.
use borrow.Author.Tests.{le-leb, lt-leb}
use Rattle.reader.specs.Finding.{order_at}
use Rattle.reader.proofs.matching.order_at.Goals as goal

pub returns-then-s-le80 : goal.returns-then-s-le80
unfolding order_at
returns-then-s-le80 c = rw (c.either_at.ensures, le-leb _ _ c.if-s-le80.true)

pub returns-else-s-le80 : goal.returns-else-s-le80
unfolding order_at
returns-else-s-le80 c = rw (lt-leb _ _ c.if-s-le80.false)
