-- `urqolina::urqolina_fresh` meets its contract. Assumes nothing.
use borrow.Author.Tests.{eq-eqb, le-leb}
use Rattle.drive.specs.Numbers.{number_of}
use Rattle.urqolina.specs.Calls.{fresh_call}
use Rattle.urqolina.proofs.urqolina_fresh.Goals as goal

pub returns : goal.returns
unfolding fresh_call number_of
returns c = rw (eq-eqb _ _ c.in-Some.ensures.cases.long, le-leb _ _ c.if-card-gt1.false, c.make_fresh.ensures)
