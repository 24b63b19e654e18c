-- `status::mode_letter` meets its contract. Assumes nothing.
use borrow.Author.Tests.{eq-eqb, ne_eqb}
use Rattle.status.specs.Status.{mode_letter}
use Rattle.status.proofs.mode_letter.Goals as goal

pub returns-then-k-eq0 : goal.returns-then-k-eq0
unfolding mode_letter
returns-then-k-eq0 c = rw (eq-eqb _ _ c.if-k-eq0.true)

pub returns-else-k-eq0 : goal.returns-else-k-eq0
unfolding mode_letter
returns-else-k-eq0 c = rw (ne_eqb _ _ c.if-k-eq0.false)
