-- `status::going_letter` meets its contract. Assumes nothing.
use borrow.Author.Tests.{eq-eqb, ne_eqb}
use Rattle.status.specs.Status.{going_letter}
use Rattle.status.proofs.going_letter.Goals as goal

pub returns-then-m-eq-CW : goal.returns-then-m-eq-CW
unfolding going_letter
returns-then-m-eq-CW c = rw (← c.is_moving.ensures, c.if-is_moving.true, eq-eqb _ _ c.if-m-eq-CW.true)

pub returns-else-m-eq-CW : goal.returns-else-m-eq-CW
unfolding going_letter
returns-else-m-eq-CW c = rw (← c.is_moving.ensures, c.if-is_moving.true, ne_eqb _ _ c.if-m-eq-CW.false)

pub returns-else-is_moving : goal.returns-else-is_moving
unfolding going_letter
returns-else-is_moving c = rw (← c.is_moving.ensures, c.if-is_moving.false)
