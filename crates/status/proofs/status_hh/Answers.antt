-- `status::status_hh` meets its contract. Assumes nothing.
use Rattle.status.specs.Status.{status_hh}
use Rattle.status.proofs.status_hh.Goals as goal

pub returns-then-is_moving : goal.returns-then-is_moving
unfolding status_hh
returns-then-is_moving c = rw (← c.is_moving.ensures, c.if-is_moving.true)

pub returns-then-is_busy : goal.returns-then-is_busy
unfolding status_hh
returns-then-is_busy c = rw (← c.is_moving.ensures, c.if-is_moving.false, ← c.is_busy.ensures, c.if-is_busy.true)

pub returns-else-is_busy : goal.returns-else-is_busy
unfolding status_hh
returns-else-is_busy c = rw (← c.is_moving.ensures, c.if-is_moving.false, ← c.is_busy.ensures, c.if-is_busy.false)
