-- `record::write_progress` meets its contract. Assumes nothing.
use borrow.Author.Tests.{eq-eqb, ne_eqb}
use Rattle.record.specs.Progress.{progressed}
use Rattle.record.proofs.write_progress.Goals as goal

pub returns-then-m-eq0 : goal.returns-then-m-eq0
unfolding progressed
returns-then-m-eq0 c =
    rw (c.write_drive.ensures, c.no_drive.ensures, c.put_place.ensures, eq-eqb _ 0 c.if-m-eq0.true)

pub returns-else-m-eq0 : goal.returns-else-m-eq0
unfolding progressed
returns-else-m-eq0 c =
    rw (c.put_at.ensures, c.put_place.ensures, ne_eqb _ 0 c.if-m-eq0.false)
