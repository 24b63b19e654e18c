-- `jobs::holding::Line::keep` meets its contract. Assumes nothing.
use Rattle.jobs.proofs.HoldLaws.{kept_stored, kept_left, wrote_take, zeros_left}
use Rattle.std.proofs.Common.{arith, length-set}
use Rattle.jobs.proofs.holding.Line.keep.Goals as goal

pub returns-then-self-lt-HELD : goal.returns-then-self-lt-HELD
returns-then-self-lt-HELD c =
    let l = c.self.inside in
    rw (← c.self.view_is) (wrote_take _ _ _ _ (kept_stored l.bytes l.held c.args.b (omega arith) c.if-self-lt-HELD.true))

pub returns-else-self-lt-HELD : goal.returns-else-self-lt-HELD
returns-else-self-lt-HELD c =
    let l = c.self.inside in
    rw (← c.self.view_is) (wrote_take _ _ _ _ (kept_left l.bytes l.held c.args.b (omega arith) c.self.invariant.0 c.if-self-lt-HELD.false))

pub invariant_of-self : goal.invariant_of-self
invariant_of-self c =
    let l = c.self.inside in
    (omega (arith, c.if-self-lt-HELD.true), rw length-set c.self.invariant.1, zeros_left l.bytes l.held c.args.b c.if-self-lt-HELD.true c.self.invariant.2)
