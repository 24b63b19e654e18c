-- `table::fresh_records` meets its contract: after c turns the first c records are fresh, and every other byte is as it was.
-- Assumes nothing.
use mathlib.Core.Path.{◌≡◌, sym}
use native.Mathlib.Omega.{arith}
use borrow.Author.Rules.{rules}
use Rattle.table.proofs.LoopLaws.{fresh_to, fresh_none, fresh_next}
use Rattle.table.proofs.fresh_records.Goals as goal

pub loop-c-init : goal.loop-c-init
loop-c-init c = sym (fresh_none c.args.t.now)

pub loop-c-preserved : goal.loop-c-preserved
loop-c-preserved c =
    rw (c.write_record.ensures, c.fresh_motor-m.ensures, c.loop-c.invariant) (fresh_next c.args.t.now c.loop-c.c (search rules) (omega arith))

pub returns : goal.returns
unfolding fresh_to
returns c = let e : c.loop-c.c ≡ 16 = omega arith in rw (c.loop-c.invariant, e)
