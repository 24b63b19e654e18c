-- `urqolina::ticking::put_ticked` meets its contract. Assumes nothing.
use mathlib.Core.Path.{◌≡◌, sym, ◌∙◌}
use mathlib.Core.Bool.{true}
use borrow.Author.Tests.{ne_eqb}
use Rattle.record.specs.Record.{record_of}
use Rattle.record.proofs.RoundTrip.{record_length}
use Rattle.motor.specs.Sound.{busy}
use Rattle.table.specs.Layout.{with_motor}
use Rattle.table.proofs.SealLaws.{marked_sealed}
use Rattle.table.proofs.KeptLaws.{motor_unmarked}
use Rattle.urqolina.proofs.ticking.put_ticked.Goals as goal

pub returns-then-m-eq0 : goal.returns-then-m-eq0
unfolding with_motor
returns-then-m-eq0 c =
    let m = c.args.m in
    rw (c.mark_at.ensures, c.put_progress.ensures, c.requires.motor_ticked.0)
    (marked_sealed c.args.t.now c.args.c (record_of m) c.told-t c.requires.whole.0 (record_length m) c.requires.whole.1)

pub returns-else-m-eq0 : goal.returns-else-m-eq0
returns-else-m-eq0 c =
    let m = c.args.m in
    let on : busy m ≡ true = rw (ne_eqb _ _ c.if-m-eq0.false) in
    rw (c.put_progress.ensures, c.requires.motor_ticked.0)
    (motor_unmarked c.args.t.now c.args.c m c.told-t c.requires.whole.0 c.requires.whole.1 c.requires.motor_ticked.1 (on ∙ sym c.requires.whole.2))
