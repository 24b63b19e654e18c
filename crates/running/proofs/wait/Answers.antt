-- `running::wait` meets its contract. Assumes nothing.
use Rattle.std.proofs.Common.{◌≡◌, ◌+◌, ◌*◌, refl, ap, arith, replicate}
use Rattle.urqolina.specs.Calls.{tick_call}
use Rattle.jobs.specs.Bounds.{most_count}
use Rattle.jobs.specs.Texts.{nets_after}
use Rattle.jobs.proofs.NetLaws.{none_within, within_more, nets_within}
use Rattle.running.specs.Running.{waited}
use Rattle.running.proofs.RunLaws.{waited_more}
use Rattle.running.proofs.TickBounds.{tick_within}
use Rattle.running.proofs.wait.Goals as goal

pub loop-init : goal.loop-init
unfolding waited
loop-init c = (rw c.requires.1 (none_within 16 _), refl)

pub loop-preserved : goal.loop-preserved
loop-preserved c =
    let l = c.loop in
    let pulses = (tick_call l.table (replicate 64 0)).pulses in
    let counted : c.tick_once-result.new.nets ≡ nets_after l.nets pulses = ap (λ r. r.nets) c.tick_once-result.ensures in
    let near = nets_within l.nets pulses (most_count * l.counter) most_count l.invariant.0 (tick_within l.table) (omega arith) in (
      rw counted (within_more (nets_after l.nets pulses) (most_count * l.counter + most_count) (most_count * (l.counter + 1)) (omega arith) near),
      rw (waited_more, ← l.invariant.1) c.tick_once-result.ensures,
    )
