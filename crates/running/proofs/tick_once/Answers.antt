-- `running::tick_once` meets its contract. Assumes nothing.
use Rattle.std.proofs.Common.{◌≡◌, ap, replicate}
use Rattle.urqolina.specs.Calls.{tick_call}
use Rattle.running.proofs.TickBounds.{tick_within}
use Rattle.running.proofs.tick_once.Goals as goal

pub add_counts-requires : goal.add_counts-requires
add_counts-requires c =
    let a = c.args in
    let e : c.urqolina_tick-result.new.pulses ≡ (tick_call a.table.now (replicate 64 0)).pulses = ap (λ r. r.pulses) c.urqolina_tick-result.ensures in
    (c.requires, rw e (tick_within a.table.now))
