-- `running::wait` meets its contract. Assumes nothing.
use Rattle.std.proofs.Common.{◌≡◌, ◌*◌}
use Rattle.running.specs.Running.{waited}
use Rattle.jobs.specs.Bounds.{NetsWithin, most_count}
use Rattle.running.proofs.wait.Given as goal

abbrev pub invariant-loop : goal.invariant-loop
invariant-loop l = NetsWithin (most_count * l.counter) l.nets
    × (record { result = l.result; table = l.table; nets = l.nets } ≡ waited l.counter (record { result = 0; table = l.initial.table; nets = l.initial.nets }))
