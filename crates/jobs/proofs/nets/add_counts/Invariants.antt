-- `jobs::nets::add_counts` meets its contract. Assumes nothing.
use Rattle.std.proofs.Common.{◌≡◌}
use Rattle.jobs.proofs.NetLaws.{nets_up_to}
use Rattle.jobs.proofs.nets.add_counts.Given as goal

abbrev pub invariant-loop-c : goal.invariant-loop-c
invariant-loop-c l = l.nets ≡ nets_up_to l.c l.initial.nets l.pulses
