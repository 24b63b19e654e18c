-- `table::fresh_records` meets its contract: after c turns the first c records are fresh, and every other byte is as it was.
-- Assumes nothing.
use mathlib.Core.Path.{◌≡◌}
use Rattle.table.proofs.LoopLaws.{fresh_to}
use Rattle.table.proofs.fresh_records.Given as goal

abbrev pub invariant-loop-c : goal.invariant-loop-c
invariant-loop-c l = (l.t ≡ fresh_to l.initial.t l.c)
