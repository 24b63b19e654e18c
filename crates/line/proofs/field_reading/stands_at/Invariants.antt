-- `line::field_reading::stands_at` meets its contract. The invariant: so many letters stand. Assumes nothing.
use Rattle.std.proofs.Common.{◌≡◌, ◌<◌, ◌≤◌, ◌+◌, ℕ, length}
use lib.ListN.{get_or}
use Rattle.line.proofs.field_reading.stands_at.Given as goal

abbrev pub invariant-loop-k : goal.invariant-loop-k
invariant-loop-k l = (l.at + l.k ≤ length l.s) × ((j : ℕ) → j < l.k → get_or l.s (l.at + j) 0 ≡ get_or l.text j 0)
