use Rattle.std.proofs.Common.{◌≤◌, length}
use Rattle.scanlist.proofs.read_full.Given as goal

abbrev pub invariant-loop-from : goal.invariant-loop-from
invariant-loop-from g l = length l.left ≤ l.size

abbrev pub decreases-loop-from : goal.decreases-loop-from
decreases-loop-from g l = length l.left
