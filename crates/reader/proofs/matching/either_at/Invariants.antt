-- `reader::matching::either_at` meets its contract. The invariant: the forms that were tried make nothing. Assumes nothing.
use Rattle.std.proofs.Common.{◌≡◌, ◌<◌, true, false, None}
use Rattle.reader.specs.Finding.{case_at}
use Rattle.reader.proofs.matching.either_at.Given as goal

abbrev pub invariant-loop-second : goal.invariant-loop-second
invariant-loop-second l = (0 < l.second-index → case_at false l.letters l.s l.at ≡ None) × (1 < l.second-index → case_at true l.letters l.s l.at ≡ None)
