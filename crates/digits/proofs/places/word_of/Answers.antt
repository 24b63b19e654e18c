-- `digits::places::word_of` meets its contract. Assumes nothing.
use Rattle.std.proofs.Common.{refl}
use Rattle.digits.specs.Places.{word_of}
use Rattle.digits.proofs.places.word_of.Goals as goal

pub returns : goal.returns
unfolding word_of
returns c = refl
