-- `digits::places::place_of` meets its contract. Assumes nothing.
use Rattle.std.proofs.Common.{refl}
use Rattle.digits.specs.Places.{place_of}
use Rattle.digits.proofs.places.place_of.Goals as goal

pub returns : goal.returns
unfolding place_of
returns c = refl
