-- To compute what a double is, a statement says `unfolding computing_doubles`: it opens every definition that is otherwise
-- shut. It says nothing itself.
use Rattle.std.specs.Int.Count.{count_trailing_zeros}
use Rattle.std.specs.Float.Ieee.{odd, of_fields, of_bits}
use Rattle.doubles.specs.Doubles.{is_whole, size_of, is_minus}
use Rattle.doubles.specs.Measures.{measure_of}

unfoldable pub computing_doubles : Unit {0}
unfolding count_trailing_zeros odd of_fields of_bits is_whole size_of is_minus measure_of
computing_doubles = tt
