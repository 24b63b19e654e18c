-- To compute words and places down to numbers and bytes, a statement says `unfolding computing_digits`: it opens every
-- definition that is otherwise shut. It says nothing itself.
use Rattle.std.specs.Int.Count.{ones_in}
use Rattle.digits.specs.Bytes.{part, put, joined, pieces, every, gather, all_zero}
use Rattle.digits.specs.Words.{word, word_bytes, with_bit, without_bit, bits_of, how_many}
use Rattle.digits.specs.Places.{place_of, word_of, count_of}

unfoldable pub computing_digits : Unit {0}
unfolding part put joined pieces every gather all_zero word word_bytes with_bit without_bit bits_of how_many ones_in place_of word_of count_of
computing_digits = tt
