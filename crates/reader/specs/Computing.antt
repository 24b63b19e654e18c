-- To compute the word and the order of a line down to numbers, a statement says `unfolding computing_reader`: it opens every
-- definition that is otherwise shut. It says nothing itself.
use Rattle.form.specs.Computing.{computing_form}
use Rattle.reader.specs.Finding.{longest, letters_at_front, word_at, case_by, case_at, order_at}

unfoldable pub computing_reader : Unit {0}
unfolding computing_form longest letters_at_front word_at case_by case_at order_at
computing_reader = tt
