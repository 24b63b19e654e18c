-- To compute the table of forms down to numbers, a statement says `unfolding computing_form`: it opens every definition that is
-- otherwise shut. It says nothing itself.
use Rattle.line.specs.Computing.{computing_line}
use Rattle.form.specs.Table.{packed, rows_with, is_word, repeated, rows_by, row_count}

unfoldable pub computing_form : Unit {0}
unfolding computing_line packed rows_with is_word repeated rows_by row_count
computing_form = tt
