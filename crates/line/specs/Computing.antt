-- To compute lines and orders down to numbers and bytes, a statement says `unfolding computing_line`: it opens every
-- definition that is otherwise shut. It says nothing itself.
use Rattle.text.specs.Computing.{computing_text}
use Rattle.line.specs.Shapes.{read_channel, read_number, read_signed, read_digit, read_question, read_letters, read_three, read_four, read_zero_three, read_fields}
use Rattle.line.specs.Made.{order_made}
use Rattle.line.specs.Forms.{fields_as_row, as_row, forms, those, first_form, order_of, asks_on, has_form}

unfoldable pub computing_line : Unit {0}
unfolding computing_text read_channel read_number read_signed read_digit read_question read_letters read_three read_four read_zero_three read_fields fields_as_row as_row forms those first_form order_of asks_on has_form order_made
computing_line = tt
