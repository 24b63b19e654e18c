-- To compute numbers in digits down to bytes, a statement says `unfolding computing_text`: it opens every definition that is
-- otherwise shut. It says nothing itself.
use Rattle.digits.specs.Computing.{computing_digits}
use Rattle.text.specs.Text.{bytes, same, digits_at_front, value_from, hex_value, last_digits, powers_up_to, digit_count, decimal, signed_decimal, hex_digit, hex_byte, hex_word, number_at_front}

unfoldable pub computing_text : Unit {0}
unfolding computing_digits bytes same digits_at_front value_from hex_value last_digits powers_up_to digit_count decimal signed_decimal hex_digit hex_byte hex_word number_at_front
computing_text = tt
