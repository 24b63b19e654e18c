-- `line::field_reading::hex_value` meets its contract. Assumes nothing.
use Rattle.text.specs.Text.{hex_value}
use Rattle.line.proofs.field_reading.hex_value.Goals as goal

pub returns-then-is_digit : goal.returns-then-is_digit
unfolding hex_value
returns-then-is_digit c = rw (← c.is_digit.ensures, c.if-is_digit.true, c.saturating_sub.ensures)

pub returns-else-is_digit : goal.returns-else-is_digit
unfolding hex_value
returns-else-is_digit c = rw (← c.is_digit.ensures, c.if-is_digit.false, c.saturating_sub-else-is_digit.ensures)
