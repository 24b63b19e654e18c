-- `line::field_reading::digit_at` meets its contract. Assumes nothing.
use Rattle.std.proofs.Common.{rules, ◌≡◌, ◌≤◌, length}
use Rattle.line.proofs.ReadLaws.{byte_past}
use Rattle.line.specs.Shapes.{byte_at, read_digit}
use Rattle.line.proofs.field_reading.digit_at.Goals as goal

pub returns-in_err-b : goal.returns-in_err-b
unfolding read_digit
returns-in_err-b c = λ f.
    let a = c.args in
    let past : length a.s.now ≤ a.at = search rules in
    rw (c.from_residual.ensures, byte_past a.s.now a.at past)

pub returns-then-is_digit : goal.returns-then-is_digit
unfolding read_digit
returns-then-is_digit c = λ f.
    let a = c.args in
    let b : byte_at a.s.now a.at ≡ c.in_ok-b.field-0.now = search rules in
    rw (b, ← c.is_digit.ensures, c.if-is_digit.true, c.digit_value.ensures)

pub returns-else-is_digit : goal.returns-else-is_digit
unfolding read_digit
returns-else-is_digit c = λ f.
    let a = c.args in
    let b : byte_at a.s.now a.at ≡ c.in_ok-b.field-0.now = search rules in
    rw (b, ← c.is_digit.ensures, c.if-is_digit.false)
