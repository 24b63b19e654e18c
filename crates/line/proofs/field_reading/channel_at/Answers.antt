-- `line::field_reading::channel_at` meets its contract. Assumes nothing.
use Rattle.std.proofs.Common.{rules, ◌≡◌, ◌≤◌, length}
use Rattle.line.proofs.ReadLaws.{byte_past}
use Rattle.line.specs.Shapes.{byte_at, read_channel}
use Rattle.line.proofs.field_reading.channel_at.Goals as goal

pub returns-in_err-b : goal.returns-in_err-b
unfolding read_channel
returns-in_err-b c = λ f.
    let a = c.args in
    let past : length a.s.now ≤ a.at = search rules in
    rw (c.from_residual.ensures, byte_past a.s.now a.at past)

pub returns-then-is_hex : goal.returns-then-is_hex
unfolding read_channel
returns-then-is_hex c = λ f.
    let a = c.args in
    let b : byte_at a.s.now a.at ≡ c.in_ok-b.field-0.now = search rules in
    rw (b, ← c.is_hex.ensures, c.if-is_hex.true, c.hex_value.ensures)

pub returns-else-is_hex : goal.returns-else-is_hex
unfolding read_channel
returns-else-is_hex c = λ f.
    let a = c.args in
    let b : byte_at a.s.now a.at ≡ c.in_ok-b.field-0.now = search rules in
    rw (b, ← c.is_hex.ensures, c.if-is_hex.false)
