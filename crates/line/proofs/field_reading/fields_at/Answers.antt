-- `line::field_reading::fields_at` meets its contract. Assumes nothing.
use Rattle.std.proofs.Common.{arith, rules, ◌≡◌, Some, None}
use Prim.Native.Char.{code}
use Rattle.line.specs.Shapes.{no_fields, read_fields}
use Rattle.line.proofs.ReadLaws.{last_field, letters_read, three_read}
use Rattle.line.proofs.field_reading.fields_at.Goals as goal

pub returns-in_err-tail : goal.returns-in_err-tail
unfolding read_fields
returns-in_err-tail c =
    let none : c.from_residual.result ≡ None = search rules in
    let absent : c.args.tail ≡ None = search rules in
    rw (none, absent)

pub returns-in-Alone : goal.returns-in-Alone
unfolding read_fields
returns-in-Alone c =
    let tail : c.args.tail ≡ Some c.in_ok-tail.field-0 = search rules in
    rw (tail, c.in-Alone.is, c.channel_alone-f.ensures)

pub returns-in_err-channel-in-AtX : goal.returns-in_err-channel-in-AtX
unfolding read_fields
returns-in_err-channel-in-AtX c =
    let tail : c.args.tail ≡ Some c.in_ok-tail.field-0 = search rules in
    let absent : c.channel_at.result ≡ None = c.in_err-channel-in-AtX.was in
    rw (c.from_residual-in_err-channel-in-AtX.ensures, tail, c.in-AtX.is, ← c.channel_at.ensures no_fields, absent)

pub returns-in_ok-channel-in-AtX : goal.returns-in_ok-channel-in-AtX
unfolding read_fields
returns-in_ok-channel-in-AtX c =
    let tail : c.args.tail ≡ Some c.in_ok-tail.field-0 = search rules in
    let x = c.in_ok-channel-in-AtX in
    let there : c.channel_at.result ≡ Some (x.channel, x.end) = x.was in
    rw (tail, c.in-AtX.is, c.after_x_at.ensures, c.channel_alone.ensures, ← c.channel_at.ensures no_fields, there)

pub returns-in-OneDigit : goal.returns-in-OneDigit
unfolding read_fields
returns-in-OneDigit c =
    let tail : c.args.tail ≡ Some c.in_ok-tail.field-0 = search rules in
    rw (tail, c.in-OneDigit.is, c.with_number.ensures, c.channel_alone-f.ensures, c.digit_at.ensures no_fields) (last_field _)

pub returns-in-Enabling : goal.returns-in-Enabling
unfolding read_fields
returns-in-Enabling c =
    let tail : c.args.tail ≡ Some c.in_ok-tail.field-0 = search rules in
    rw (tail, c.in-Enabling.is, c.text_at.ensures, c.channel_alone-f.ensures, letters_read (code "E") (code "N") no_fields c.args.s.now c.args.at (omega arith) (omega arith)) (last_field _)

pub returns-in-Disabling : goal.returns-in-Disabling
unfolding read_fields
returns-in-Disabling c =
    let tail : c.args.tail ≡ Some c.in_ok-tail.field-0 = search rules in
    rw (tail, c.in-Disabling.is, c.text_at-in-Disabling.ensures, c.channel_alone-f.ensures, letters_read (code "D") (code "S") no_fields c.args.s.now c.args.at (omega arith) (omega arith)) (last_field _)

pub returns-in-TurnOn : goal.returns-in-TurnOn
unfolding read_fields
returns-in-TurnOn c =
    let tail : c.args.tail ≡ Some c.in_ok-tail.field-0 = search rules in
    rw (tail, c.in-TurnOn.is, c.text_at-in-TurnOn.ensures, c.channel_alone-f.ensures, letters_read (code "O") (code "N") no_fields c.args.s.now c.args.at (omega arith) (omega arith)) (last_field _)

pub returns-in-TurnOff : goal.returns-in-TurnOff
unfolding read_fields
returns-in-TurnOff c =
    let tail : c.args.tail ≡ Some c.in_ok-tail.field-0 = search rules in
    rw (tail, c.in-TurnOff.is, c.text_at-in-TurnOff.ensures, c.channel_alone-f.ensures, three_read (code "O") (code "F") (code "F") no_fields c.args.s.now c.args.at (omega arith) (omega arith) (omega arith)) (last_field _)
