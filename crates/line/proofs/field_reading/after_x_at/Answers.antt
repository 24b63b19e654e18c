-- `line::field_reading::after_x_at` meets its contract. Assumes nothing.
use Rattle.std.proofs.Common.{◌+◌, sym, ◌∙◌}
use mathlib.Core.Path.{ap}
use Rattle.line.proofs.ReadLaws.{last_field, question_read, some_if, none_if}
use Rattle.line.specs.Shapes.{four_of, read_four, read_fields}
use Rattle.line.proofs.field_reading.after_x_at.Goals as goal

pub returns-in-OnlyX : goal.returns-in-OnlyX
unfolding read_fields
returns-in-OnlyX c = rw c.in-OnlyX.is

pub returns-in-XSigned : goal.returns-in-XSigned
unfolding read_fields
returns-in-XSigned c = rw (c.in-XSigned.is, c.with_number.ensures, c.signed_at.ensures c.args.f) (last_field _)

pub returns-in-XNumber : goal.returns-in-XNumber
unfolding read_fields
returns-in-XNumber c = rw (c.in-XNumber.is, c.with_number-in-XNumber.ensures, c.number_from.ensures c.args.f) (last_field _)

pub returns-in_err-first-in-XDigits : goal.returns-in_err-first-in-XDigits
unfolding read_fields read_four
returns-in_err-first-in-XDigits c =
    let a = c.args in
    let few = none_if _ (four_of a.s.now a.at, a.at + 4) (sym c.four_at.ensures ∙ c.in_err-first-in-XDigits.was) in
    rw (c.from_residual-in_err-first-in-XDigits.ensures, c.in-XDigits.is, few)

pub returns-in_ok-first-in-XDigits : goal.returns-in_ok-first-in-XDigits
unfolding read_fields read_four
returns-in_ok-first-in-XDigits c =
    let a = c.args in
    let r = c.in_ok-first-in-XDigits in
    let one = some_if _ (four_of a.s.now a.at, a.at + 4) (r.first, r.end) (sym c.four_at.ensures ∙ r.was) in
    rw (c.in-XDigits.is, ← ap (λ p. p.0) one.1, ← ap (λ p. p.1) one.1, one.0)

pub returns-in-XQuestion : goal.returns-in-XQuestion
unfolding read_fields
returns-in-XQuestion c = rw (c.in-XQuestion.is, c.text_at.ensures, question_read c.args.f c.args.s.now c.args.at) (last_field _)
