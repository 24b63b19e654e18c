-- `text::decimal::digits_at` meets its contract. Assumes nothing.
use mathlib.Core.Path.{refl}
use Rattle.std.proofs.Common.{arith, sym, ◌∙◌}
use Rattle.text.proofs.TextLaws.{digits_more, digits_none, digits_past}
use Rattle.text.proofs.decimal.digits_at.Goals as goal

pub loop-i-preserved : goal.loop-i-preserved
loop-i-preserved c =
    (omega (arith, digits_more c.args.s.now c.loop-i.i (omega arith) (sym c.is_digit.ensures ∙ c.if-not-is_digit.false)), refl)

pub returns-then-not-is_digit : goal.returns-then-not-is_digit
returns-then-not-is_digit c =
    omega (arith, digits_none c.args.s.now c.loop-i.i (omega arith) (sym c.is_digit.ensures ∙ c.if-not-is_digit.true))

pub returns : goal.returns
returns c = omega (arith, digits_past c.args.s.now c.loop-i.i (omega arith))
