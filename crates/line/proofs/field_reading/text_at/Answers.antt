-- `line::field_reading::text_at` meets its contract. Assumes nothing.
use Rattle.std.proofs.Common.{arith, sym, ◌∙◌}
use Rattle.line.proofs.ReadLaws.{text_within}
use Rattle.line.proofs.field_reading.text_at.Goals as goal

pub overflow_add-result : goal.overflow_add-result
overflow_add-result c = omega (arith, text_within c.args.s.now c.args.text.now c.args.at c.requires (sym c.stands_at.ensures ∙ c.if-stands_at.true))
