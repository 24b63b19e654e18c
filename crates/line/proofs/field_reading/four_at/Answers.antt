-- `line::field_reading::four_at` meets its contract. Assumes nothing.
use Rattle.std.proofs.Common.{arith}
use Rattle.line.proofs.ReadLaws.{four_there}
use Rattle.line.proofs.field_reading.four_at.Goals as goal

pub four_digits-requires : goal.four_digits-requires
four_digits-requires c = four_there c.args.s.now c.args.at (omega (arith, c.digits_at.ensures))

pub overflow_add-result : goal.overflow_add-result
overflow_add-result c = omega (arith, four_there c.args.s.now c.args.at (omega (arith, c.digits_at.ensures)))
