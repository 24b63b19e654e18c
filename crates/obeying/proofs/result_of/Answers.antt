-- `obeying::result_of` meets its contract. Assumes nothing.
use native.Mathlib.Omega.{arith}
use Rattle.drive.proofs.NumberLaws.{numbered}
use Rattle.obeying.proofs.result_of.Goals as goal

pub overflow_add-result : goal.overflow_add-result
overflow_add-result c = omega (arith, c.number_of.ensures, (numbered c.args.v).small)
