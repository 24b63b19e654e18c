-- `digits::sets::count` meets its contract. Assumes nothing.
use Rattle.std.proofs.Common.{arith}
use Rattle.digits.proofs.CountLaws.{ones_in_law}
use Rattle.digits.proofs.sets.count.Goals as goal

pub returns : goal.returns
returns c = ones_in_law 16 c.args.set (omega arith)
