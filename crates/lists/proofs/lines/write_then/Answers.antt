-- `lists::lines::write_then` meets its contract. Assumes nothing.
use native.Mathlib.Omega.{arith}
use Rattle.lists.proofs.OutLaws.{wrote_byte, plain_within}
use Rattle.lists.proofs.lines.write_then.Goals as goal

pub returns : goal.returns
returns c =
    let n = c.write_decimal-k in
    wrote_byte _ n.ensures n.auto.out (omega (arith, n.auto.out, n.ensures.count, plain_within c.args.n))
