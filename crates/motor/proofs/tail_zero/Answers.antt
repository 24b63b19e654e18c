-- `motor::tail_zero` meets its contract. Assumes nothing.
use Rattle.std.proofs.Common.{ne_eqb, eq-eqb}
use Rattle.digits.specs.Bytes.{part}
use Rattle.digits.proofs.WordLaws.{zero_part, word_zero}
use Rattle.motor.proofs.tail_zero.Goals as goal

pub returns-then-read_at-eq0 : goal.returns-then-read_at-eq0
returns-then-read_at-eq0 c =
    let b = c.args.b.now in
    rw (zero_part b 48 8 8, ← word_zero (part b 56 8), ← c.read_at.ensures, eq-eqb _ _ c.if-read_at-eq0.true, c.read_at-then-read_at-eq0.ensures)

pub returns-else-read_at-eq0 : goal.returns-else-read_at-eq0
returns-else-read_at-eq0 c = let b = c.args.b.now in rw (zero_part b 48 8 8, ← c.read_at.ensures, ne_eqb _ _ c.if-read_at-eq0.false)
