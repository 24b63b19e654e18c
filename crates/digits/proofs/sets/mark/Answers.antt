-- `digits::sets::mark` meets its contract. Assumes nothing.
use Rattle.std.proofs.Common.{◌≡◌, ℕ, ◌*◌, ◌%◌, ◌^◌, ◌≤◌, arith, pow_mono}
use Rattle.digits.proofs.SetLaws.{bit_in, bit_out}
use Rattle.digits.proofs.sets.mark.Goals as goal

-- A bit of sixteen is not lost where it is made.
whole : (k : ℕ) → k ≤ 15 → 1 * 2 ^ k % 65536 ≡ 2 ^ k
whole k h = let below : 2 ^ k ≤ 2 ^ 15 = pow_mono h in omega (arith, below)

pub returns-then-on : goal.returns-then-on
returns-then-on c = rw (whole c.args.k c.requires, c.if-on.true) (bit_in c.args.set c.args.k)

pub returns-else-on : goal.returns-else-on
returns-else-on c = rw (whole c.args.k c.requires, c.if-on.false) (bit_out c.args.set c.args.k)
