-- `digits::is_set` meets its contract. Assumes nothing.
use Rattle.std.proofs.Common.{◌≡◌, ℕ, ◌^◌, ◌<◌, ◌≤◌, false, lt_of_lt_of_le, arith, pow_mono, le-ltb}
use native.Mathlib.Nat.{div-eq_of_lt}
use Rattle.digits.specs.Words.{is_set}
use Rattle.digits.proofs.is_set.Goals as goal

-- a byte has no bit past the seventh
no_bit : (k n : ℕ) → 8 ≤ k → n < 256 → false ≡ is_set k n
no_bit k n h l = rw (div-eq_of_lt {n = n} {m = 2 ^ k} (lt_of_lt_of_le l (pow_mono h)))

pub returns-else-k-lt8 : goal.returns-else-k-lt8
returns-else-k-lt8 c = let past : 8 ≤ c.args.k = omega arith in rw (le-ltb c.args.k 8 past) (no_bit c.args.k c.args.n past (omega arith))
