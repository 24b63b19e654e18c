-- `digits::places::count_of` meets its contract. Assumes nothing.
use Rattle.std.proofs.Common.{◌≡◌, ℕ, ◌+◌, ◌-◌, ◌%◌, ◌^◌, ◌<◌, arith, eq-eqb, ne_eqb}
use Rattle.digits.specs.Places.{count_of}
use Rattle.digits.proofs.places.count_of.Goals as goal

-- what makes n whole again, modulo 2 ^ 32, is the word of less n
less_word : (r n : ℕ) → (r + n) % 2 ^ 32 ≡ 0 → r < 2 ^ 32 → n < 2 ^ 32 → r ≡ (4294967296 - n) % 4294967296
less_word r n e hr hn = omega arith

pub returns-then-going-eq-CW : goal.returns-then-going-eq-CW
unfolding count_of
returns-then-going-eq-CW c = rw (eq-eqb _ _ c.if-going-eq-CW.true)

pub returns-else-going-eq-CW : goal.returns-else-going-eq-CW
unfolding count_of
returns-else-going-eq-CW c =
    rw (ne_eqb _ _ c.if-going-eq-CW.false) (less_word c.wrapping_neg.result c.args.n c.wrapping_neg.ensures (omega arith) (omega arith))
