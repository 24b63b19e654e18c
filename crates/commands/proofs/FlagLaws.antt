-- The four error flags as bits. Assumes nothing.
use mathlib.Core.Path.{◌≡◌, refl, sym, ◌∙◌}
use mathlib.Core.Bool.{Bool, true, false, false≢true}
use Prim.Native.Nat.{ℕ, ◌^◌, ◌≤◌}
use native.Mathlib.Nat.{div-eq_of_lt, pow-le-pow_right}
use native.Mathlib.Omega.{arith}
use lib.Dec.{leb}
use borrow.Author.Tests.{leb-true, leb-false}
use Rattle.digits.specs.Words.{is_set}

-- None of them is worth more than 8.
pub flag_worth : (k : ℕ) → k ≤ 3 → 2 ^ k ≤ 8
flag_worth k h = pow-le-pow_right {n = 2} (omega arith) {i = k} {j = 3} h

-- A number is at least what a set bit is worth.
pub set_within : (k n : ℕ) → is_set k n ≡ true → 2 ^ k ≤ n
set_within k n h = go (leb (2 ^ k) n) refl
  where
    go : (t : Bool) → leb (2 ^ k) n ≡ t → 2 ^ k ≤ n
    go true e = leb-true (2 ^ k) n e
    go false e =
        let clear : is_set k n ≡ false = rw (div-eq_of_lt {n = n} {m = 2 ^ k} (leb-false (2 ^ k) n e)) in
        absurd (false≢true (sym clear ∙ h))
