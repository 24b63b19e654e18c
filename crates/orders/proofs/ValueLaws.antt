-- What a value in its range is bounded by. Assumes nothing.
use mathlib.Core.Path.{◌≡◌}
use mathlib.Core.Bool.{true, ◌&&◌}
use Prim.Native.Nat.{◌≤◌}
use borrow.Author.Tests.{leb-true}
use Rattle.motor.proofs.SoundLaws.{and_l, and_r}
use lib.Dec.{leb}
use Rattle.line.specs.declared.Written.{Written}
use Rattle.line.specs.declared.Four.{Four}
use Rattle.orders.specs.Values.{signed_in_range, binary_digits}

pub signed_bound : (w : Written) → signed_in_range w ≡ true → w.digits ≤ 2147483647
signed_bound w e = leb-true w.digits 2147483647 e

-- four digits of which each is 0 or 1
pub record Binary (q : Four) : Type 0 where
  pub a : q.a ≤ 1
  pub b : q.b ≤ 1
  pub c : q.c ≤ 1
  pub d : q.d ≤ 1

pub binary_bound : (q : Four) → binary_digits q ≡ true → Binary q
binary_bound q e =
    let a = leb q.a 1 in
    let b = leb q.b 1 in
    let c = leb q.c 1 in
    let abc = and_l (a && b && c) (leb q.d 1) e in
    let ab = and_l (a && b) c abc in
    record {
      a = leb-true q.a 1 (and_l a b ab);
      b = leb-true q.b 1 (and_r a b ab);
      c = leb-true q.c 1 (and_r (a && b) c abc);
      d = leb-true q.d 1 (and_r (a && b && c) (leb q.d 1) e);
    }
