-- `text::decimal::write_digits` meets its contract. Assumes nothing.
use native.Mathlib.Omega.{arith}
use mathlib.Core.Path.{◌≡◌, refl, sym}
use native.Mathlib.Nat.{div-one}
use Prim.Native.Nat.{suc, ◌-◌}
use lib.ListN.{length-set}
use Rattle.text.specs.Text.{last_digits}
use Rattle.digits.proofs.PutLaws.{put_none}
use Rattle.text.proofs.TextLaws.{quotient_more, written_more}
use Rattle.text.proofs.decimal.write_digits.Goals as goal

pub loop-i-init : goal.loop-i-init
unfolding last_digits
loop-i-init c =
    let e : c.args.k - c.args.k ≡ 0 = omega arith in
    (refl, rw (e, div-one), rw e (sym (put_none _ _)))

pub loop-i-preserved : goal.loop-i-preserved
loop-i-preserved c =
    let l = c.loop-i in
    let a = c.args in
    let e : a.k - (l.i - 1) ≡ suc (a.k - l.i) = omega arith in (
      simp length-set l.invariant.0,
      rw (e, l.invariant.1) (quotient_more a.n (a.k - l.i)),
      rw (c.digit_byte.ensures, l.invariant.1, l.invariant.2)
          (written_more a.out.now a.k l.i a.n (omega arith) (omega arith) (omega arith)),
    )
