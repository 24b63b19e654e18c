-- `text::decimal::digit_count` meets its contract. Assumes nothing.
use lib.Dec.{leb}
use borrow.Author.Tests.{le-leb}
use native.Mathlib.Omega.{arith}
use mathlib.Core.Path.{◌≡◌, refl, sym, ◌∙◌}
use mathlib.Core.Bool.{true}
use Prim.Native.Nat.{suc, ◌+◌, ◌-◌, ◌^◌, ◌<◌}
use native.Mathlib.Nat.{pow-succ'}
use native.Mathlib.Numerals.{add-one}
use Rattle.text.specs.Text.{powers_up_to, digit_count}
use Rattle.text.proofs.TextLaws.{powers_more, powers_end}
use Rattle.text.proofs.decimal.digit_count.Goals as goal

pub loop-k-init : goal.loop-k-init
unfolding powers_up_to
loop-k-init c = (refl, refl)

pub returns-then-wide-power : goal.returns-then-wide-power
unfolding digit_count
returns-then-wide-power c =
    let l = c.loop-k in
    let n = c.args.n in
    let e : suc (l.k - 1) ≡ l.k = omega arith in
    let below : n < 10 ^ suc (l.k - 1) = rw (e, ← l.invariant.0) c.if-wide-power.true in
    let all : l.k - 1 + (9 - (l.k - 1)) ≡ 9 = omega arith in
    let end : powers_up_to 9 n ≡ powers_up_to (l.k - 1) n = rw all at (powers_end (l.k - 1) (9 - (l.k - 1)) n below) in
    rw (end, l.invariant.1) (omega arith)

pub loop-k-preserved : goal.loop-k-preserved
loop-k-preserved c =
    let l = c.loop-k in
    let n = c.args.n in
    let e : suc (l.k - 1) ≡ l.k = omega arith in
    let f : l.k + 1 - 1 ≡ l.k - 1 + 1 = omega arith in
    let above : leb (10 ^ suc (l.k - 1)) n ≡ true = le-leb (10 ^ suc (l.k - 1)) n (rw (e, ← l.invariant.0) c.if-wide-power.false) in
    (rw (add-one l.k) (omega (arith, pow-succ' 10 l.k)), rw f (sym (powers_more (l.k - 1) n) ∙ rw (above, l.invariant.1)))

pub returns : goal.returns
unfolding digit_count
returns c =
    let l = c.loop-k in
    let e : l.k - 1 ≡ 9 = omega arith in
    rw (rw e at l.invariant.1)
