-- `table::sound_count` meets its contract: every turn finds one more record sound and told by the set, or ends with one that is not.
-- Assumes nothing.
use mathlib.Core.Path.{◌≡◌, sym, ◌∙◌}
use mathlib.Core.Bool.{false}
use Prim.Native.Nat.{◌+◌, ◌-◌}
use native.Mathlib.Nat.{div-one}
use native.Mathlib.Omega.{arith}
use borrow.Author.Tests.{ne_eqb}
use Rattle.digits.proofs.SetLaws.{one_less}
use Rattle.table.proofs.LoopLaws.{right_to, right_none, right_next, right_fails, right_all}
use Rattle.table.proofs.sound_count.Goals as goal

pub loop-judged-init : goal.loop-judged-init
loop-judged-init c = let a = c.args in (right_none a.paused a.set a.t.now, sym (div-one a.set))

pub loop-judged-preserved : goal.loop-judged-preserved
loop-judged-preserved c =
    let a = c.args in
    let k = c.loop-judged.judged in
    (rw (right_next a.paused a.set a.t.now k, c.loop-judged.invariant.0, ← c.loop-judged.invariant.1, ← c.sound_at.ensures) c.if-not-sound_at.false, rw c.loop-judged.invariant.1 (one_less a.set k))

pub returns-then-not-sound_at : goal.returns-then-not-sound_at
returns-then-not-sound_at c =
    let a = c.args in
    let k = c.loop-judged.judged in
    let after : right_to a.paused a.set a.t.now (k + 1) ≡ false =
    rw (right_next a.paused a.set a.t.now k, c.loop-judged.invariant.0, ← c.loop-judged.invariant.1, ← c.sound_at.ensures) c.if-not-sound_at.true in
    let all : k + 1 + (15 - k) ≡ 16 = omega arith in
    rw (ne_eqb k 16 (λ e. omega arith)) (sym (rw (all) at (right_fails a.paused a.set a.t.now (k + 1) (15 - k) after)) ∙ right_all a.paused a.set a.t.now (omega arith))

pub returns : goal.returns
returns c =
    let a = c.args in
    let e : c.loop-judged.judged ≡ 16 = omega arith in
    sym (rw e at c.loop-judged.invariant.0) ∙ right_all a.paused a.set a.t.now (omega arith)
