-- `lists::listing::write_list` meets its contract. Assumes nothing.
use mathlib.Core.Path.{sym, ◌∙◌}
use Prim.Native.Nat.{◌+◌, ◌-◌}
use native.Mathlib.Omega.{arith}
use lib.ListN.{length-take, length-drop}
use Rattle.text.specs.Text.{bytes}
use Rattle.lists.proofs.ListLaws.{begin, next, finish_step, finish_last, whole_total, beyond_near}
use Rattle.lists.proofs.listing.write_list.Goals as goal

pub loop-init : goal.loop-init
unfolding bytes
loop-init c = begin _ _ _ _ c.write_text-n.ensures c.requires

pub take_step-turn-requires : goal.take_step-turn-requires
take_step-turn-requires c =
    let g = c.loop.invariant in
    (simp (length-take, length-drop) (omega (arith, g.room, c.loop.auto.out, c.write_text-n.auto.out)), omega (arith, g.close), whole_total g.sum)

pub returns-in_default : goal.returns-in_default
returns-in_default c =
    let t = c.take_step-turn in
    finish_step (10000 - (c.loop.counter + 1)) c.loop.invariant (c.loop.auto.out ∙ c.write_text-n.auto.out) (omega arith) (sym t.ensures.onward ∙ c.in_default.is) t.ensures.wrote t.auto.out

pub loop-preserved : goal.loop-preserved
loop-preserved c =
    let t = c.take_step-turn in
    next (10000 - (c.loop.counter + 1)) c.loop.invariant (c.loop.auto.out ∙ c.write_text-n.auto.out) (omega arith) (sym t.ensures.onward ∙ c.in-Some.is) t.ensures.wrote t.auto.out

pub write_last-requires : goal.write_last-requires
write_last-requires c =
    let g = c.loop.invariant in
    (simp (length-take, length-drop) (omega (arith, g.room, c.loop.auto.out, c.write_text-n.auto.out)), rw c.beyond_at.ensures (omega (arith, g.close, beyond_near c.args.list.now c.loop.reached.at)), whole_total g.sum)

pub returns : goal.returns
returns c =
    finish_last c.loop.invariant (c.loop.auto.out ∙ c.write_text-n.auto.out) (omega arith) (rw (← c.beyond_at.ensures) c.write_last.ensures) c.write_last.auto.out
