-- `obeying::take_order` meets its contract. Assumes nothing.
use mathlib.Core.Path.{◌≡◌, sym, ◌∙◌}
use mathlib.Core.Bool.{false}
use lib.Dec.{eqb}
use Rattle.obeying.proofs.NumberLaws.{judged_value, formed_judged, formed_obeyed, formed_refused, cause_numbered}
use Rattle.drive.specs.Numbers.{number_of}
use Rattle.line.specs.Forms.{has_form}
use Rattle.table.specs.Layout.{head_of}
use Rattle.commands.specs.Judging.{judge}
use Rattle.obeying.proofs.take_order.Goals as goal

pub obey-requires : goal.obey-requires
unfolding number_of
obey-requires c =
    let none : number_of c.judge_order.result ≡ 0 = rw c.in-Ok.is in
    (c.requires.0, c.requires.1, c.requires.2, judged_value c.args.t.now c.args.o (formed_judged (has_form (head_of c.args.t.now).card c.args.o) (judge c.args.t.now c.args.o) (rw c.judge_order.ensures at none)).1)

pub returns-in-Ok : goal.returns-in-Ok
unfolding number_of
returns-in-Ok c =
    let a = c.args in
    let none : number_of c.judge_order.result ≡ 0 = rw c.in-Ok.is in
    sym (formed_obeyed a.t.now a.o a.reply.now (rw c.judge_order.ensures at none) ∙ sym c.obey.ensures)

pub returns-in-Err : goal.returns-in-Err
returns-in-Err c =
    let a = c.args in
    let some : eqb (number_of c.judge_order.result) 0 ≡ false = rw c.in-Err.is (cause_numbered c.in-Err.cause) in
    sym (formed_refused a.t.now a.o a.reply.now (rw c.judge_order.ensures at some) ∙ rw (← c.judge_order.ensures, c.in-Err.is) (sym c.refuse.ensures))
