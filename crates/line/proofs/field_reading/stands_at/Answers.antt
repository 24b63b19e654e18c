-- `line::field_reading::stands_at` meets its contract. Assumes nothing.
use Rattle.std.proofs.Common.{arith, ◌≡◌, length}
use Rattle.line.proofs.ReadLaws.{text_past, text_missing, text_differs, text_stands}
use Rattle.line.proofs.field_reading.stands_at.Goals as goal

pub returns-then-s-at : goal.returns-then-s-at
returns-then-s-at c = rw (text_past c.args.s.now c.args.text.now c.args.at c.if-s-at.true c.requires)

pub returns-then-s-at-2 : goal.returns-then-s-at-2
returns-then-s-at-2 c = rw (text_missing c.args.s.now c.args.text.now c.args.at c.loop-k.k c.loop-k-test.true c.if-s-at-2.true)

pub returns-then-s-at-3 : goal.returns-then-s-at-3
returns-then-s-at-3 c = rw (text_differs c.args.s.now c.args.text.now c.args.at c.loop-k.k c.loop-k-test.true (omega arith) c.if-s-at-3.true)

pub returns : goal.returns
returns c =
    let l = c.loop-k in
    let all : l.k ≡ length c.args.text.now = omega arith in
    rw (text_stands c.args.s.now c.args.text.now c.args.at (rw all at l.invariant.0) (rw all at l.invariant.1))
