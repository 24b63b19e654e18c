-- `script::taking::Reading::take_run` meets its contract. Assumes nothing.
use Rattle.std.proofs.Common.{◌+◌, ◌-◌, ◌≤◌, arith, length, take, length-take, length-drop}
use borrow.Rule.Slice.PartMut.{same_len_mid}
use Rattle.script.proofs.FeedLaws.{prints_more, front_more}
use Rattle.script.proofs.taking.Reading.take_run.Goals as goal

pub loop-read-preserved : goal.loop-read-preserved
loop-read-preserved c =
    let a = c.args in
    let l = c.loop-read in
    let w = c.in-Some.ensures.taken in
    let same = same_len_mid l.count (length l.out - l.count) l.out c.take_next.new.out c.take_next.auto.out in
    let room : l.count + c.in-Some.n ≤ length l.out = omega (arith, l.invariant.fits, simp (length-take, length-drop) at c.in-Some.ensures.kept) in
    let next = prints_more a.self.now.first a.table.now a.self.now.line a.bytes.now (take l.count l.out) l.self.first l.table l.self.line l.read (omega arith) l.invariant.prints in
    record {
      fits = rw same room;
      room = λ e. omega arith;
      prints = rw (w.first, w.table, w.held, front_more l.out _ _ l.count _ room w.text) next;
    }
