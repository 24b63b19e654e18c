-- `script::taking::Reading::take_next` meets its contract. Assumes nothing.
use Rattle.std.proofs.Common.{◌≤◌, arith, length}
use Rattle.script.specs.Stream.{byte_read}
use Rattle.script.proofs.FeedLaws.{byte_within, wrote_front}
use Rattle.script.proofs.taking.Reading.take_next.Goals as goal

pub returns : goal.returns
returns c =
    let a = c.args in
    let w = c.take_byte.ensures in
    let few : length (byte_read a.self.now.first a.table.now a.self.now.line a.b).text ≤ 235 = byte_within a.self.now.first a.table.now a.self.now.line a.b in
    let same = c.in_ok-room.ensures.cases.same in
    record {
      taken = record { first = w.first; table = w.table; held = w.held; text = wrote_front _ _ _ _ _ 256 c.in_ok-room.ensures.cases.enough (omega arith) same w.text };
      kept = omega (arith, w.text.count, c.in_ok-room.ensures.cases.enough);
    }
