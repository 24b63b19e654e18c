-- `table::change_record` meets its contract: the record that was lent is back in its place. Assumes nothing.
use mathlib.Core.Path.{◌≡◌}
use lib.ListN.{length}
use native.Mathlib.Nat.{add-sub_cancel_left}
use borrow.Author.Rules.{rules}
use Rattle.digits.specs.Bytes.{part}
use Rattle.table.specs.Layout.{record_start}
use Rattle.table.proofs.PieceLaws.{put_lent}
use Rattle.table.proofs.change_record.Goals as goal

pub returns : goal.returns
unfolding part
returns g c =
    let t = c.args.t.now in
    let n : length c.change_bytes.new.b ≡ 64 = search rules in
    (c.change_bytes.new.b, rw (c.record_start-start.ensures, add-sub_cancel_left) at c.change_bytes.ensures, rw c.record_start-start.ensures (put_lent t c.change_bytes.new.b (record_start c.args.c) 64 n))
