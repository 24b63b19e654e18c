-- `lists::lines::write_going` meets its contract. Assumes nothing.
use Rattle.text.specs.Text.{bytes}
use Rattle.lists.proofs.OutLaws.{wrote_more, going_parts}
use Rattle.lists.proofs.lines.write_going.Goals as goal

pub returns : goal.returns
unfolding bytes
returns c =
    rw (going_parts c.args.m, ← c.start_word.ensures)
    (wrote_more c.write_head-k.ensures c.write_head-k.auto.out c.write_place.ensures c.write_place.auto.out)
