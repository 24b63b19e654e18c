-- `lists::lines::write_move` meets its contract. Assumes nothing.
use Rattle.lists.specs.Lines.{move_text}
use Rattle.lists.proofs.OutLaws.{wrote_more}
use Rattle.lists.proofs.lines.write_move.Goals as goal

pub returns : goal.returns
unfolding move_text
returns c = wrote_more c.write_speed-k.ensures c.write_speed-k.auto.out c.write_going.ensures c.write_going.auto.out
