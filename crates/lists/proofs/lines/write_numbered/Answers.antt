-- `lists::lines::write_numbered` meets its contract. Assumes nothing.
use Rattle.text.specs.Text.{bytes}
use Rattle.lists.specs.Lines.{total_text}
use Rattle.lists.proofs.OutLaws.{wrote_more}
use Rattle.lists.proofs.lines.write_numbered.Goals as goal

pub returns : goal.returns
unfolding total_text bytes
returns c = wrote_more c.write_text-k.ensures c.write_text-k.auto.out c.write_then.ensures c.write_then.auto.out
