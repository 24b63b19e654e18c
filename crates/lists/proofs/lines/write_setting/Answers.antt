-- `lists::lines::write_setting` meets its contract. Assumes nothing.
use Rattle.text.specs.Text.{bytes}
use Rattle.lists.specs.Lines.{setting_text}
use Rattle.lists.proofs.OutLaws.{wrote_more}
use Rattle.lists.proofs.lines.write_setting.Goals as goal

pub returns : goal.returns
unfolding setting_text bytes
returns c = wrote_more c.write_head-k.ensures c.write_head-k.auto.out c.write_then.ensures c.write_then.auto.out
