-- `lists::lines::write_speed` meets its contract. Assumes nothing.
use Rattle.lists.proofs.OutLaws.{wrote_more}
use Rattle.lists.proofs.lines.write_speed.Goals as goal

pub returns : goal.returns
returns c = wrote_more c.write_setting-k.ensures c.write_setting-k.auto.out c.write_select.ensures c.write_select.auto.out
