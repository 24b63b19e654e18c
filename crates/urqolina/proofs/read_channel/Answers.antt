-- `urqolina::read_channel` meets its contract. Assumes nothing.
use Rattle.table.proofs.TableLaws.{sound_sealed}
use Rattle.urqolina.proofs.read_channel.Goals as goal

pub change_motor-requires-clause-whole : goal.change_motor-requires-clause-whole
change_motor-requires-clause-whole c = (c.requires.1, sound_sealed _ c.requires.0 c.fits-t)
