-- `text::hex::write_hex_word` meets its contract. Assumes nothing.
use Rattle.text.specs.Text.{hex_word}
use Rattle.text.proofs.hex.write_hex_word.Goals as goal

pub returns : goal.returns
unfolding hex_word
returns c = rw c.write_hex_pair.ensures
