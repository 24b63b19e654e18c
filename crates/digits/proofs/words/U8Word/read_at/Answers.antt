-- `digits::words::Word::read_at` of a `u8` meets its contract. Assumes nothing.
use Rattle.std.proofs.Common.{arith}
use Rattle.digits.specs.Words.{word}
use Rattle.digits.proofs.PartLaws.{part_one}
use Rattle.digits.proofs.words.U8Word.read_at.Goals as goal

pub returns : goal.returns
unfolding word
returns c = rw (part_one c.args.s.now c.args.at (omega arith)) (omega arith)
