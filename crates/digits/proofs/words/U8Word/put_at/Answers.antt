-- `digits::words::Word::put_at` of a `u8` meets its contract. Assumes nothing.
use Rattle.std.proofs.Common.{[], ◌∷◌, arith}
use Rattle.digits.proofs.PutLaws.{stores_put}
use Rattle.digits.proofs.words.U8Word.put_at.Goals as goal

pub returns : goal.returns
returns c = stores_put (c.args.self ∷ []) c.args.s.now c.args.at (omega arith)
