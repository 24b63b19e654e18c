-- `digits::words::Word::put_at` of a `u64` meets its contract. Assumes nothing.
use Rattle.std.proofs.Common.{refl}
use Rattle.std.specs.Int.{to_le_bytes, w64}
use Rattle.digits.proofs.WordLaws.{written_word}
use Rattle.digits.proofs.PutLaws.{put_lent}
use Rattle.digits.proofs.words.U64Word.put_at.Goals as goal

pub returns : goal.returns
returns c =
    let a = c.args in
    rw (← written_word 8 a.self, c.copy_from_slice.ensures.after, c.to_le_bytes.ensures) (put_lent a.s.now (to_le_bytes w64 a.self) a.at 8 refl)
