-- `digits::words::Word::read_at` of a `u16` meets its contract. Assumes nothing.
use Rattle.std.proofs.Common.{◌≡◌, ◌-◌, ◌∙◌, length, drop, arith, take-take}
use Rattle.digits.specs.Bytes.{part}
use Rattle.digits.proofs.WordLaws.{read_word}
use Rattle.digits.proofs.words.U16Word.read_at.Goals as goal

pub returns : goal.returns
unfolding part
returns c =
    let s = c.args.s.now in
    let at = c.args.at in
    let first = (rw c.unwrap.ensures at c.first_chunk.ensures.cases).same in
    let bytes : c.unwrap.result.now ≡ part s at 2 = first ∙ take-take 2 (length s - at) (drop at s) (omega arith) in
    rw (c.from_le_bytes.ensures, bytes) (read_word 1 s at (omega arith))
