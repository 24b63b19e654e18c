-- `record::put_speeds` meets its contract. Assumes nothing.
use native.Mathlib.Omega.{arith}
use mathlib.Core.List.{[], ◌∷◌}
use Rattle.digits.specs.Bytes.{joined}
use Rattle.digits.specs.Words.{word_bytes}
use Rattle.digits.proofs.PutLaws.{lay_put}
use Rattle.record.proofs.put_speeds.Goals as goal

pub returns : goal.returns
unfolding joined word_bytes
returns c =
    let a = c.args in
    rw (c.put_at-4.ensures, c.put_at-3.ensures, c.put_at-2.ensures, c.put_at.ensures)
    (lay_put (word_bytes 4 a.s.high ∷ word_bytes 4 a.s.middle ∷ word_bytes 4 a.s.low ∷ (a.s.selected ∷ []) ∷ []) a.b.now 12 (omega arith))
