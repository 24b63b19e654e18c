-- `record::put_drive` meets its contract. Assumes nothing.
use native.Mathlib.Omega.{arith}
use mathlib.Core.List.{[], ◌∷◌}
use Rattle.digits.specs.Bytes.{joined}
use Rattle.digits.specs.Words.{word_bytes}
use Rattle.digits.proofs.PutLaws.{lay_put}
use Rattle.record.specs.Record.{going_byte, place_bytes}
use Rattle.record.proofs.put_drive.Goals as goal

pub returns : goal.returns
unfolding joined word_bytes
returns c =
    let a = c.args in
    rw (c.put_place.ensures, c.put_at-4.ensures, c.put_at-3.ensures, c.put_at-2.ensures, c.put_at.ensures, c.going_byte.ensures)
    (lay_put ((going_byte a.d ∷ []) ∷ (a.d.kind ∷ []) ∷ word_bytes 2 a.d.fraction ∷ word_bytes 4 a.d.speed ∷ place_bytes a.d.target ∷ []) a.b.now 32 (omega arith))
