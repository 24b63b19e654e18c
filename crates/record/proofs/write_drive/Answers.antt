-- `record::write_drive` meets its contract. Assumes nothing.
use native.Mathlib.Omega.{arith}
use mathlib.Core.List.{[], ◌∷◌}
use Rattle.digits.specs.Bytes.{joined}
use Rattle.digits.specs.Words.{word_bytes}
use Rattle.digits.proofs.PutLaws.{lay_put}
use Rattle.record.specs.Record.{drive_bytes}
use Rattle.record.proofs.write_drive.Goals as goal

pub returns : goal.returns
unfolding joined word_bytes
returns c =
    let a = c.args in
    rw (c.put_drive.ensures, c.put_at.ensures)
    (lay_put ((a.ended ∷ []) ∷ drive_bytes a.d ∷ []) a.b.now 31 (omega arith))
