-- `record::write_motor` meets its contract. Assumes nothing.
use native.Mathlib.Omega.{arith}
use mathlib.Core.Path.{◌∙◌}
use mathlib.Core.List.{[], ◌∷◌}
use Rattle.digits.specs.Bytes.{joined}
use Rattle.digits.specs.Words.{word_bytes}
use Rattle.digits.proofs.PutLaws.{lay_put, put_whole}
use Rattle.record.specs.Record.{setting_bytes, drive_bytes, rest_bytes, record_of}
use Rattle.record.proofs.write_motor.Goals as goal

pub returns : goal.returns
unfolding joined word_bytes setting_bytes record_of
returns c =
    let a = c.args in
    rw (c.put_rest.ensures, c.put_drive.ensures, c.put_at.ensures, c.put_settings.ensures)
    (lay_put (setting_bytes a.m ∷ (a.m.ended ∷ []) ∷ drive_bytes a.m.drive ∷ rest_bytes a.m ∷ []) a.b.now 0 (omega arith)
    ∙ put_whole a.b.now (record_of a.m) (omega arith))
