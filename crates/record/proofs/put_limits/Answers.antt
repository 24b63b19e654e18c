-- `record::put_limits` meets its contract. Assumes nothing.
use native.Mathlib.Omega.{arith}
use mathlib.Core.List.{[], ◌∷◌}
use Rattle.digits.specs.Bytes.{joined}
use Rattle.digits.specs.Words.{word_bytes}
use Rattle.digits.proofs.PutLaws.{lay_put}
use Rattle.record.specs.Record.{place_bytes}
use Rattle.record.proofs.put_limits.Goals as goal

pub returns : goal.returns
unfolding joined word_bytes
returns c =
    let a = c.args in
    rw (c.put_place-2.ensures, c.put_place.ensures)
    (lay_put (place_bytes a.l.cw ∷ place_bytes a.l.ccw ∷ []) a.b.now 4 (omega arith))
