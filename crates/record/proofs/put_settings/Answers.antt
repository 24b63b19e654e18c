-- `record::put_settings` meets its contract. Assumes nothing.
use native.Mathlib.Omega.{arith}
use mathlib.Core.List.{[], ◌∷◌}
use Rattle.digits.specs.Bytes.{joined}
use Rattle.digits.specs.Words.{word_bytes}
use Rattle.digits.proofs.PutLaws.{lay_put}
use Rattle.record.specs.Record.{place_bytes, limit_bytes, speed_bytes, wiring_bytes, setup_bytes, setting_bytes}
use Rattle.record.proofs.put_settings.Goals as goal

pub returns : goal.returns
unfolding joined word_bytes setting_bytes
returns c =
    let a = c.args in
    rw (c.put_setup.ensures, c.put_wiring.ensures, c.put_speeds.ensures, c.put_limits.ensures, c.put_place.ensures)
    (lay_put (place_bytes a.m.place ∷ limit_bytes a.m.limits ∷ speed_bytes a.m.speeds ∷ wiring_bytes a.m.wiring ∷ setup_bytes a.m.setup ∷ []) a.b.now 0 (omega arith))
