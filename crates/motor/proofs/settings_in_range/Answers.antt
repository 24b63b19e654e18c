-- `motor::settings_in_range` meets its contract. Assumes nothing.
use Rattle.std.proofs.Common.{◌≡◌, Bool, true, false, ◌&&◌, leb, refl}
use Rattle.record.specs.declared.Motor.{Motor}
use Rattle.digits.specs.Places.{is_position}
use Rattle.record.specs.Record.{motor_of}
use Rattle.motor.specs.Sound.{is_speed, limits_in_range, wiring_in_range, setup_in_range, end_flags_in_range, settings_in_range, speeds_in_range}
use Rattle.motor.specs.Judged.{fields_right}
use Rattle.motor.proofs.settings_in_range.Goals as goal

-- The places, and then the speeds and the fields of one byte.
regroup : (p l a b w s e : Bool) → (p && l && (a && b) && w && s && e) ≡ ((p && l) && (a && (b && w && s && e)))
regroup true true true true w s e = refl
regroup true true true false w s e = refl
regroup true true false b w s e = refl
regroup true false a b w s e = refl
regroup false l a b w s e = refl

split : (m : Motor) → (settings_in_range m && end_flags_in_range m.ended) ≡ ((is_position m.place && limits_in_range m.limits) && fields_right m)
unfolding settings_in_range speeds_in_range
split m =
    regroup (is_position m.place) (limits_in_range m.limits) (is_speed m.speeds.high && is_speed m.speeds.middle && is_speed m.speeds.low) (leb m.speeds.selected 2) (wiring_in_range m.wiring) (setup_in_range m.setup) (end_flags_in_range m.ended)

pub returns-then-places_in_range : goal.returns-then-places_in_range
returns-then-places_in_range c = let m = motor_of c.args.b.now in rw (c.fields_in_range.ensures, split m, ← c.read_motor.ensures, ← c.places_in_range.ensures, c.if-places_in_range.true)

pub returns-else-places_in_range : goal.returns-else-places_in_range
returns-else-places_in_range c = let m = motor_of c.args.b.now in rw (split m, ← c.read_motor.ensures, ← c.places_in_range.ensures, c.if-places_in_range.false)
