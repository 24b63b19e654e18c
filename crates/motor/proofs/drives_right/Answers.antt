-- `motor::drives_right` meets its contract. Assumes nothing.
use Rattle.std.proofs.Common.{sym, ◌∙◌, arith}
use Rattle.digits.specs.Places.{ccw}
use Rattle.record.specs.Record.{drive_of, motor_of}
use Rattle.motor.proofs.DrivingLaws.{way_same}
use Rattle.motor.proofs.drives_right.Goals as goal

pub returns-else-is_cw : goal.returns-else-is_cw
unfolding motor_of
returns-else-is_cw c =
    let b = c.args.b.now in
    let same = way_same (drive_of b).going ccw (motor_of b) (sym c.is_cw.ensures ∙ c.if-is_cw.false) in
    grind (arith, same)
