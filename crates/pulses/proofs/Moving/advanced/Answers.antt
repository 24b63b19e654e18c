-- `pulses::Moving::advanced` meets its contract. Assumes nothing.
use Rattle.std.proofs.Common.{◌≤◌, arith}
use Rattle.motor.specs.Switches.{room}
use Rattle.motor.proofs.Laws.{room_holds}
use Rattle.pulses.proofs.Laws.{given_room}
use Rattle.pulses.proofs.Moving.advanced.Goals as goal

pub overflow_cast-to : goal.overflow_cast-to
overflow_cast-to c =
    let a = c.args.self in
    let within : a.pulses ≤ room a.going a.motor = rw (a.exact, a.same) (given_room a.motor) in
    record { fits = rw c.place_ahead-to.ensures (room_holds a.going a.motor a.pulses (omega arith) within) }
