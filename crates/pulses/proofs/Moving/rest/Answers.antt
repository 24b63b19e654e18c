-- `pulses::Moving::rest` meets its contract. Assumes nothing.
use Rattle.std.proofs.Common.{◌≡◌, ◌+◌, ◌*◌, ◌<◌, false, arith}
use Rattle.record.specs.declared.Motor.{Motor}
use Rattle.pulses.specs.Ticks.{tick_speed, rest, given, reached, used_up}
use Rattle.pulses.proofs.Laws.{nothing_rounded, carried_below}
use Rattle.pulses.proofs.TickLaws.{goes_due}
use Rattle.pulses.proofs.Moving.rest.Goals as goal

-- What is left of the thousandths after the pulses given is the rest.
left : (m : Motor) → reached m ≡ false → used_up m ≡ false → (1000 * given m + rest m ≡ m.drive.fraction + tick_speed m) × (rest m < 1000)
left m r u = (omega (arith, goes_due m r u, nothing_rounded m), carried_below m)

pub overflow_sub-result : goal.overflow_sub-result
overflow_sub-result c = omega (arith, c.thousandths.ensures.0, c.args.self.exact, left c.args.self.motor c.requires.0 c.requires.1)

pub overflow_cast-result-2 : goal.overflow_cast-result-2
overflow_cast-result-2 c = omega (arith, c.thousandths.ensures.0, c.args.self.exact, left c.args.self.motor c.requires.0 c.requires.1)

pub returns : goal.returns
returns c = omega (arith, c.thousandths.ensures.0, c.args.self.exact, left c.args.self.motor c.requires.0 c.requires.1)
