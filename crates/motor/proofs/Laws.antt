-- Laws of switches and room, for every motor, sound or not. Assumes nothing.
use Rattle.std.proofs.Common.{◌≡◌, ℕ, ◌<◌, ◌≤◌, Bool, not, ◌&&◌, ◌||◌, arith}
use mathlib.Core.Bool.{beq}
use Rattle.digits.specs.Places.{moved}
use Rattle.record.specs.declared.Wiring.{Wiring}
use Rattle.record.specs.declared.Motor.{Motor}
use Rattle.motor.specs.Switches.{normally_closed, closed, active, edge, room}

-- "A switch is *active* when its contact is closed and N.O., or open and N.C.": when the contact's bit and the polarity's
-- differ.
differ : (c n : Bool) → (c && not n || not c && n) ≡ not (beq c n)
differ c n = grind arith

pub active_differs : (s : ℕ) (w : Wiring) → active s w ≡ not (beq (closed s w) (normally_closed s w))
unfolding active
active_differs s w = differ (closed s w) (normally_closed s w)

-- Within its room a motor stays where four bytes can say it, whatever its limits are.
pub room_holds : (going : ℕ) (m : Motor) (n : ℕ) → m.place < 4294967296 → n ≤ room going m → moved going m.place n < 4294967296
unfolding room edge
room_holds going m n p h = grind arith
