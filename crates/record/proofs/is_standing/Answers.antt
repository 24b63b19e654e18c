-- `record::is_standing` meets its contract. Assumes nothing.
use mathlib.Core.Path.{◌≡◌, refl}
use mathlib.Core.Bool.{Bool, true, false}
use Prim.Native.Nat.{ℕ}
use lib.Dec.{eqb}
use borrow.Author.Tests.{eqb-true}
use Rattle.record.specs.Record.{byte_at, going_of, motor_of}
use Rattle.record.proofs.is_standing.Goals as goal

-- Byte 32 is 0 just where it tells no direction.
still_byte : (n : ℕ) → eqb n 0 ≡ eqb (going_of n) 0
still_byte n = go (eqb n 3) refl
  where
    go : (a : Bool) → eqb n 3 ≡ a → eqb n 0 ≡ eqb (going_of n) 0
    go true a = rw (eqb-true n 3 a)
    go false a = four (eqb n 4) refl
      where
        four : (b : Bool) → eqb n 4 ≡ b → eqb n 0 ≡ eqb (going_of n) 0
        four true b = rw (eqb-true n 4 b)
        four false b = rw (a, b)

pub returns : goal.returns
unfolding motor_of
returns c = rw c.read_at.ensures (still_byte (byte_at c.args.b.now 32))
