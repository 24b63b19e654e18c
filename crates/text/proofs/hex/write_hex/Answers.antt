-- `text::hex::write_hex` meets its contract. Assumes nothing.
use mathlib.Core.Path.{◌≡◌}
use Prim.Native.Nat.{◌/◌, ◌%◌}
use native.Mathlib.Omega.{arith}
use Rattle.text.specs.Text.{hex_byte}
use Rattle.digits.proofs.PutLaws.{stores_put}
use Rattle.text.proofs.hex.write_hex.Goals as goal

pub returns : goal.returns
unfolding hex_byte
returns c =
    let n = c.args.n in
    let e : n / 16 % 16 ≡ n / 16 = omega (arith, c.ranges.n) in
    rw (c.hex_digit-2.ensures, c.hex_digit.ensures, e) (stores_put (hex_byte n) _ 0 c.requires)
