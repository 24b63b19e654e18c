-- `status::write_flags` meets its contract. Assumes nothing.
use mathlib.Core.List.{◌∷◌}
use mathlib.Core.Path.{◌≡◌}
use Prim.Native.Nat.{◌/◌, ◌%◌}
use native.Mathlib.Omega.{arith}
use Rattle.text.specs.Text.{hex_digit, hex_byte}
use Rattle.digits.proofs.PutLaws.{stores_put}
use Rattle.status.specs.Status.{status_v, status_hh}
use Rattle.status.proofs.write_flags.Goals as goal

pub returns : goal.returns
unfolding hex_byte
returns c =
    let a = c.args in
    let v = c.status_v in
    let h = c.status_hh-hh in
    let e : v.result % 16 ≡ v.result = omega arith in
    let d : h.result / 16 % 16 ≡ h.result / 16 = omega arith in
    rw (c.hex_digit-3.ensures, c.hex_digit-2.ensures, c.hex_digit.ensures, e, d, v.ensures.0, h.ensures)
    (stores_put (hex_digit (status_v a.m) ∷ hex_byte (status_hh a.m)) a.out.now 3 (omega arith))
