-- `status::write_letters` meets its contract. Assumes nothing.
use mathlib.Core.List.{[], ◌∷◌}
use mathlib.Core.Path.{◌≡◌}
use Prim.Native.Nat.{◌%◌}
use native.Mathlib.Omega.{arith}
use Rattle.text.specs.Text.{hex_digit}
use Rattle.digits.proofs.PutLaws.{stores_put}
use Rattle.status.specs.Status.{mode_letter, going_letter}
use Rattle.status.proofs.write_letters.Goals as goal

pub returns : goal.returns
returns c =
    let a = c.args in
    let e : a.x % 16 ≡ a.x = omega arith in
    rw (c.going_letter.ensures, c.hex_digit.ensures, c.mode_letter.ensures, e)
    (stores_put (mode_letter a.k ∷ hex_digit a.x ∷ going_letter a.m ∷ []) a.out.now 0 (omega arith))
