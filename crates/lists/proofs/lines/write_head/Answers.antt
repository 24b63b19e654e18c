-- `lists::lines::write_head` meets its contract. Assumes nothing.
use Prim.Native.Nat.{◌%◌}
use native.Mathlib.Omega.{arith}
use mathlib.Core.Path.{◌≡◌}
use Rattle.text.specs.Text.{hex_digit}
use Rattle.lists.proofs.OutLaws.{wrote_byte}
use Rattle.lists.proofs.lines.write_head.Goals as goal

pub returns : goal.returns
returns c =
    let w = c.write_text-k in
    let low : c.args.channel % 16 ≡ c.args.channel = omega arith in
    let digit : c.hex_digit.result ≡ hex_digit c.args.channel = rw (c.hex_digit.ensures, low) in
    rw (← digit) (wrote_byte _ w.ensures w.auto.out (omega (arith, w.auto.out, w.ensures.count)))
