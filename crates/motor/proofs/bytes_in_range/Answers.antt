-- `motor::bytes_in_range` meets its contract. Assumes nothing.
use Rattle.std.proofs.Common.{◌≡◌, length, sym, arith}
use Rattle.digits.specs.Bytes.{AllBytes}
use Rattle.motor.proofs.SmallLaws.{bits_held, bytes_held, small_told, small_set}
use Rattle.motor.proofs.bytes_in_range.Goals as goal

pub returns-then-bits_clear : goal.returns-then-bits_clear
returns-then-bits_clear c =
    let a = c.args in
    let b = a.b.now in
    let n : length b ≡ 64 = omega arith in
    let bytes : AllBytes b = λ k. omega (arith, c.fits-b k) in
    let told = rw (c.bits_clear.ensures, bits_held b a.m c.requires n bytes) at c.if-bits_clear.true in
    let fits = bytes_held b a.m c.requires n bytes in
    rw c.ends_in_range.ensures (sym (small_told a.m fits.0 fits.1 told))

pub returns-else-bits_clear : goal.returns-else-bits_clear
returns-else-bits_clear c =
    let a = c.args in
    let b = a.b.now in
    let bytes : AllBytes b = λ k. omega (arith, c.fits-b k) in
    let told = rw (c.bits_clear.ensures, bits_held b a.m c.requires (omega arith) bytes) at c.if-bits_clear.false in
    rw c.if-bits_clear.false (sym (small_set a.m told))
