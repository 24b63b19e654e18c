-- `motor::sound_bytes` meets its contract. Assumes nothing.
use Rattle.std.proofs.Common.{sym, ◌∙◌, arith}
use Rattle.digits.specs.Bytes.{AllBytes}
use Rattle.motor.proofs.JudgedLaws.{tail_judged, listed_judged, unlisted_judged}
use Rattle.motor.proofs.sound_bytes.Goals as goal

pub returns-then-listed : goal.returns-then-listed
returns-then-listed c =
    let tail = sym c.tail_zero.ensures ∙ c.if-tail_zero.true in
    rw (c.driving_sound.ensures, c.if-listed.true) (sym (listed_judged c.args.paused c.args.b.now (omega arith) tail))

pub returns-else-listed : goal.returns-else-listed
returns-else-listed c =
    let bytes : AllBytes c.args.b.now = λ k. omega (arith, c.fits-b k) in
    let tail = sym c.tail_zero.ensures ∙ c.if-tail_zero.true in
    rw (c.standing_sound.ensures, c.if-listed.false) (sym (unlisted_judged c.args.paused c.args.b.now (omega arith) bytes tail))

pub returns-else-tail_zero : goal.returns-else-tail_zero
returns-else-tail_zero c =
    rw c.if-tail_zero.false (sym (tail_judged c.args.paused c.args.listed c.args.b.now (omega arith) (sym c.tail_zero.ensures ∙ c.if-tail_zero.false)))
