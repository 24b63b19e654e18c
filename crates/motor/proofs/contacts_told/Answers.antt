-- `motor::contacts_told` meets its contract. Assumes nothing.
use Rattle.std.proofs.Common.{sym, ◌∙◌, arith, eq-eqb, ne_eqb}
use Rattle.digits.specs.Bytes.{AllBytes}
use Rattle.motor.proofs.StandingLaws.{told_read, told_unknown, told_closed}
use Rattle.motor.proofs.contacts_told.Goals as goal

pub returns-then-target_on-eq-READ_AT_REST : goal.returns-then-target_on-eq-READ_AT_REST
returns-then-target_on-eq-READ_AT_REST c =
    let b = c.args.b.now in
    let bytes : AllBytes b = λ k. omega (arith, c.fits-b k) in
    let whole = c.if-target_on-eq-READ_AT_REST.true in
    rw (eq-eqb _ _ whole) (sym (told_read b (omega arith) bytes (sym c.read_at-target_on.ensures ∙ whole)))

pub returns-then-read_at-eq0 : goal.returns-then-read_at-eq0
returns-then-read_at-eq0 c =
    rw c.read_at-target_on.ensures
    (told_unknown c.args.b.now (omega arith) (λ w. c.if-target_on-eq-READ_AT_REST.false (c.read_at-target_on.ensures ∙ w)) (sym c.read_at.ensures ∙ c.if-read_at-eq0.true))

pub returns-else-read_at-eq0 : goal.returns-else-read_at-eq0
returns-else-read_at-eq0 c =
    rw (ne_eqb _ _ c.if-read_at-eq0.false)
    (sym (told_closed c.args.b.now (omega arith) (λ w. c.if-target_on-eq-READ_AT_REST.false (c.read_at-target_on.ensures ∙ w)) (λ z. c.if-read_at-eq0.false (c.read_at.ensures ∙ z))))
