-- `jobs::reading::wait_of` meets its contract. Assumes nothing.
use Rattle.std.proofs.Common.{arith, ◌≡◌, Some, sym, ◌∙◌}
use Rattle.text.proofs.TextLaws.{digits_within}
use Rattle.jobs.proofs.JobLaws.{read_parts, wait_read}
use Rattle.jobs.proofs.reading.wait_of.Goals as goal

pub bounds-s-0 : goal.bounds-s-0
bounds-s-0 c =
    let s = c.args.s.now in
    let d = c.in_ok-value.field-0 in
    let n : c.number_at.result ≡ Some d = c.in_ok-value.was in
    let p = read_parts s d (sym c.number_at.ensures ∙ n) in
    omega (arith, p.1, p.2, digits_within s)

pub returns-then-count-s : goal.returns-then-count-s
returns-then-count-s c =
    let d = c.in_ok-value.field-0 in
    let n : c.number_at.result ≡ Some d = c.in_ok-value.was in
    rw (wait_read c.args.s.now d (sym c.number_at.ensures ∙ n), ← c.is_ticks.ensures, c.if-count-s.true)

pub returns-else-count-s : goal.returns-else-count-s
returns-else-count-s c =
    let d = c.in_ok-value.field-0 in
    let n : c.number_at.result ≡ Some d = c.in_ok-value.was in
    rw (wait_read c.args.s.now d (sym c.number_at.ensures ∙ n), ← c.is_ticks.ensures, c.if-count-s.false)
