-- `reader::matching::case_at` meets its contract. Assumes nothing.
use Rattle.std.proofs.Common.{◌≡◌, Some, None}
use borrow.Author.Tests.{eq-eqb, ne_eqb}
use Rattle.reader.specs.Finding.{case_by}
use Rattle.reader.proofs.FindingLaws.{never}
use Rattle.reader.proofs.matching.case_at.Goals as goal

pub returns-in_err-row : goal.returns-in_err-row
returns-in_err-row c =
    let no_row : c.args.row ≡ None = c.in_err-row.was in
    rw (c.from_residual.ensures, no_row, never c.args.s.now c.args.at)

pub returns-in_err-f : goal.returns-in_err-f
unfolding case_by
returns-in_err-f c =
    let row : c.args.row ≡ Some c.in_ok-row.row = c.in_ok-row.was in
    let absent : c.fields_at.result ≡ None = c.in_err-f.was in
    rw (c.from_residual-in_err-f.ensures, row, ← c.tail_of.ensures, ← c.fields_at.ensures, absent)

pub returns-then-end-s : goal.returns-then-end-s
unfolding case_by
returns-then-end-s c =
    let row : c.args.row ≡ Some c.in_ok-row.row = c.in_ok-row.was in
    let there : c.fields_at.result ≡ Some (c.in_ok-f.f, c.in_ok-f.end) = c.in_ok-f.was in
    rw (row, ← c.tail_of.ensures, ← c.fields_at.ensures, there, c.order_of.ensures, eq-eqb _ _ c.if-end-s.true)

pub returns-else-end-s : goal.returns-else-end-s
unfolding case_by
returns-else-end-s c =
    let row : c.args.row ≡ Some c.in_ok-row.row = c.in_ok-row.was in
    let there : c.fields_at.result ≡ Some (c.in_ok-f.f, c.in_ok-f.end) = c.in_ok-f.was in
    rw (row, ← c.tail_of.ensures, ← c.fields_at.ensures, there, ne_eqb _ _ c.if-end-s.false)
