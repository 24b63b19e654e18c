-- `reader::matching::form_at` meets its contract. Assumes nothing.
use Rattle.reader.specs.Finding.{case_at}
use Rattle.std.proofs.Common.{true, false}
use Rattle.form.specs.Table.{rows_by}
use Rattle.reader.proofs.FindingLaws.{numbered_case}
use Rattle.reader.proofs.matching.form_at.Goals.{then-second, else-second}
use Rattle.reader.proofs.matching.form_at.Goals as goal

pub returns : goal.returns
unfolding case_at
returns c =
    let a = c.args in
    elim c.if-second.branch [
      | then-second w ↦ rw (c.case_at.ensures, w.row-is, w.if-second.true) (numbered_case w.second_row-row.result (rows_by true a.letters) a.s.now a.at w.second_row-row.ensures)
      | else-second w ↦ rw (c.case_at.ensures, w.row-is, w.if-second.false) (numbered_case w.first_row-row.result (rows_by false a.letters) a.s.now a.at w.first_row-row.ensures)
    ]
