-- `reader::finding::is_word` meets its contract. Assumes nothing.
use Rattle.std.proofs.Common.{◌∙◌}
use Rattle.reader.proofs.LetterLaws.{number_row}
use Rattle.reader.proofs.finding.is_word.Goals as goal

pub returns : goal.returns
returns c = c.is_some.ensures ∙ number_row c.first_row.result c.args.letters c.first_row.ensures
