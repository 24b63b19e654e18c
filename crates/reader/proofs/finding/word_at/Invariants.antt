-- `reader::finding::word_at` meets its contract. The invariant: the letters that are left are known by their number, and the
-- longest word is among them. Assumes nothing.
use Rattle.std.proofs.Common.{◌≡◌, take, drop}
use Rattle.form.specs.Table.{packed}
use Rattle.reader.specs.Finding.{longest}
use Rattle.reader.proofs.finding.word_at.Given as goal

abbrev pub invariant-loop-n : goal.invariant-loop-n
invariant-loop-n l = (l.letters ≡ packed (take l.n (drop l.at l.s))) × (longest l.n (drop l.at l.s) ≡ longest 8 (drop l.at l.s))
