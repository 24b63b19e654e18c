-- `reader::finding::letters_in` meets its contract. The invariant: so many letters stand there, and their number is known.
-- Assumes nothing.
use Rattle.std.proofs.Common.{◌≡◌, ◌≤◌, ◌<◌, ◌^◌, take}
use Rattle.form.specs.Table.{packed}
use Rattle.reader.specs.Finding.{letters_at_front}
use Rattle.reader.proofs.finding.letters_in.Given as goal

abbrev pub invariant-loop-count : goal.invariant-loop-count
invariant-loop-count l = (l.count ≤ letters_at_front l.s) × (l.letters < 256 ^ l.count) × (l.letters ≡ packed (take l.count l.s))
