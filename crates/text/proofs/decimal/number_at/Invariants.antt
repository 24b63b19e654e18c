-- `text::decimal::number_at` meets its contract. The invariant: the digits passed, and those that stand from there on, are all; they are
-- ten at most, and what is gathered is what those passed are worth. Assumes nothing.
use Rattle.std.proofs.Common.{◌≡◌, ◌≤◌, ◌+◌, ◌-◌, drop}
use Rattle.text.specs.Text.{digits_at_front}
use Rattle.text.proofs.TextLaws.{Worth}
use Rattle.text.proofs.decimal.number_at.Given as goal

abbrev pub invariant-loop-i : goal.invariant-loop-i
invariant-loop-i l = (digits_at_front (drop l.at l.s) ≡ l.i - l.at + digits_at_front (drop l.i l.s)) × (l.i - l.at ≤ 10) × (l.end ≡ l.i) × Worth l.s l.at l.i l.value
