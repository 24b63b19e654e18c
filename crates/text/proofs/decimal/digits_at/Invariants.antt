-- `text::decimal::digits_at` meets its contract. The invariant: the digits passed, and those that stand from there on, are all.
-- Assumes nothing.
use Rattle.std.proofs.Common.{◌≡◌, ◌+◌, ◌-◌, drop}
use Rattle.text.specs.Text.{digits_at_front}
use Rattle.text.proofs.decimal.digits_at.Given as goal

abbrev pub invariant-loop-i : goal.invariant-loop-i
invariant-loop-i l = (digits_at_front (drop l.at l.s) ≡ l.i - l.at + digits_at_front (drop l.i l.s)) × (l.end ≡ l.i)
