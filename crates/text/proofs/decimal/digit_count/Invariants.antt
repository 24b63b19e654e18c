-- `text::decimal::digit_count` meets its contract. The invariant: none of the powers tried is above n. Assumes nothing.
use Rattle.std.proofs.Common.{◌≡◌, ◌-◌, ◌^◌}
use Rattle.text.specs.Text.{powers_up_to}
use Rattle.text.proofs.decimal.digit_count.Given as goal

abbrev pub invariant-loop-k : goal.invariant-loop-k
invariant-loop-k l = (l.power ≡ 10 ^ l.k) × (powers_up_to (l.k - 1) l.n ≡ l.k - 1)
