-- `text::decimal::write_digits` meets its contract. The invariant: the digits from place i on are put, and what is
-- left of n is to be written before them. Assumes nothing.
use Rattle.std.proofs.Common.{◌≡◌, ◌-◌, ◌/◌, ◌^◌, length}
use Rattle.digits.specs.Bytes.{put}
use Rattle.text.specs.Text.{last_digits}
use Rattle.text.proofs.decimal.write_digits.Given as goal

abbrev pub invariant-loop-i : goal.invariant-loop-i
invariant-loop-i l = (length l.out ≡ length l.initial.out) × (l.left ≡ l.n / 10 ^ (l.k - l.i)) × (l.out ≡ put l.initial.out l.i (last_digits (l.k - l.i) l.n))
