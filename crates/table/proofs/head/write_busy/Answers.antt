-- `table::head::write_busy` meets its contract. Assumes nothing.
use native.Mathlib.Omega.{arith}
use Rattle.std.proofs.Common.{◌≡◌, ◌/◌, ◌%◌}
use Rattle.digits.specs.Words.{word_bytes}
use Rattle.table.proofs.head.write_busy.Goals as goal

pub returns : goal.returns
unfolding word_bytes
returns c =
    let high : c.args.set / 256 % 256 ≡ c.args.set / 256 = omega arith in
    rw high at c.put_at.ensures
