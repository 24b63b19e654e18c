-- `status::status_v` meets its contract. Assumes nothing.
use native.Mathlib.Omega.{arith}
use Rattle.status.specs.Status.{status_v}
use Rattle.status.proofs.status_v.Goals as goal

pub returns : goal.returns
unfolding status_v
returns c = (rw (c.flag_if.ensures.0, c.is_busy.ensures, c.switch_bits-switches.ensures.0), omega arith)
