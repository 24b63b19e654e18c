-- `status::switch_bits` meets its contract. Assumes nothing.
use native.Mathlib.Omega.{arith}
use Rattle.status.specs.Status.{switch_bits}
use Rattle.status.proofs.switch_bits.Goals as goal

pub returns-then-is_unread : goal.returns-then-is_unread
unfolding switch_bits
returns-then-is_unread c = (rw (← c.is_unread.ensures, c.if-is_unread.true), omega arith)

pub returns-else-is_unread : goal.returns-else-is_unread
unfolding switch_bits
returns-else-is_unread c = (rw (c.switch_flags.ensures.0, ← c.is_unread.ensures, c.if-is_unread.false), c.switch_flags.ensures.1)
