-- `text::quoted::write_text` meets its contract. Assumes nothing.
use Rattle.std.proofs.Common.{refl, length}
use native.Mathlib.Nat.{zero-add}
use Rattle.digits.specs.Bytes.{put}
use Rattle.text.proofs.quoted.write_text.Goals as goal

pub returns : goal.returns
unfolding put
returns c = record { count = refl; buffer = rw (c.copy_from_slice.ensures.after, zero-add (length c.args.text.now)) }
