-- `status::write_status` meets its contract: what the part after the six bytes is left with is put after them.
-- Assumes nothing.
use Prim.Native.Nat.{◌+◌, ◌≤◌}
use native.Mathlib.Omega.{arith}
use lib.ListN.{length, length-take, length-drop}
use Rattle.text.specs.Text.{hex_byte}
use Rattle.digits.proofs.PutLaws.{put_rest}
use Rattle.status.specs.Status.{position_text, status_text}
use Rattle.status.proofs.StatusLaws.{position_within, status_put}
use Rattle.status.proofs.write_status.Goals as goal

pub write_signed-requires : goal.write_signed-requires
write_signed-requires c =
    simp (length-take, length-drop) (omega (arith, position_within c.args.m.place))

pub overflow_add-result : goal.overflow_add-result
overflow_add-result c =
    omega (arith, c.write_signed.ensures.count, position_within c.args.m.place)

pub returns : goal.returns
unfolding status_text hex_byte
returns c =
    let w = c.write_signed.ensures in
    let flags = c.write_flags in
    let letters = c.write_letters in
    let a = c.args in
    let fits : 6 + length (position_text a.m.place) ≤ length flags.new.out = omega (arith, position_within a.m.place) in
    record {
      count = omega (arith, w.count);
      buffer =
          rw (w.buffer, put_rest flags.new.out (position_text a.m.place) 6 fits, flags.ensures, letters.ensures)
          (status_put a.out.now a.k a.x a.m (omega arith));
    }
