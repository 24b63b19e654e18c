-- `replies::free::write_free` meets its contract. Assumes nothing.
use mathlib.Core.Path.{refl}
use native.Mathlib.Omega.{arith}
use Rattle.digits.proofs.PutLaws.{stores_put}
use Rattle.replies.specs.Replies.{free_text}
use Rattle.replies.proofs.free.write_free.Goals as goal

pub returns : goal.returns
unfolding free_text
returns c =
    let a = c.args in
    record {
      count = refl;
      buffer =
          rw (c.left_of_four.ensures.0, c.count.ensures, c.mode_letter.ensures)
          (stores_put (free_text a.h) a.out.now 0 (omega arith));
    }
