-- `replies::settings::write_switches` meets its contract. Assumes nothing.
use mathlib.Core.Path.{refl}
use native.Mathlib.Nat.{div-one}
use native.Mathlib.Omega.{arith}
use Rattle.digits.proofs.PutLaws.{stores_put}
use Rattle.replies.specs.Replies.{switches_text}
use Rattle.replies.proofs.settings.write_switches.Goals as goal

pub returns : goal.returns
unfolding switches_text
returns c =
    let one = div-one c.args.n in
    record { count = refl; buffer = rw one (rw one at (stores_put (switches_text c.args.n) c.args.out.now 0 (omega arith))) }
