-- `replies::settings::write_setup` meets its contract. Assumes nothing.
use mathlib.Core.Path.{refl}
use native.Mathlib.Omega.{arith}
use Rattle.digits.proofs.PutLaws.{stores_put}
use Rattle.replies.specs.Replies.{motor_text}
use Rattle.replies.proofs.ReplyLaws.{setup_small}
use Rattle.replies.proofs.settings.write_setup.Goals as goal

pub overflow_add-out : goal.overflow_add-out
overflow_add-out c = omega (arith, setup_small c.args.s c.requires.s_value)

pub overflow_add-out-2 : goal.overflow_add-out-2
overflow_add-out-2 c = omega (arith, setup_small c.args.s c.requires.s_value)

pub overflow_add-out-3 : goal.overflow_add-out-3
overflow_add-out-3 c = omega (arith, setup_small c.args.s c.requires.s_value)

pub overflow_add-out-4 : goal.overflow_add-out-4
overflow_add-out-4 c = omega (arith, setup_small c.args.s c.requires.s_value)

pub returns : goal.returns
unfolding motor_text
returns c =
    let a = c.args in
    record { count = refl; buffer = stores_put (motor_text a.s) a.out.now 0 (omega arith) }
