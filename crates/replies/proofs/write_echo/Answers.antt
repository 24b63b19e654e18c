-- `replies::write_echo` meets its contract. Assumes nothing.
use mathlib.Core.Path.{◌≡◌}
use mathlib.Core.Bool.{true, false}
use lib.Dec.{eqb}
use borrow.Author.Tests.{eq-eqb, ne_eqb}
use Rattle.replies.specs.Replies.{echo}
use Rattle.replies.proofs.ReplyLaws.{short, wrote_none, echo_within}
use Rattle.replies.proofs.write_echo.Goals as goal

pub returns-then-all-eq1 : goal.returns-then-all-eq1
unfolding echo
returns-then-all-eq1 c =
    let on : eqb c.args.all 1 ≡ true = eq-eqb _ _ c.if-all-eq1.true in
    short (echo_within c.args.all c.args.v) (rw on c.write_verdict.ensures)

pub returns-else-all-eq1 : goal.returns-else-all-eq1
unfolding echo
returns-else-all-eq1 c =
    let off : eqb c.args.all 1 ≡ false = ne_eqb _ _ c.if-all-eq1.false in
    short (echo_within c.args.all c.args.v) (rw off (wrote_none c.args.out.now))
