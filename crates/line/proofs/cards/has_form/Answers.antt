-- `line::cards::has_form` meets its contract. Assumes nothing.
use mathlib.Core.Path.{sym}
use Rattle.line.specs.Forms.{has_form}
use Rattle.line.proofs.CardLaws.{formed_both}
use Rattle.line.proofs.cards.has_form.Goals as goal

pub returns-in-AskHead : goal.returns-in-AskHead
unfolding has_form
returns-in-AskHead c = rw c.in-AskHead.is c.asks_on.ensures

pub returns-in_default : goal.returns-in_default
returns-in_default c = sym (formed_both c.args.card c.args.o c.in_default.not-AskHead)
