-- `line::cards::asks_on` meets its contract. Assumes nothing.
use mathlib.Core.Path.{sym}
use Rattle.line.specs.Forms.{asks_on}
use Rattle.line.proofs.CardLaws.{asked_both}
use Rattle.line.proofs.cards.asks_on.Goals as goal

pub returns-in-AskFree : goal.returns-in-AskFree
unfolding asks_on
returns-in-AskFree c = rw c.in-AskFree.is

pub returns-in_default : goal.returns-in_default
returns-in_default c = sym (asked_both c.args.card c.args.q c.in_default.not-AskFree)
