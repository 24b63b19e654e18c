-- `replies::settings::write_selected` meets its contract. Assumes nothing.
use borrow.Author.Tests.{eq-eqb, ne_eqb}
use Rattle.text.specs.Text.{bytes}
use Rattle.replies.specs.Replies.{selected_text}
use Rattle.replies.proofs.settings.write_selected.Goals as goal

pub returns-then-k-eq0 : goal.returns-then-k-eq0
unfolding selected_text bytes
returns-then-k-eq0 c = rw (eq-eqb _ _ c.if-k-eq0.true) c.write_text.ensures

pub returns-then-k-eq1 : goal.returns-then-k-eq1
unfolding selected_text bytes
returns-then-k-eq1 c =
    rw (ne_eqb _ _ c.if-k-eq0.false, eq-eqb _ _ c.if-k-eq1.true) c.write_text-then-k-eq1.ensures

pub returns-else-k-eq1 : goal.returns-else-k-eq1
unfolding selected_text bytes
returns-else-k-eq1 c =
    rw (ne_eqb _ _ c.if-k-eq0.false, ne_eqb _ _ c.if-k-eq1.false) c.write_text-else-k-eq1.ensures
