-- `replies::texts::write_error` meets its contract. Assumes nothing.
use Rattle.text.specs.Text.{bytes}
use Rattle.replies.specs.Replies.{error_text}
use Rattle.replies.proofs.texts.write_error.Goals as goal

pub returns-then-is_set : goal.returns-then-is_set
unfolding error_text bytes
returns-then-is_set c =
    rw (← c.is_set.ensures, c.if-is_set.true)
    c.write_text.ensures

pub returns-then-is_set-2 : goal.returns-then-is_set-2
unfolding error_text bytes
returns-then-is_set-2 c =
    rw (← c.is_set.ensures, c.if-is_set.false, ← c.is_set-else-is_set.ensures, c.if-is_set-2.true)
    c.write_text-then-is_set-2.ensures

pub returns-then-is_set-3 : goal.returns-then-is_set-3
unfolding error_text bytes
returns-then-is_set-3 c =
    rw (← c.is_set.ensures, c.if-is_set.false, ← c.is_set-else-is_set.ensures, c.if-is_set-2.false, ← c.is_set-else-is_set-2.ensures, c.if-is_set-3.true)
    c.write_text-then-is_set-3.ensures

pub returns-then-is_set-4 : goal.returns-then-is_set-4
unfolding error_text bytes
returns-then-is_set-4 c =
    rw (
      ← c.is_set.ensures,
      c.if-is_set.false,
      ← c.is_set-else-is_set.ensures,
      c.if-is_set-2.false,
      ← c.is_set-else-is_set-2.ensures,
      c.if-is_set-3.false,
      ← c.is_set-else-is_set-3.ensures,
      c.if-is_set-4.true,
    )
    c.write_text-then-is_set-4.ensures

pub returns-else-is_set-4 : goal.returns-else-is_set-4
unfolding error_text bytes
returns-else-is_set-4 c =
    rw (
      ← c.is_set.ensures,
      c.if-is_set.false,
      ← c.is_set-else-is_set.ensures,
      c.if-is_set-2.false,
      ← c.is_set-else-is_set-2.ensures,
      c.if-is_set-3.false,
      ← c.is_set-else-is_set-3.ensures,
      c.if-is_set-4.false,
    )
    c.write_text-else-is_set-4.ensures
