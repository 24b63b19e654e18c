-- `replies::texts::write_verdict` meets its contract. Assumes nothing.
use mathlib.Core.Path.{◌≡◌}
use Prim.Native.Nat.{ℕ}
use borrow.Author.Tests.{ne_eqb}
use Rattle.text.specs.Text.{bytes}
use Rattle.replies.specs.Replies.{text_of}
use Rattle.replies.proofs.ReplyLaws.{wrote_none}
use Rattle.replies.proofs.texts.write_verdict.Goals as goal

-- what is left over has NG
left_over : (n : ℕ) → (n ≡ 0 → ⊥) → (n ≡ 1 → ⊥) → (n ≡ 2 → ⊥) → (n ≡ 3 → ⊥) → (n ≡ 5 → ⊥) → (n ≡ 6 → ⊥) → text_of n ≡ bytes "NG"
unfolding text_of
left_over n a b c d e f = rw (ne_eqb n 0 a, ne_eqb n 1 b, ne_eqb n 2 c, ne_eqb n 3 d, ne_eqb n 5 e, ne_eqb n 6 f)

pub returns-in-0 : goal.returns-in-0
unfolding text_of bytes
returns-in-0 c =
    rw (← c.number_of.ensures, c.in-0.is) c.write_text.ensures

pub returns-in-1 : goal.returns-in-1
unfolding text_of bytes
returns-in-1 c =
    rw (← c.number_of.ensures, c.in-1.is) c.write_text-in-1.ensures

pub returns-in-2 : goal.returns-in-2
unfolding text_of bytes
returns-in-2 c =
    rw (← c.number_of.ensures, c.in-2.is) c.write_text-in-2.ensures

pub returns-in-3 : goal.returns-in-3
unfolding text_of bytes
returns-in-3 c =
    rw (← c.number_of.ensures, c.in-3.is) c.write_text-in-3.ensures

pub returns-in-5 : goal.returns-in-5
unfolding text_of
returns-in-5 c = rw (← c.number_of.ensures, c.in-5.is) (wrote_none c.args.out.now)

pub returns-in-6 : goal.returns-in-6
unfolding text_of
returns-in-6 c = rw (← c.number_of.ensures, c.in-6.is) (wrote_none c.args.out.now)

pub returns-in_default : goal.returns-in_default
unfolding bytes
returns-in_default c =
    let r = c.in_default.in_default-own.rest in
    rw (← c.number_of.ensures, left_over _ r.0.0.0.0.0.1 r.0.0.0.0.1 r.0.0.0.1 r.0.0.1 r.0.1 r.1) c.write_text-in_default.ensures
