-- Demand 2, the replies: what every line on a sound table answers. Assumes nothing.
use Rattle.std.specs.Prelude.{Result, Ok, Err}
use Rattle.std.specs.Prelude.{Option, Some, None}
use mathlib.Core.Path.{◌≡◌, refl, sym}
use mathlib.Core.List.{List}
use mathlib.Core.Bool.{true, false, false≢true}
use Prim.Native.Nat.{ℕ, ◌+◌, ◌*◌, ◌≤◌}
use lib.ListN.{length}
use borrow.Author.Tests.{le-leb}
use Rattle.digits.specs.Bytes.{put}
use Rattle.drive.specs.Numbers.{number_of}
use Rattle.drive.proofs.NumberLaws.{numbered}
use Rattle.line.specs.declared.Order.{Order}
use Rattle.line.specs.declared.Order.TheVariants.{Go, Stop, StopAll, ChangeSpeed, Set, Ask, AskHead, ForHead}
use Rattle.line.specs.Forms.{has_form}
use Rattle.orders.specs.Values.{needs_remote, value_in_range}
use Rattle.replies.specs.Replies.{echo, question_text, head_text}
use Rattle.table.specs.Layout.{head_of, motor_at}
use Rattle.table.specs.Sound.{sound_table}
use Rattle.commands.specs.Judging.{meets_busy, judge_motor, judge_where, judge}
use Rattle.commands.specs.Changing.{changed}
use Rattle.commands.specs.Answers.{told, answer}
use Rattle.obeying.specs.Taking.{CommandAfter, order_in, refused, obeyed, taken}
use Rattle.urqolina.specs.Calls.{command_call}
use Rattle.laws.specs.Sequences.{urqolina, after}
use Rattle.laws.specs.Deeds.{verdict}
use Rattle.laws.specs.ReadBack.{is_some}
use Rattle.laws.specs.Numbers.{asks, Replies}
use Rattle.laws.proofs.CallWays.{in_form, taken_ways}
use Rattle.laws.proofs.ReadBackLaws.{right_size, asked}

-- An order that is no read is answered OK, or nothing.
unasked : (t : List ℕ) (o : Order) → asks o ≡ false → answer t o ≡ told t (Ok tt)
unfolding answer asks
unasked t (Go x s) e = refl
unasked t (Stop x flags) e = refl
unasked t (StopAll flags) e = refl
unasked t (ChangeSpeed x v) e = refl
unasked t (Set x s) e = refl
unasked t (Ask x q) e = absurd (false≢true (sym e))
unasked t (AskHead q) e = absurd (false≢true (sym e))
unasked t (ForHead o) e = refl

module _ (t line reply : List ℕ) (s : sound_table t ≡ true) (enough : 32 ≤ length reply) where
  -- what a line that is no read leaves: its number and its text, as all-reply is after it
  Told : CommandAfter → Option Order → Type 0
  Told a p =
      let text = echo (head_of a.table).reply (verdict t p) in
      (a.result ≡ number_of (verdict t p) + 256 * length text) × (a.reply ≡ put reply 0 text)

  told_so : (p : Option Order) → is_some asks p ≡ false → Told (taken t p reply) p
  unfolding Told refused obeyed
  told_so p e =
      taken_ways (λ a q. Told a p) t reply p (λ h. (refl, refl))
      (λ o q z. go o q z (rw q at e))
    where
      go : (o : Order) → p ≡ Some o → number_of (judge t o) ≡ 0 → asks o ≡ false → Told (obeyed t o reply) p
      go o q z e = rw (q, (numbered (judge t o)).done z, unasked (changed t o) o e) (refl, refl)

  told_call : is_some asks (order_in t line) ≡ false → Told (command_call t line reply) (order_in t line)
  unfolding command_call number_of
  told_call e = rw (right_size t s, le-leb 32 (length reply) enough, s) (told_so (order_in t line) e)

  pub replies : Replies urqolina t line reply s enough
  unfolding judge judge_where has_form needs_remote value_in_range meets_busy judge_motor changed answer after Told
  replies =
      record {
        reads = λ x q e. asked t line reply (Ask x q) (question_text (head_of t).mode x (motor_at t x) q) s enough (in_form t line (Ask x q) e refl) refl refl refl;
        head_reads = λ q e. asked t line reply (AskHead q) (head_text (head_of t) q) s enough e refl refl refl;
        others = told_call;
      }
