-- What a line that finds things as it would make them leaves: the table as it was. Assumes nothing.
use Rattle.std.specs.Prelude.{Option, Some, None}
use mathlib.Core.Path.{◌≡◌, refl, sym, ◌∙◌}
use mathlib.Core.List.{List}
use mathlib.Core.Bool.{Bool, true, false, cond, false≢true}
use Prim.Native.Nat.{ℕ, ◌%◌, ◌≤◌}
use native.Mathlib.Omega.{arith}
use lib.Dec.{eqb}
use borrow.Author.Tests.{eqb-true, not-true}
use Rattle.digits.specs.Bytes.{AllBytes}
use Rattle.digits.specs.Words.{is_set, without_bit}
use Rattle.digits.proofs.CountLaws.{many_none}
use Rattle.record.specs.declared.Motor.{Motor}
use Rattle.motor.specs.Sound.{busy}
use Rattle.drive.specs.Drives.{released, stopped}
use Rattle.drive.proofs.Laws.{stopped_again, released_free}
use Rattle.line.specs.declared.HeadOrder.{HeadOrder}
use Rattle.line.specs.declared.HeadOrder.TheVariants.{Mode, AllReply, ClearErrors, ClearError, Pause}
use Rattle.line.specs.declared.Order.{Order}
use Rattle.line.specs.declared.Order.TheVariants.{Go, Stop, StopAll, ChangeSpeed, Set, Ask, AskHead, ForHead}
use Rattle.line.specs.Forms.{order_of}
use Rattle.line.specs.Made.{order_made}
use Rattle.line.proofs.OrderLaws.{line_made}
use Rattle.table.specs.declared.head.Head.{Head}
use Rattle.table.specs.Layout.{head_of, paused, with_head, motor_at, with_motor, with_motors}
use Rattle.table.specs.Sound.{sound_table}
use Rattle.table.proofs.TableLaws.{sound_length, sound_record_at, sound_held_at, sound_sealed}
use Rattle.table.proofs.KeptLaws.{motor_back, motors_back}
use Rattle.table.proofs.HeadLaws.{head_same}
use Rattle.commands.specs.Changing.{head_changed, motors_freed, changed}
use Rattle.commands.proofs.ChannelLaws.{named, named_channel}
use Rattle.obeying.specs.Taking.{obeyed}
use Rattle.obeying.proofs.NumberLaws.{refused_number}
use Rattle.laws.specs.Sequences.{urqolina}
use Rattle.laws.specs.Unchanged.{repeats, changes_nothing, Unchanged}
use Rattle.laws.proofs.AccountLaws.{off_stays}
use Rattle.laws.proofs.CallWays.{command_ways}

-- A head order that finds its field so makes the head that is there.
repeated_head : (h : Head) (o : HeadOrder) → repeats h o ≡ true → head_changed h o ≡ h
unfolding repeats head_changed without_bit
repeated_head h (Mode k) e = rw (eqb-true h.mode k e)
repeated_head h (AllReply k) e = rw (eqb-true h.reply k e)
repeated_head h ClearErrors e = rw (eqb-true h.errors 0 e)
repeated_head h (ClearError e) q = rw (not-true (is_set e h.errors) q)
repeated_head h (Pause k) e = rw (eqb-true h.pause k e)

module _ (t : List ℕ) (s : sound_table t ≡ true) (bytes : AllBytes t) where
  -- A motor that is written as it was leaves the table.
  back : (x : ℕ) (m : Motor) → x ≤ 15 → m ≡ motor_at t x → with_motor t x m ≡ t
  back x m h e = rw e (motor_back t x (sound_record_at t x s h) bytes (sound_length t s) h (sound_sealed t s bytes))

  -- Without pause nothing is held, so that PAUSE OFF releases nothing.
  none_held : (head_of t).pause ≡ 0 → with_motors t released ≡ t
  none_held e = motors_back released t s bytes (λ c h. released_free (motor_at t c) (free c h))
    where
      free : (c : ℕ) → c ≤ 15 → (motor_at t c).drive.held ≡ false
      free c h = not-true (motor_at t c).drive.held (rw e at (sound_held_at t c s h))

  head_back_whole : (o : HeadOrder) → repeats (head_of t) o ≡ true → with_head (motors_freed t o) (head_changed (head_of t) o) ≡ t
  head_back_whole o e = rw (repeated_head (head_of t) o e, freed o e) (head_same t (sound_length t s) bytes)
    where
      freed : (o : HeadOrder) → repeats (head_of t) o ≡ true → motors_freed t o ≡ t
      freed (Mode k) e = refl
      freed (AllReply k) e = refl
      freed ClearErrors e = refl
      freed (ClearError n) e = refl
      freed (Pause k) e = off (eqb k 0) refl
        where
          off : (b : Bool) → eqb k 0 ≡ b → cond b (with_motors t released) t ≡ t
          off true z = none_held (unfold repeats in eqb-true (head_of t).pause k e ∙ eqb-true k 0 z)
          off false z = refl

  -- So of every order that changes nothing.
  idle_back : (o : Order) → order_made o ≡ true → changes_nothing t o ≡ true → changed t o ≡ t
  unfolding changed changes_nothing named
  idle_back (Go x a) made e = back x _ (named_channel (Go x a) made) (off_stays (paused (head_of t)) (motor_at t x) a (not-true _ e))
  idle_back (Stop x f) made e = back x _ (named_channel (Stop x f) made) (stopped_again f (motor_at t x) (not-true _ e))
  idle_back (StopAll f) made e =
      motors_back (stopped f) t s bytes
      (λ c h. stopped_again f (motor_at t c) (many_none (λ c. busy (motor_at t c)) 16 (eqb-true _ 0 e) c (omega arith)))
  idle_back (ChangeSpeed x v) made e = absurd (false≢true e)
  idle_back (Set x a) made e = absurd (false≢true e)
  idle_back (Ask x q) made e = refl
  idle_back (AskHead q) made e = refl
  idle_back (ForHead o) made e = head_back_whole o e

-- the table after what a line is, were it accepted
abbrev obeyed_table : List ℕ → Option Order → List ℕ
obeyed_table t (Some o) = changed t o
obeyed_table t None = t

pub unchanged : Unchanged urqolina
unfolding obeyed
unchanged = record {
  table = λ t line reply o bytes e q.
      let made : order_made o ≡ true = rw e at (line_made line) in
      let same : sound_table t ≡ true → obeyed_table t (order_of line) ≡ t = λ s. rw e (idle_back t s bytes o made q) in
      command_ways (λ a. a.result % 256 ≡ 0 → a.table ≡ t) t line reply (λ n i z. refl)
      (λ s v h z. absurd (false≢true (rw (sym (refused_number t v reply) ∙ z) at h))) (λ s p f z. rw f at (same s));
}
