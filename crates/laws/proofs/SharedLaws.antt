-- Demand 3 over the number of motors that may be busy: one proof for both cards. Assumes nothing.
use Rattle.std.specs.Prelude.{Result, Ok, Err}
use Rattle.std.specs.Prelude.{Option, Some, None}
use mathlib.Core.Path.{◌≡◌, refl, sym, ◌∙◌}
use mathlib.Core.List.{List, [], ◌∷◌}
use mathlib.Core.Bool.{Bool, true, false, ◌&&◌, cond}
use Prim.Native.Nat.{ℕ, ◌-◌, ◌%◌, ◌≤◌}
use native.Mathlib.Omega.{arith}
use lib.ListN.{length}
use lib.Dec.{eqb, leb}
use borrow.Author.Tests.{eqb-true, eqb-false, le-leb, lt-leb}
use Rattle.digits.specs.Bytes.{put}
use Rattle.digits.specs.Words.{bits_set}
use Rattle.digits.proofs.CountLaws.{many_same}
use Rattle.text.specs.Text.{digit_byte}
use Rattle.motor.specs.Sound.{busy}
use Rattle.motor.proofs.SoundLaws.{and_r}
use Rattle.drive.specs.declared.Refusal.TheVariants.{Full}
use Rattle.drive.specs.Numbers.{number_of}
use Rattle.drive.proofs.KeptSound.{full_refuses}
use Rattle.line.specs.declared.Start.{Start}
use Rattle.line.specs.declared.HeadQuestion.TheVariants.{AskFree}
use Rattle.line.specs.declared.Order.TheVariants.{Go, AskHead}
use Rattle.line.specs.Forms.{order_of, asks_on, has_form}
use Rattle.line.specs.Made.{on_bench, start_made, order_made}
use Rattle.line.proofs.OrderLaws.{line_made}
use Rattle.orders.specs.Values.{needs_remote, value_in_range}
use Rattle.orders.specs.Settings.{course_of}
use Rattle.status.specs.Status.{mode_letter}
use Rattle.replies.specs.Replies.{free_text, head_text}
use Rattle.table.specs.Layout.{table_size, head_of, card_full, motor_at}
use Rattle.table.specs.Sound.{sound_table}
use Rattle.table.proofs.SealLaws.{set_many}
use Rattle.table.proofs.TableLaws.{sound_motor_at, sound_set}
use Rattle.table.proofs.HeadLaws.{sound_few}
use Rattle.commands.specs.Judging.{meets_busy, judge_motor, judge_where, judge}
use Rattle.commands.specs.Changing.{changed}
use Rattle.commands.specs.Answers.{answer}
use Rattle.commands.proofs.ChannelLaws.{named, named_channel}
use Rattle.obeying.specs.Taking.{order_in}
use Rattle.laws.specs.Sequences.{urqolina, Call, command, after, Beginning, ran}
use Rattle.laws.specs.Ledger.{sets_off}
use Rattle.laws.specs.Pulses.{account_now, most, driving, Shared}
use Rattle.laws.proofs.DeedLaws.{paused_in}
use Rattle.laws.proofs.AccountLaws.{off_leaves}
use Rattle.laws.proofs.CallWays.{in_form, line_number}
use Rattle.laws.proofs.Following.{Passed, passed_where}
use Rattle.laws.proofs.LastingLaws.{ran_sound}
use Rattle.laws.proofs.PulseLaws.{balance, leaves_busy}
use Rattle.laws.proofs.ReadBackLaws.{right_size, asked, ran_card}

-- A start that every other check lets leave is judged by whether the card is full.
module _ (t : List ℕ) (x : ℕ) (s : Start) (sound : sound_table t ≡ true) (made : order_made (Go x s) ≡ true) (otherwise : judge_where false t (Go x s) ≡ (Ok tt))
    (off : sets_off (motor_at t x) s ≡ true) where
  p : Passed false t (Go x s)
  p = passed_where false t (Go x s) (rw otherwise (unfold number_of in refl))

  leaves_full : judge_where true t (Go x s) ≡ (Err Full)
  unfolding judge_where judge_motor meets_busy order_made named
  leaves_full =
      let m = motor_at t x in
      let begun = and_r (on_bench x) (start_made s) made in
      let goes = (leaves_busy (off_leaves false (paused_in t) m s (sound_motor_at t x sound (named_channel (Go x s) made)) p.motor begun off)).0 in
      rw (p.remote, p.value, p.free) (full_refuses (paused_in t) m (course_of m s) p.motor p.free goes)

  pub by_card : (f : Bool) → number_of (judge_where f t (Go x s)) ≡ cond f 14 0
  unfolding number_of
  by_card true = rw leaves_full
  by_card false = rw otherwise

-- Of what is no more than another, whether it is as much is whether the other is no more.
at_most : (n k : ℕ) → n ≤ k → leb k n ≡ eqb n k
at_most n k h = go (eqb n k) refl
  where
    go : (b : Bool) → eqb n k ≡ b → leb k n ≡ b
    go true e = le-leb k n (omega (arith, eqb-true n k e))
    go false e = lt-leb k n (omega (arith, eqb-false n k e))

-- After the beginning b and the calls ks.
module _ (b : Beginning) (ks : List Call) where
  abbrev t : List ℕ
  t = ran urqolina b ks

  s : sound_table t ≡ true
  s = ran_sound b ks

  card : (head_of t).card ≡ b.card
  card = ran_card b ks

  -- The bits of the word are the busy channels, and those are the ones whose drive lasts.
  word : bits_set (head_of t).busy ≡ driving urqolina b ks
  word =
      rw (sound_set t s, set_many t)
      (many_same (λ c. (account_now urqolina b c ks).lasts) (λ c. busy (motor_at t c)) 16 (λ c h. sym (balance b c (omega arith) ks).0.lasting))

  few : driving urqolina b ks ≤ most urqolina b ks
  few = rw (word, card) at (sound_few t s)

  full_now : card_full (head_of t) ≡ eqb (driving urqolina b ks) (most urqolina b ks)
  unfolding card_full
  full_now = rw (word, card) (at_most (driving urqolina b ks) (most urqolina b ks) few)

  sizes : (reply : List ℕ) → 32 ≤ length reply → (eqb (length t) table_size && leb 32 (length reply)) ≡ true
  sizes reply h = rw (right_size t s) (le-leb 32 (length reply) h)

  gate : (line reply : List ℕ) (x : ℕ) (st : Start) → 32 ≤ length reply → order_of line ≡ Some (Go x st) → judge_where false t (Go x st) ≡ (Ok tt)
      → sets_off (motor_at t x) st ≡ true → (urqolina.command t line reply).result % 256 ≡ cond (eqb (driving urqolina b ks) (most urqolina b ks)) 14 0
  unfolding has_form judge
  gate line reply x st h q j off =
      let made : order_made (Go x st) ≡ true = rw q at (line_made line) in
      let number = rw (in_form t line (Go x st) q refl) at (line_number t line reply (sizes reply h) s) in
      rw (number, ← full_now) (by_card t x st s made j off (card_full (head_of t)))

  free : (line reply : List ℕ) → 32 ≤ length reply → order_of line ≡ Some (AskHead AskFree) → b.card ≡ 1
      → let text = mode_letter (head_of t).mode ∷ digit_byte (4 - driving urqolina b ks) ∷ [] in
      after urqolina t (command line reply) ≡ record { result = 512; table = t; buffer = put reply 0 text }
  unfolding has_form asks_on judge judge_where needs_remote value_in_range meets_busy judge_motor changed answer head_text free_text
  free line reply h q e =
      let four : (head_of t).card ≡ 1 = card ∙ e in
      asked t line reply (AskHead AskFree) _ s h (in_form t line (AskHead AskFree) q (rw four)) refl refl (rw word)

  formless : (line reply : List ℕ) → 32 ≤ length reply → order_of line ≡ Some (AskHead AskFree) → b.card ≡ 0 → (urqolina.command t line reply).result % 256 ≡ 1
  unfolding has_form asks_on number_of
  formless line reply h q e =
      let sixteen : (head_of t).card ≡ 0 = card ∙ e in
      let none : order_in t line ≡ None = rw (q, sixteen) in
      rw none at (line_number t line reply (sizes reply h) s)

  pub shared_so : Shared urqolina b ks
  shared_so = record { few = few; gate = gate; free = free; formless = formless; word = word; card = card }
