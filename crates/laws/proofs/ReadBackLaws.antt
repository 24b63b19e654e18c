-- Demand 2, the settings: over any sequence of calls, what was accepted is what the read command answers. Assumes nothing.
use Rattle.std.specs.Prelude.{Result, Ok, Err}
use Rattle.std.specs.Prelude.{Option, Some, None}
use mathlib.Core.Path.{◌≡◌, refl, ◌∙◌}
use mathlib.Core.List.{List, [], ◌∷◌}
use mathlib.Core.Bool.{Bool, true, false, not, cond}
use Prim.Native.Nat.{ℕ, ◌*◌, ◌≤◌}
use native.Mathlib.Nat.{zero-add}
use native.Mathlib.Omega.{arith}
use lib.ListN.{length, get_or}
use lib.Dec.{eqb}
use borrow.Author.Tests.{eq-eqb, le-leb, not-true}
use Rattle.digits.specs.Bytes.{put}
use Rattle.digits.specs.Words.{with_bit}
use Rattle.text.specs.Text.{bytes}
use Rattle.record.specs.declared.Motor.{Motor}
use Rattle.motor.proofs.SoundLaws.{and_l, and_r}
use Rattle.drive.specs.Numbers.{number_of, flag_bit}
use Rattle.drive.specs.Drives.{switch_read}
use Rattle.pulses.specs.Ticks.{tick_motor}
use Rattle.line.specs.declared.Setting.{Setting}
use Rattle.line.specs.declared.Question.TheVariants.{AskStatus}
use Rattle.line.specs.declared.HeadQuestion.TheVariants.{AskAllReply, AskPause, AskFree}
use Rattle.line.specs.declared.HeadOrder.{HeadOrder}
use Rattle.line.specs.declared.HeadOrder.TheVariants.{Mode, AllReply, ClearErrors, ClearError, Pause}
use Rattle.line.specs.declared.Order.{Order}
use Rattle.line.specs.declared.Order.TheVariants.{Go, Stop, StopAll, ChangeSpeed, Set, Ask, AskHead, ForHead}
use Rattle.line.specs.Forms.{asks_on, has_form}
use Rattle.line.specs.Made.{on_bench, setting_made, order_made}
use Rattle.line.proofs.OrderLaws.{line_made}
use Rattle.orders.specs.Values.{needs_remote, setting_in_range, value_in_range}
use Rattle.replies.specs.Replies.{question_text, all_reply_text, pause_text, free_text, head_text}
use Rattle.status.specs.Status.{mode_letter, status_text}
use Rattle.table.specs.Layout.{table_size, head_of, with_head, with_errors, motor_at, with_motor, with_motors, fresh_table}
use Rattle.table.specs.declared.head.Head.{Head}
use Rattle.table.specs.Sound.{sound_table}
use Rattle.table.specs.Computing.{computing_table}
use Rattle.table.proofs.TableLaws.{sound_length, sound_motor_at}
use Rattle.table.proofs.HeadLaws.{same_head, head_back}
use Rattle.table.proofs.KeptLaws.{motor_beside}
use Rattle.commands.specs.Judging.{meets_busy, judge_motor, judge_where, judge}
use Rattle.commands.proofs.HeadOrderLaws.{freed_length}
use Rattle.commands.specs.Changing.{head_changed, motors_freed, changed, flagged}
use Rattle.commands.proofs.ChannelLaws.{named, named_channel}
use Rattle.commands.specs.Answers.{answer}
use Rattle.obeying.specs.Taking.{order_in, refused, obeyed, taken}
use Rattle.urqolina.specs.Calls.{command_call}
use Rattle.laws.specs.Sequences.{urqolina, Call, command, reading, tick, after, run, Beginning, from_fresh, ran, never}
use Rattle.laws.specs.Deeds.{verdict, sets, order_taken, deed_of, deed}
use Rattle.laws.specs.Ledger.{count_at}
use Rattle.laws.specs.ReadBack.{question_for, text_for, changes, head_topic, writes_field, is_some, changes_head, ReadsBack}
use Rattle.laws.specs.Neighbours.{of_head}
use Rattle.laws.proofs.DeedLaws.{Fits, fits_set, performed, paused_in}
use Rattle.laws.proofs.Following.{Follows, order_follows, next}
use Rattle.laws.proofs.CallWays.{in_form, sound_ways, reading_ways, tick_ways}
use Rattle.laws.proofs.PartLaws.{motors_beside}
use Rattle.laws.proofs.NeighbourLaws.{changed_head, card_stays}
use Rattle.laws.proofs.LastingLaws.{made_fresh, run_sound, ran_sound}
use Rattle.laws.proofs.TravelLaws.{tick_count_law}
use Rattle.laws.proofs.SettingLaws.{Tells, set_tells, performed_tells}

-- What every call keeps that does not pass a test is kept over a sequence of such calls.
run_keeps : (P : List ℕ → Type 0) (test : List ℕ → Call → Bool)
    → ((t : List ℕ) (k : Call) → sound_table t ≡ true → test t k ≡ false → P t → P (after urqolina t k).table)
    → (t : List ℕ) (ks : List Call) → sound_table t ≡ true → never urqolina test t ks ≡ true → P t → P (run urqolina t ks)
unfolding run never
run_keeps P test keeps t [] s h p = p
run_keeps P test keeps t (k ∷ ks) s h p =
    let u = (after urqolina t k).table in
    let first = not-true (test t k) (and_l (not (test t k)) (never urqolina test u ks) h) in
    run_keeps P test keeps u ks (next t k s).sound (and_r (not (test t k)) (never urqolina test u ks) h) (keeps t k s first p)

-- A sound table passes the test of its size.
pub right_size : (t : List ℕ) → sound_table t ≡ true → eqb (length t) table_size ≡ true
right_size t s = eq-eqb (length t) table_size (sound_length t s)

-- what a call does to the table, and the order that it takes
data Outcome (t : List ℕ) : Option Order → List ℕ → Type 0 where
  leaves : Outcome t None t
  refuses : (n : ℕ) → Outcome t None (flagged t n)
  obeys : (o : Order) → order_made o ≡ true → number_of (judge t o) ≡ 0 → Outcome t (Some o) (changed t o)
  motor : (x : ℕ) (m : Motor) → x ≤ 15 → Outcome t None (with_motor t x m)
  motors : (f : Motor → Motor) → Outcome t None (with_motors t f)

-- Every call on a sound table has such an outcome.
outcome : (t : List ℕ) (k : Call) → sound_table t ≡ true → Outcome t (order_taken t k) (after urqolina t k).table
unfolding order_taken after refused obeyed
outcome t (command line reply) s =
    sound_ways (λ a p. Outcome t p a.table) t line reply s leaves (λ h. refuses (number_of (verdict t (order_in t line)))) (λ o e z. obeys o (rw e at (line_made line)) z)
outcome t (reading x n) s = reading_ways (λ a. Outcome t None a.table) t x n (λ k i. leaves) (λ o h. motor x (switch_read (motor_at t x) n) h)
outcome t (tick p) s = tick_ways (λ a. Outcome t None a.table) t p (λ k i. leaves) (λ o. motors (λ m. (tick_motor m).motor))

-- what is known of an order that a call takes
record Takes (t u : List ℕ) (o : Order) : Type 0 where
  made : order_made o ≡ true
  judged : number_of (judge t o) ≡ 0
  table : u ≡ changed t o

-- Only a line that is obeyed takes an order.
no_order : {A : Type 0} {o : Order} → None ≡ Some o → A
no_order e = let z : ◌≡◌ {A = ℕ} 0 1 = cc in absurd (omega arith)

takes : (t : List ℕ) (k : Call) (o : Order) → sound_table t ≡ true → order_taken t k ≡ Some o → Takes t (after urqolina t k).table o
takes t k o s = go (outcome t k s)
  where
    go : {p : Option Order} {u : List ℕ} → Outcome t p u → p ≡ Some o → Takes t u o
    go leaves e = no_order e
    go (refuses n) e = no_order e
    go (obeys q m j) e = record { made = cc; judged = cc; table = cc }
    go (motor x m h) e = no_order e
    go (motors f) e = no_order e

-- An order that is accepted and changes nothing answers its text.
pub asked : (t line reply : List ℕ) (o : Order) (text : List ℕ) → sound_table t ≡ true → 32 ≤ length reply → order_in t line ≡ Some o
    → judge t o ≡ (Ok tt) → changed t o ≡ t → answer t o ≡ text
    → after urqolina t (command line reply) ≡ record { result = 256 * length text; table = t; buffer = put reply 0 text }
unfolding after command_call taken obeyed number_of
asked t line reply o text s h e j c a = rw (right_size t s, le-leb 32 (length reply) h, s, e, j, c, a, zero-add)

-- The status begins with the mode's letter.
status_letter : (reply : List ℕ) (n x : ℕ) (m : Motor) → get_or (put reply 0 (question_text n x m AskStatus)) 0 0 ≡ mode_letter n
unfolding put question_text status_text
status_letter reply n x m = refl

-- So does what `STQ?` answers.
free_letter : (reply : List ℕ) (h : Head) → get_or (put reply 0 (head_text h AskFree)) 0 0 ≡ mode_letter h.mode
unfolding put head_text free_text
free_letter reply h = refl

-- what an accepted setting leaves: its channel's motor tells it
record Settled (u : List ℕ) (x : ℕ) (s : Setting) : Type 0 where
  channel : x ≤ 15
  made : setting_made s ≡ true
  tells : Tells (motor_at u x) s

-- A setting that fits is in its range.
fits_range : (m : Motor) (s : Setting) → Fits m (sets s) → setting_in_range s ≡ true
fits_range m s (fits_set _ still h made) = h

-- Every accepted setting leaves that,
settles : (t : List ℕ) (k : Call) (x : ℕ) (s : Setting) → sound_table t ≡ true → order_taken t k ≡ Some (Set x s)
    → Settled (after urqolina t k).table x s
unfolding order_made deed_of performed
settles t k x s o e =
    let w = takes t k (Set x s) o e in
    let h : x ≤ 15 = unfold named in named_channel (Set x s) w.made in
    let made = and_r (on_bench x) (setting_made s) w.made in
    let f : Follows t (changed t (Set x s)) x (sets s) = rw (eq-eqb x x refl) at (order_follows t (Set x s) x o h w.made w.judged) in
    record {
      channel = h;
      made = made;
      tells = rw (w.table, f.motor) (set_tells (motor_at t x) s (fits_range (motor_at t x) s f.fits) made);
    }

-- and it is told as long as no call changes it.
told_on : (u : List ℕ) (later : List Call) (x : ℕ) (s : Setting) → sound_table u ≡ true → never urqolina (changes urqolina x s) u later ≡ true
    → Settled u x s → Tells (motor_at (run urqolina u later) x) s
unfolding changes
told_on u later x s o h w = run_keeps (λ t. Tells (motor_at t x) s) (changes urqolina x s) keeps u later o h w.tells
  where
    keeps : (t : List ℕ) (k : Call) → sound_table t ≡ true → changes urqolina x s t k ≡ false → Tells (motor_at t x) s
        → Tells (motor_at (after urqolina t k).table x) s
    keeps t k o e told =
        let count = tick_count_law t k x o w.channel in
        rw ((next t k o).follows x w.channel).motor
        (performed_tells (paused_in t) (motor_at t x) (deed x t k) (count_at (after urqolina t k).buffer x) s (sound_motor_at t x o w.channel) count w.made e told)

-- the fields of the head, numbered as their orders are: 0 the mode, 1 all-reply, 2 the error flags, 3 pause; and the card, which none is of
abbrev field : ℕ → Head → ℕ
field i h = cond (eqb 0 i) h.mode (cond (eqb 1 i) h.reply (cond (eqb 2 i) h.errors (cond (eqb 3 i) h.pause h.card)))

-- Error flags that are written leave the other fields.
errors_field : (h : Head) (n i : ℕ) → eqb 2 i ≡ false → field i (with_errors h n) ≡ field i h
errors_field h n i e = rw e

-- An order of the head leaves every field but its own.
other_field : (h : Head) (o : HeadOrder) (i : ℕ) → eqb (head_topic o) i ≡ false → field i (head_changed h o) ≡ field i h
unfolding head_changed head_topic
other_field h (Mode n) i e = rw e
other_field h (AllReply n) i e = rw e
other_field h ClearErrors i e = rw e
other_field h (ClearError n) i e = rw e
other_field h (Pause n) i e = rw e

-- A field of the head is left by every call that takes no order to write it; the error flags aside, which refusals set.
module _ (t : List ℕ) (s : sound_table t ≡ true) (i : ℕ) (l : eqb 2 i ≡ false) where
  whole : length t ≡ table_size
  whole = sound_length t s

  -- a head that is written
  written : (u : List ℕ) (h : Head) → length u ≡ table_size → field i h ≡ field i (head_of t) → field i (head_of (with_head u h)) ≡ field i (head_of t)
  written u h l e = rw (head_back u h l) e

  -- an order that is not of the head
  unwritten : (o : Order) → order_made o ≡ true → of_head o ≡ false → field i (head_of (changed t o)) ≡ field i (head_of t)
  unwritten o made q = rw (same_head t (changed t o) (λ j n h. changed_head t o j n s made q h))

  order_field : (o : Order) → order_made o ≡ true → writes_field i o ≡ false → field i (head_of (changed t o)) ≡ field i (head_of t)
  unfolding of_head writes_field
  order_field (Go x r) made e = unwritten (Go x r) made refl
  order_field (Stop x flags) made e = unwritten (Stop x flags) made refl
  order_field (StopAll flags) made e = unwritten (StopAll flags) made refl
  order_field (ChangeSpeed x v) made e = unwritten (ChangeSpeed x v) made refl
  order_field (Set x r) made e = unwritten (Set x r) made refl
  order_field (Ask x r) made e = unwritten (Ask x r) made refl
  order_field (AskHead r) made e = unwritten (AskHead r) made refl
  order_field (ForHead o) made e = unfold changed in written (motors_freed t o) (head_changed (head_of t) o) (freed_length t o whole) (other_field (head_of t) o i e)

  call_field : (k : Call) → changes_head i t k ≡ false → field i (head_of (after urqolina t k).table) ≡ field i (head_of t)
  call_field k = go (outcome t k s)
    where
      go : {p : Option Order} {u : List ℕ} → Outcome t p u → is_some (writes_field i) p ≡ false → field i (head_of u) ≡ field i (head_of t)
      go leaves e = refl
      go (refuses n) e = unfold flagged in written t _ whole (errors_field (head_of t) (with_bit (flag_bit n) (head_of t).errors) i l)
      go (obeys o m j) e = order_field o m e
      go (motor x m h) e = rw (same_head t (with_motor t x m) (motor_beside t x m whole h))
      go (motors f) e = rw (same_head t (with_motors t f) (motors_beside t f whole))

-- So it stays over every sequence that takes no such order.
field_on : (u : List ℕ) (later : List Call) (i n : ℕ) → eqb 2 i ≡ false → sound_table u ≡ true → never urqolina (changes_head i) u later ≡ true
    → field i (head_of u) ≡ n → field i (head_of (run urqolina u later)) ≡ n
field_on u later i n h o e w =
    run_keeps (λ t. field i (head_of t) ≡ n) (changes_head i) (λ t k s c p. rw (call_field t s i h k c) p) u later o e w

-- The card stays over every sequence, and is the one that fresh was given.
run_card : (t : List ℕ) (ks : List Call) → (head_of (run urqolina t ks)).card ≡ (head_of t).card
unfolding run
run_card t [] = refl
run_card t (k ∷ ks) = run_card (after urqolina t k).table ks ∙ card_stays t k

fresh_card : (card : ℕ) → card ≤ 1 → (head_of (fresh_table card)).card ≡ card
unfolding computing_table
fresh_card card h = omega arith

pub ran_card : (b : Beginning) (ks : List Call) → (head_of (ran urqolina b ks)).card ≡ b.card
ran_card b ks = run_card (from_fresh urqolina b) ks ∙ (rw (made_fresh b) (fresh_card b.card b.known))

-- The demand: what was set is answered, whatever came before, and whatever came since that did not change it.
pub reads_back : (b : Beginning) (ks : List Call) (k : Call) (later : List Call) (line reply : List ℕ) (enough : 32 ≤ length reply)
    → ReadsBack urqolina b ks k later line reply enough
unfolding judge judge_where has_form asks_on needs_remote value_in_range meets_busy judge_motor changed head_changed answer head_text all_reply_text pause_text
reads_back b ks k later line reply enough =
    record {
      setting = λ x s e h q.
          read (Ask x (question_for s)) (text_for s) (in_form v line _ q refl) refl refl (told_on u later x s sound h (settles t k x s start e) (head_of v).mode x);
      held = λ x s e h n. told_on u later x s sound h (settles t k x s start e) n x;
      reply_held = λ n e h. kept 1 (AllReply n) n refl e refl h;
      mode_held = λ n e h. kept 0 (Mode n) n refl e refl h;
      all_reply = λ n e h q.
          read (AskHead AskAllReply) (cond (eqb n 1) (bytes "EN") (bytes "DS")) (in_form v line _ q refl) refl refl (rw (kept 1 (AllReply n) n refl e refl h));
      pause_held = λ n e h. kept 3 (Pause n) n refl e refl h;
      pause = λ n e h q.
          read (AskHead AskPause) (cond (eqb n 1) (bytes "ON") (bytes "OFF")) (in_form v line _ q refl) refl refl (rw (kept 3 (Pause n) n refl e refl h));
      mode = λ n x e h q.
          let m = motor_at v x in
          rw (read (Ask x AskStatus) (question_text (head_of v).mode x m AskStatus) (in_form v line _ q refl) refl refl refl, status_letter reply (head_of v).mode x m, kept 0 (Mode n) n refl e refl h);
      mode_free = λ n e h four q.
          let card : (head_of v).card ≡ 1 = run_card u later ∙ card_stays t k ∙ ran_card b ks ∙ four in
          rw (read (AskHead AskFree) (head_text (head_of v) AskFree) (in_form v line (AskHead AskFree) q (rw card)) refl refl refl, free_letter reply (head_of v), kept 0 (Mode n) n refl e refl h);
    }
  where
    t : List ℕ
    t = ran urqolina b ks

    u : List ℕ
    u = (after urqolina t k).table

    v : List ℕ
    v = run urqolina u later

    start : sound_table t ≡ true
    start = ran_sound b ks

    sound : sound_table u ≡ true
    sound = (next t k start).sound

    read : (o : Order) (text : List ℕ) → order_in v line ≡ Some o → judge v o ≡ (Ok tt) → changed v o ≡ v → answer v o ≡ text
        → after urqolina v (command line reply) ≡ record { result = 256 * length text; table = v; buffer = put reply 0 text }
    read o text q j c a = asked v line reply o text (run_sound u later sound) enough q j c a

    kept : (i : ℕ) (o : HeadOrder) (n : ℕ) → eqb 2 i ≡ false → order_taken t k ≡ Some (ForHead o) → field i (head_changed (head_of t) o) ≡ n
        → never urqolina (changes_head i) u later ≡ true → field i (head_of v) ≡ n
    kept i o n h e c w =
        field_on u later i n h sound w (rw ((takes t k (ForHead o) start e).table, head_back (motors_freed t o) (head_changed (head_of t) o) (freed_length t o (sound_length t start))) c)
