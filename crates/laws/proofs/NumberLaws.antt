-- The numbers handed back, for every table and all inputs. Assumes nothing.
use Rattle.std.specs.Prelude.{Result, Ok, Err}
use Rattle.std.specs.Prelude.{Option, Some, None}
use mathlib.Core.Path.{◌≡◌, refl, sym, ◌∙◌}
use mathlib.Core.List.{List, []}
use mathlib.Core.Bool.{Bool, true, false, ◌&&◌, ◌||◌, not, cond, false≢true}
use Prim.Native.Nat.{ℕ, ◌%◌, ◌≤◌, ◌<◌}
use native.Mathlib.Omega.{arith}
use lib.ListN.{length}
use lib.Dec.{eqb, leb}
use borrow.Author.Tests.{eq-eqb, ne_eqb, eqb-true, le-leb, lt-leb, leb-true}
use Rattle.digits.specs.Words.{how_many}
use Rattle.digits.proofs.CountLaws.{many_fewer}
use Rattle.record.specs.declared.Motor.{Motor}
use Rattle.motor.specs.Switches.{unread, blocked, room}
use Rattle.motor.specs.Sound.{busy}
use Rattle.drive.specs.Numbers.{Verdict}
use Rattle.drive.specs.declared.Refusal.TheVariants.{Busy, OutOfRange, LocalMode, Disabled, Unread, SwitchAhead, AtLimit, AtRangeEnd, NotDriving}
use Rattle.drive.specs.declared.Course.{Course}
use Rattle.drive.specs.declared.Course.TheVariants.{Stay, Beyond, To, Along}
use Rattle.drive.specs.Drives.{towards, at_range_end, hindrance, judge_start}
use Rattle.drive.specs.Numbers.{number_of, is_silent, is_refusal}
use Rattle.drive.proofs.NumberLaws.{numbered}
use Rattle.line.specs.declared.Order.{Order}
use Rattle.line.specs.declared.Order.TheVariants.{Go, Stop, StopAll, ChangeSpeed, Set, Ask, AskHead, ForHead}
use Rattle.line.specs.declared.Start.{Start}
use Rattle.line.specs.Forms.{order_of}
use Rattle.line.specs.Made.{order_made}
use Rattle.line.proofs.OrderLaws.{line_made}
use Rattle.orders.specs.Values.{needs_remote, value_in_range}
use Rattle.orders.specs.Settings.{course_of}
use Rattle.table.specs.Layout.{table_size, head_of, card_full, motor_at}
use Rattle.table.specs.Sound.{sound_table}
use Rattle.table.proofs.SealLaws.{set_many}
use Rattle.table.proofs.TableLaws.{sound_set}
use Rattle.table.proofs.HeadLaws.{sound_range, range_parts}
use Rattle.commands.specs.Judging.{meets_busy, judge_motor, judge_where, judge}
use Rattle.commands.proofs.ChannelLaws.{named, named_channel}
use Rattle.commands.specs.Changing.{flagged}
use Rattle.obeying.specs.Taking.{order_in, refused, obeyed}
use Rattle.obeying.proofs.NumberLaws.{either, judge_passes, refused_number, obeyed_number}
use Rattle.urqolina.specs.Calls.{command_call}
use Rattle.urqolina.proofs.CallLaws.{sizes_card}
use Rattle.urqolina.proofs.Refusals.{fresh_made_law, fresh_refused_law, command_size, command_unsound, reading_size, reading_unsound, tick_size, tick_unsound, reading_accepted, tick_accepted}
use Rattle.laws.specs.Sequences.{urqolina, Call, command, reading, tick, After, after}
use Rattle.laws.specs.Deeds.{verdict, order_taken}
use Rattle.laws.specs.ReadBack.{is_some}
use Rattle.laws.specs.Numbers.{is_command, lent, sizes_right, starting, Numbers}
use Rattle.laws.proofs.CallWays.{on_card_law, sound_ways, Silent, silent_other, command_ways, reading_ways, tick_ways, line_number}

-- A call with a wrong size gives 5, and one on a table that is not sound 6.
sizes : (t : List ℕ) (k : Call) → sizes_right t k ≡ false → after urqolina t k ≡ record { result = 5; table = t; buffer = lent k }
unfolding after
sizes t (command line reply) e = rw (command_size t line reply e)
sizes t (reading c n) e = rw (reading_size t c n e)
sizes t (tick p) e = rw (tick_size t p e)

unsound : (t : List ℕ) (k : Call) → sizes_right t k ≡ true → sound_table t ≡ false → after urqolina t k ≡ record { result = 6; table = t; buffer = lent k }
unfolding after
unsound t (command line reply) e u = rw (command_unsound t line reply e u)
unsound t (reading c n) e u = rw (reading_unsound t c n e u)
unsound t (tick p) e u = rw (tick_unsound t p e u)

-- A reading and a tick have nothing more to refuse.
done : (t : List ℕ) (k : Call) → is_command k ≡ false → sizes_right t k ≡ true → sound_table t ≡ true → (after urqolina t k).result ≡ 0
unfolding after
done t (command line reply) c e s = absurd (false≢true (sym c))
done t (reading x n) c e s = reading_accepted t x n e s
done t (tick p) c e s = tick_accepted t p e s

-- where a call gives 5 or 6, that is its whole result, and the table t and the buffer b are as they were
abbrev Left : List ℕ → List ℕ → After → Type 0
Left t b a = (n : ℕ) → is_silent n ≡ true → a.result % 256 ≡ n → a ≡ record { result = n; table = t; buffer = b }

left : (t b : List ℕ) (k : ℕ) → Silent k → Left t b (record { result = k; table = t; buffer = b })
left t b k h n z e = let same : k ≡ n = omega (arith, h.2, e) in rw same

-- Neither 5 and 6 nor a refusal is 0; and no refusal is 5 or 6.
silent_some : (n : ℕ) → is_silent n ≡ true → n ≡ 0 → ⊥
silent_some n h e = false≢true (rw e at h)

refusal_some : (n : ℕ) → is_refusal n ≡ true → n ≡ 0 → ⊥
refusal_some n h e = false≢true (rw e at h)

refusal_told : (n : ℕ) → is_refusal n ≡ true → is_silent n ≡ true → ⊥
refusal_told n h = go (eqb n 5) refl (eqb n 6) refl
  where
    go : (a : Bool) → eqb n 5 ≡ a → (b : Bool) → eqb n 6 ≡ b → (a || b) ≡ true → ⊥
    go true e b f s = false≢true (rw (eqb-true n 5 e) at h)
    go false e true f s = false≢true (rw (eqb-true n 6 f) at h)
    go false e false f s = false≢true s

-- So every call leaves them, where it gives 5 or 6.
nothing : (t : List ℕ) (k : Call) → Left t (lent k) (after urqolina t k)
unfolding after
nothing t (command line reply) =
    command_ways (λ a. Left t reply (record { result = a.result; table = a.table; buffer = a.reply })) t line reply
    (λ k h. left t reply k h)
    (λ s v h n z e. absurd (refusal_told n (rw (sym (refused_number t v reply) ∙ e) at h) z))
    (λ s o q n z e. absurd (silent_some n z (sym e ∙ obeyed_number t o reply)))
nothing t (reading c x) =
    reading_ways (λ a. Left t [] (record { result = a.result; table = a.table; buffer = [] })) t c x (λ k h. left t [] k h)
    (λ s h n z e. absurd (silent_some n z (sym e)))
nothing t (tick p) =
    tick_ways (λ a. Left t p (record { result = a.result; table = a.table; buffer = a.pulses })) t p (λ k h. left t p k h)
    (λ s n z e. absurd (silent_some n z (sym e)))

-- 4 is given by none.
split : (t : List ℕ) (k : Call) → (after urqolina t k).result % 256 ≡ 4 → ⊥
unfolding after
split t (command line reply) =
    command_ways (λ a. a.result % 256 ≡ 4 → ⊥) t line reply (λ n h. silent_other n 4 h refl)
    (λ s v h e. (numbered v).split (sym (refused_number t v reply) ∙ e))
    (λ s o q e. absurd (omega (arith, sym (obeyed_number t o reply) ∙ e)))
split t (reading c x) = reading_ways (λ a. a.result % 256 ≡ 4 → ⊥) t c x (λ n h. silent_other n 4 h refl) (λ s h e. absurd (omega (arith, e)))
split t (tick p) = tick_ways (λ a. a.result % 256 ≡ 4 → ⊥) t p (λ n h. silent_other n 4 h refl) (λ s e. absurd (omega (arith, e)))

-- 8 to 12 and 14, the numbers of what keeps a motor from leaving; an order that is no start gets none of them, and nor does a line without
-- form.
abbrev hinders : ℕ → Bool
hinders n = leb 8 n && not (eqb n 13)

abbrev unhindering : Verdict → Bool
unhindering v = not (hinders (number_of v))

unhindered : (t : List ℕ) (o : Order) → starting o ≡ false → unhindering (judge t o) ≡ true
unfolding judge_motor number_of
unhindered t o i = judge_passes unhindering t o refl refl refl (by_motor o i)
  where
    by_motor : (o : Order) → starting o ≡ false → unhindering (judge_motor (card_full (head_of t)) t o) ≡ true
    by_motor (Go x s) i = absurd (false≢true (sym i))
    by_motor (Stop x e) i = refl
    by_motor (StopAll e) i = refl
    by_motor (ChangeSpeed x v) i = either unhindering (busy (motor_at t x)) (Ok tt) (Err NotDriving) refl refl
    by_motor (Set x s) i = refl
    by_motor (Ask x q) i = refl
    by_motor (AskHead q) i = refl
    by_motor (ForHead h) i = refl

starts : (t line reply : List ℕ) (n : ℕ) → 8 ≤ n → (n ≡ 13 → ⊥) → (command_call t line reply).result % 256 ≡ n → is_some starting (order_of line) ≡ true
starts t line reply n low other e = sized (sizes_right t (command line reply)) refl
  where
    found : (p : Option Order) → order_in t line ≡ p → hinders (number_of (verdict t p)) ≡ true → is_some starting (order_of line) ≡ true
    found None q h = absurd (false≢true (unfold number_of in h))
    found (Some o) q h = rw (on_card_law (head_of t).card (order_of line) o q) (go (starting o) refl)
      where
        go : (b : Bool) → starting o ≡ b → starting o ≡ true
        go true i = i
        go false i = absurd (false≢true (rw h at (unhindered t o i)))

    number : hinders n ≡ true
    number = rw (le-leb 8 n low, ne_eqb n 13 other)

    sound : sizes_right t (command line reply) ≡ true → (b : Bool) → sound_table t ≡ b → is_some starting (order_of line) ≡ true
    sound z true s = found (order_in t line) refl (rw (sym (line_number t line reply z s) ∙ e) number)
    sound z false s = absurd (omega (arith, low, rw (command_unsound t line reply z s) at e))

    sized : (b : Bool) → sizes_right t (command line reply) ≡ b → is_some starting (order_of line) ≡ true
    sized true z = sound z (sound_table t) refl
    sized false z = absurd (omega (arith, low, rw (command_size t line reply z) at e))

-- 14 comes on the four-motor card alone: where a channel is not busy, the other card is not full.
spare_sixteen : (t : List ℕ) (x : ℕ) → sound_table t ≡ true → x ≤ 15 → busy (motor_at t x) ≡ false → (head_of t).card ≡ 0 → card_full (head_of t) ≡ false
unfolding card_full
spare_sixteen t x s h e z =
    let fewer : how_many (λ c. busy (motor_at t c)) 16 < 16 = many_fewer (λ c. busy (motor_at t c)) 16 x (omega arith) e in
    rw (z, sound_set t s, set_many t) (lt-leb 16 (how_many (λ c. busy (motor_at t c)) 16) fewer)

-- another number than 14
abbrev another : Verdict → Bool
another v = not (eqb (number_of v) 14)

hindered : (m : Motor) (going : ℕ) → another (hindrance false m going) ≡ true
unfolding hindrance number_of
hindered m going =
    either another (eqb m.setup.a 0) (Err Disabled) _ refl
    (either another (unread m.wiring) (Err Unread) _ refl
    (either another (blocked going m) (Err SwitchAhead) _ refl
    (either another (at_range_end m going) (Err AtRangeEnd) _ refl
    (either another (eqb (room going m) 0) (Err AtLimit) (Ok tt) refl refl))))

unfull : (m : Motor) (c : Course) → another (judge_start false m c) ≡ true
unfolding judge_start number_of
unfull m Stay = refl
unfull m Beyond = refl
unfull m (To p) = hindered m (towards m p)
unfull m (Along going) = hindered m going

go_unfull : (t : List ℕ) (x : ℕ) (r : Start) → sound_table t ≡ true → x ≤ 15 → (head_of t).card ≡ 0 → another (judge t (Go x r)) ≡ true
unfolding judge judge_where meets_busy judge_motor number_of
go_unfull t x r s h z =
    either another (needs_remote (Go x r) && eqb (head_of t).mode 0) (Err LocalMode) _ refl
    (either another (not (value_in_range (Go x r))) (Err OutOfRange) _ refl (go (busy (motor_at t x)) refl))
  where
    go : (b : Bool) → busy (motor_at t x) ≡ b → another (cond b (Err Busy) (judge_start (card_full (head_of t)) (motor_at t x) (course_of (motor_at t x) r))) ≡ true
    go true e = refl
    go false e = rw (spare_sixteen t x s h e z) (unfull (motor_at t x) (course_of (motor_at t x) r))

on_sixteen : (t : List ℕ) (o : Order) → sound_table t ≡ true → order_made o ≡ true → (head_of t).card ≡ 0 → another (judge t o) ≡ true
unfolding judge_motor number_of named
on_sixteen t (Go x r) s made z = go_unfull t x r s (named_channel (Go x r) made) z
on_sixteen t (Stop x e) s made z = judge_passes another t (Stop x e) refl refl refl refl
on_sixteen t (StopAll e) s made z = judge_passes another t (StopAll e) refl refl refl refl
on_sixteen t (ChangeSpeed x v) s made z = judge_passes another t (ChangeSpeed x v) refl refl refl (either another (busy (motor_at t x)) (Ok tt) (Err NotDriving) refl refl)
on_sixteen t (Set x r) s made z = judge_passes another t (Set x r) refl refl refl refl
on_sixteen t (Ask x q) s made z = judge_passes another t (Ask x q) refl refl refl refl
on_sixteen t (AskHead q) s made z = judge_passes another t (AskHead q) refl refl refl refl
on_sixteen t (ForHead h) s made z = judge_passes another t (ForHead h) refl refl refl refl

fourteen : (t line reply : List ℕ) → (command_call t line reply).result % 256 ≡ 14 → (head_of t).card ≡ 1
unfolding number_of
fourteen t line reply e = sized (sizes_right t (command line reply)) refl
  where
    known : sound_table t ≡ true → (head_of t).card ≤ 1
    known s = leb-true (head_of t).card 1 (range_parts (head_of t) (sound_range t s)).card

    found : sound_table t ≡ true → (p : Option Order) → order_in t line ≡ p → number_of (verdict t p) ≡ 14 → (head_of t).card ≡ 0 → ⊥
    found s None q n z = absurd (omega (arith, n))
    found s (Some o) q n z =
        let made : order_made o ≡ true = rw (on_card_law (head_of t).card (order_of line) o q) at (line_made line) in
        false≢true (rw n at (on_sixteen t o s made z))

    sound : sizes_right t (command line reply) ≡ true → (b : Bool) → sound_table t ≡ b → (head_of t).card ≡ 1
    sound z true s =
        let not-sixteen : (head_of t).card ≡ 0 → ⊥ = found s (order_in t line) refl (sym (line_number t line reply z s) ∙ e) in
        omega (arith, known s, not-sixteen)
    sound z false s = absurd (omega (arith, rw (command_unsound t line reply z s) at e))

    sized : (b : Bool) → sizes_right t (command line reply) ≡ b → (head_of t).card ≡ 1
    sized true z = sound z (sound_table t) refl
    sized false z = absurd (omega (arith, rw (command_size t line reply z) at e))

-- A line that is refused sets its flag, and that is all.
refused_flags : (t : List ℕ) (v : Verdict) (reply : List ℕ) (n : ℕ) → number_of v ≡ n → (refused t v reply).table ≡ flagged t n
unfolding refused
refused_flags t v reply n e = rw e

flags : (t line reply : List ℕ) (n : ℕ) → is_refusal n ≡ true → (command_call t line reply).result % 256 ≡ n
    → (command_call t line reply).table ≡ flagged t n
flags t line reply n h =
    command_ways (λ a. a.result % 256 ≡ n → a.table ≡ flagged t n) t line reply
    (λ k i e. let same : k ≡ n = omega (arith, i.2, e) in absurd (false≢true (sym i.1 ∙ rw same h)))
    (λ s v q e. refused_flags t v reply n (sym (refused_number t v reply) ∙ e))
    (λ s o q e. absurd (refusal_some n h (sym e ∙ obeyed_number t o reply)))

-- whether an order is carried out
abbrev given : Option Order → Bool
given (Some o) = true
given None = false

-- On a sound table 0 comes where an order is carried out, and nowhere else.
decides : (t line reply : List ℕ) → sound_table t ≡ true
    → eqb ((command_call t line reply).result % 256) 0 ≡ given (order_taken t (command line reply))
decides t line reply s =
    let v = verdict t (order_in t line) in
    sound_ways (λ a p. eqb (a.result % 256) 0 ≡ given p) t line reply s refl
    (λ h. ne_eqb ((refused t v reply).result % 256) 0 (λ z. refusal_some (number_of v) h (sym (refused_number t v reply) ∙ z)))
    (λ o e z. eq-eqb ((obeyed t o reply).result % 256) 0 (obeyed_number t o reply))

-- Bytes that are no table's, or a card that is none, fail the test of both.
not_both : (b : List ℕ) (card : ℕ) → ((length b ≡ table_size) × (card ≤ 1) → ⊥) → (eqb (length b) table_size && leb card 1) ≡ false
not_both b card ne = go (eqb (length b) table_size && leb card 1) refl
  where
    go : (t : Bool) → (eqb (length b) table_size && leb card 1) ≡ t → t ≡ false
    go true e = absurd (ne (sizes_card b card e))
    go false e = refl

-- The numbers that the demands ask for.
pub numbers : Numbers urqolina
numbers = record {
  fresh_made = λ b card e h. fresh_made_law b card (rw (eq-eqb (length b) table_size e) (le-leb card 1 h));
  fresh_refused = λ b card ne. fresh_refused_law b card (not_both b card ne);
  sizes = sizes;
  unsound = unsound;
  formless = λ t line reply e s q. unfold number_of in rw q at (line_number t line reply e s);
  judged = λ t line reply o e s q. rw q at (line_number t line reply e s);
  done = done;
  starts = starts;
  fourteen = fourteen;
  split = split;
  flags = flags;
  nothing = nothing;
  accepts = λ t line reply o s e. eqb-true _ 0 (decides t line reply s ∙ rw e);
  refuses = λ t line reply s e z. false≢true (sym (decides t line reply s ∙ rw e) ∙ eq-eqb _ 0 z);
}
