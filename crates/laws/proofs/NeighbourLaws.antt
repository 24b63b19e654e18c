-- The bytes that a call leaves as they were, for every table and all inputs. Assumes nothing.
use Rattle.std.specs.Prelude.{Option, Some, None}
use mathlib.Core.Path.{◌≡◌, refl, sym, ap, ◌∙◌}
use mathlib.Core.List.{List, [], ◌∷◌}
use mathlib.Core.Logic.{inl, inr}
use mathlib.Core.Bool.{Bool, true, false, ◌&&◌, cond, false≢true}
use Prim.Native.Nat.{ℕ, ◌%◌, ◌≤◌}
use native.Mathlib.Omega.{arith}
use lib.Dec.{eqb}
use borrow.Author.Tests.{ne_eqb, eqb-true, eqb-false}
use Rattle.digits.specs.Bytes.{AllBytes, part, put}
use Rattle.record.specs.declared.Motor.{Motor}
use Rattle.record.specs.Record.{record_of}
use Rattle.motor.specs.Sound.{busy, moving}
use Rattle.drive.specs.Drives.{released, stopped}
use Rattle.pulses.specs.Ticks.{tick_motor}
use Rattle.pulses.proofs.Laws.{stopped_given_none}
use Rattle.drive.proofs.Laws.{stopped_again, released_as, released_free}
use Rattle.line.specs.declared.Start.{Start}
use Rattle.line.specs.declared.HeadOrder.{HeadOrder}
use Rattle.line.specs.declared.HeadOrder.TheVariants.{Mode, AllReply, ClearErrors, ClearError, Pause}
use Rattle.line.specs.declared.Order.{Order}
use Rattle.line.specs.declared.Order.TheVariants.{Go, Stop, StopAll, ChangeSpeed, Set, Ask, AskHead, ForHead}
use Rattle.line.specs.Forms.{order_of}
use Rattle.line.specs.Made.{order_made}
use Rattle.line.proofs.OrderLaws.{line_made}
use Rattle.table.specs.declared.head.Head.{Head}
use Rattle.table.specs.Layout.{head_of, with_head, record_at, motor_at, with_motor, with_motors}
use Rattle.table.specs.Sound.{sound_table}
use Rattle.record.proofs.ProgressLaws.{way_written}
use Rattle.table.proofs.TableLaws.{sound_length, sound_record_at, sound_set_at}
use Rattle.table.proofs.SealLaws.{Beside}
use Rattle.table.proofs.KeptLaws.{written_record, motor_beside, record_kept, read_back}
use Rattle.commands.specs.Changing.{head_changed, motors_freed, changed, flagged}
use Rattle.commands.proofs.HeadOrderLaws.{freed_length}
use Rattle.commands.proofs.ChannelLaws.{named, named_channel}
use Rattle.obeying.specs.Taking.{refused, obeyed}
use Rattle.urqolina.specs.Calls.{command_call, reading_call, tick_call}
use Rattle.laws.specs.Sequences.{urqolina, Call, command, reading, tick, After, after}
use Rattle.laws.specs.Deeds.{Deed, starts, stops, speeds, sets, reads, ticks, pauses, rests, deed_if, names, head_deed, deed_of, deed}
use Rattle.laws.specs.Ledger.{sets_off}
use Rattle.laws.specs.Neighbours.{of_head, listed, HeadLeft, Neighbours}
use Rattle.laws.specs.Numbers.{is_command, sizes_right}
use Rattle.laws.proofs.PartLaws.{motors_beside, motors_record}
use Rattle.laws.proofs.DeedLaws.{paused_in}
use Rattle.laws.proofs.BusyLaws.{busy_before}
use Rattle.laws.proofs.Following.{next}
use Rattle.laws.proofs.NumberLaws.{numbers}
use Rattle.laws.proofs.CallWays.{silent_other, command_ways, reading_ways, tick_ways}
use Rattle.obeying.proofs.NumberLaws.{refused_number}
use Rattle.table.proofs.HeadLaws.{same_head, head_back, head_record}

-- A sound record that is read and written back is the same bytes.
written_back : (t : List ℕ) (d : ℕ) → sound_table t ≡ true → AllBytes t → d ≤ 15 → record_of (motor_at t d) ≡ record_at t d
written_back t d s bytes h = read_back t d (sound_record_at t d s h) bytes

-- A motor written leaves the record of another channel, and its own where it is what the record holds.
motor_left : (t : List ℕ) (x : ℕ) (m : Motor) (d : ℕ) → sound_table t ≡ true → x ≤ 15 → (eqb x d ≡ true → record_of m ≡ record_at t d)
    → record_at (with_motor t x m) d ≡ record_at t d
motor_left t x m d s h same = go (eqb x d) refl
  where
    go : (b : Bool) → eqb x d ≡ b → record_at (with_motor t x m) d ≡ record_at t d
    go true e = rw (← eqb-true x d e) (written_record t x m (sound_length t s) h ∙ rw (eqb-true x d e) (same e))
    go false e = record_kept t x m (sound_length t s) h d (λ q. eqb-false x d e (sym q))

-- a deed leaves the record of channel d: what is nothing to it does, and a stop or PAUSE OFF where what it makes of the motor is what the
-- record holds
abbrev Left : List ℕ → ℕ → Deed → Type 0
Left t d (starts s) = ⊥
Left t d (stops flags) = (d ≤ 15) × (record_of (stopped flags (motor_at t d)) ≡ record_at t d)
Left t d (speeds v) = ⊥
Left t d (sets s) = ⊥
Left t d (reads n) = ⊥
Left t d ticks = ⊥
Left t d (pauses k) = eqb k 0 ≡ true → (d ≤ 15) × (record_of (released (motor_at t d)) ≡ record_at t d)
Left t d rests = Unit {0}

-- An order of the head leaves a record, where a release does.
head_left_record : (t : List ℕ) (o : HeadOrder) (h : Head) (d : ℕ) → sound_table t ≡ true → Left t d (head_deed o) → record_at (with_head (motors_freed t o) h) d ≡ record_at t d
head_left_record t o h d s q = head_record (motors_freed t o) h (freed_length t o (sound_length t s)) d ∙ go o q
  where
    go : (o : HeadOrder) → Left t d (head_deed o) → record_at (motors_freed t o) d ≡ record_at t d
    go (Mode k) q = refl
    go (AllReply k) q = refl
    go ClearErrors q = refl
    go (ClearError e) q = refl
    go (Pause k) q = off (eqb k 0) refl
      where
        off : (b : Bool) → eqb k 0 ≡ b → record_at (cond b (with_motors t released) t) d ≡ record_at t d
        off true e = let same = q e in motors_record t released (sound_length t s) d same.0 ∙ same.1
        off false e = refl

-- An order of a line that is nothing to a channel, or leaves its motor, leaves its record.
changed_left : (t : List ℕ) (o : Order) (d : ℕ) → sound_table t ≡ true → order_made o ≡ true → Left t d (deed_of d o)
    → record_at (changed t o) d ≡ record_at t d
unfolding changed deed_of named
changed_left t (Go x a) d s made q = motor_left t x _ d s (named_channel (Go x a) made) (λ e. absurd (rw e at q))
changed_left t (Stop x f) d s made q = motor_left t x _ d s (named_channel (Stop x f) made) (λ e. let same = rw e at q in rw (eqb-true x d e) same.1)
changed_left t (StopAll f) d s made q = motors_record t (stopped f) (sound_length t s) d q.0 ∙ q.1
changed_left t (ChangeSpeed x v) d s made q = motor_left t x _ d s (named_channel (ChangeSpeed x v) made) (λ e. absurd (rw e at q))
changed_left t (Set x a) d s made q = motor_left t x _ d s (named_channel (Set x a) made) (λ e. absurd (rw e at q))
changed_left t (Ask x a) d s made q = refl
changed_left t (AskHead a) d s made q = refl
changed_left t (ForHead o) d s made q = head_left_record t o (head_changed (head_of t) o) d s q

-- the table after what a line is, were it accepted
abbrev obeyed_table : List ℕ → Option Order → List ℕ
obeyed_table t (Some o) = changed t o
obeyed_table t None = t

-- So does the command, on any table: a refusal writes to the head at most.
command_left : (t line reply : List ℕ) (o : Order) (d : ℕ) → order_of line ≡ Some o → (sound_table t ≡ true → Left t d (deed_of d o))
    → record_at (command_call t line reply).table d ≡ record_at t d
unfolding refused obeyed flagged
command_left t line reply o d e q =
    let made : order_made o ≡ true = rw e at (line_made line) in
    let same : sound_table t ≡ true → record_at (obeyed_table t (order_of line)) d ≡ record_at t d = λ s. rw e (changed_left t o d s made (q s)) in
    command_ways (λ a. record_at a.table d ≡ record_at t d) t line reply (λ n i. refl)
    (λ s v h. head_record t _ (sound_length t s) d) (λ s p f. rw f at (same s))

-- A line that is nothing to a channel leaves its record, a stop leaves that of a motor that stands stopped, and a line of pause that of
-- one that it does not release.
unreached : (t line reply : List ℕ) (o : Order) (d : ℕ) → order_of line ≡ Some o → deed_of d o ≡ rests
    → record_at (command_call t line reply).table d ≡ record_at t d
unreached t line reply o d e q = command_left t line reply o d e (λ s. rw q tt)

still : (t line reply : List ℕ) (o : Order) (flags d : ℕ) → AllBytes t → d ≤ 15 → order_of line ≡ Some o → deed_of d o ≡ stops flags
    → busy (motor_at t d) ≡ false → record_at (command_call t line reply).table d ≡ record_at t d
still t line reply o flags d bytes h e q stands =
    command_left t line reply o d e (λ s. rw q (h, rw (stopped_again flags (motor_at t d) stands) (written_back t d s bytes h)))

unreleased : (t line reply : List ℕ) (o : Order) (k d : ℕ) → AllBytes t → d ≤ 15 → order_of line ≡ Some o → deed_of d o ≡ pauses k
    → (eqb k 0 && (motor_at t d).drive.held) ≡ false → record_at (command_call t line reply).table d ≡ record_at t d
unreleased t line reply o k d bytes h e q free =
    command_left t line reply o d e
    (λ s. rw q (λ off. (h, rw (released_free (motor_at t d) (rw off at free)) (written_back t d s bytes h))))

-- What is PAUSE OFF to some channel is PAUSE OFF: an order that names a channel is another deed to it, and none to the others.
off_named : (o : Order) (b : Bool) (k : Deed) → (k ≡ pauses 0 → o ≡ ForHead (Pause 0)) → deed_if b k ≡ pauses 0 → o ≡ ForHead (Pause 0)
off_named o true k other q = other q
off_named o false k other q = cc

off_order : (o : Order) (d : ℕ) → deed_of d o ≡ pauses 0 → o ≡ ForHead (Pause 0)
unfolding deed_of
off_order (Go x s) d q = off_named (Go x s) (eqb x d) (starts s) (λ e. cc) q
off_order (Stop x f) d q = off_named (Stop x f) (eqb x d) (stops f) (λ e. cc) q
off_order (StopAll f) d q = cc
off_order (ChangeSpeed x v) d q = off_named (ChangeSpeed x v) (eqb x d) (speeds v) (λ e. cc) q
off_order (Set x s) d q = off_named (Set x s) (eqb x d) (sets s) (λ e. cc) q
off_order (Ask x a) d q = cc
off_order (AskHead a) d q = cc
off_order (ForHead (Mode k)) d q = cc
off_order (ForHead (AllReply k)) d q = cc
off_order (ForHead ClearErrors) d q = cc
off_order (ForHead (ClearError e)) d q = cc
off_order (ForHead (Pause k)) d q = cc

-- It changes of a record byte 32 alone.
released_bytes : (t : List ℕ) (o : Order) (d : ℕ) → sound_table t ≡ true → AllBytes t → d ≤ 15 → deed_of d o ≡ pauses 0
    → record_at (changed t o) d ≡ put (record_at t d) 32 ((motor_at t d).drive.going ∷ [])
unfolding changed
released_bytes t o d s bytes h q =
    rw (off_order o d q)
    (head_record (motors_freed t (Pause 0)) _ (freed_length t (Pause 0) (sound_length t s)) d ∙ motors_record t released (sound_length t s) d h ∙ written)
  where
    written : record_of (released (motor_at t d)) ≡ put (record_at t d) 32 ((motor_at t d).drive.going ∷ [])
    written = rw (released_as (motor_at t d), ← way_written (motor_at t d), written_back t d s bytes h)

let_go : (t line reply : List ℕ) (o : Order) (d : ℕ) → AllBytes t → d ≤ 15 → order_of line ≡ Some o → deed_of d o ≡ pauses 0
    → (command_call t line reply).result % 256 ≡ 0 → record_at (command_call t line reply).table d ≡ put (record_at t d) 32 ((motor_at t d).drive.going ∷ [])
unfolding obeyed
let_go t line reply o d bytes h e q =
    let after = put (record_at t d) 32 ((motor_at t d).drive.going ∷ []) in
    let done : sound_table t ≡ true → record_at (obeyed_table t (order_of line)) d ≡ after = λ s. rw e (released_bytes t o d s bytes h q) in
    command_ways (λ a. a.result % 256 ≡ 0 → record_at a.table d ≡ after) t line reply (λ n i z. absurd (silent_other n 0 i refl z))
    (λ s v r z. absurd (false≢true (rw (sym (refused_number t v reply) ∙ z) at r))) (λ s p f z. rw f at (done s))

-- A tick leaves that of a motor that does not move.
unticked : (t p : List ℕ) (d : ℕ) → AllBytes t → d ≤ 15 → moving (motor_at t d) ≡ false → record_at (tick_call t p).table d ≡ record_at t d
unticked t p d bytes h stands =
    tick_ways (λ a. record_at a.table d ≡ record_at t d) t p (λ n i. refl)
    (λ s. motors_record t (λ m. (tick_motor m).motor) (sound_length t s) d h ∙ rw (stopped_given_none (motor_at t d) stands) (written_back t d s bytes h))

-- An order that names channel x is nothing to the others.
elsewhere : (y x d : ℕ) (k : Deed) → eqb y x ≡ true → (d ≡ x → ⊥) → deed_if (eqb y d) k ≡ rests
elsewhere y x d k e ne = rw (ne_eqb y d (λ same. ne (sym same ∙ eqb-true y x e)))

named_rests : (o : Order) (x d : ℕ) → names x o ≡ true → (d ≡ x → ⊥) → deed_of d o ≡ rests
unfolding names deed_of
named_rests (Go y s) x d e ne = elsewhere y x d (starts s) e ne
named_rests (Stop y flags) x d e ne = elsewhere y x d (stops flags) e ne
named_rests (StopAll flags) x d e ne = absurd (false≢true e)
named_rests (ChangeSpeed y v) x d e ne = elsewhere y x d (speeds v) e ne
named_rests (Set y s) x d e ne = elsewhere y x d (sets s) e ne
named_rests (Ask y q) x d e ne = refl
named_rests (AskHead q) x d e ne = refl
named_rests (ForHead h) x d e ne = absurd (false≢true e)

-- An accepted order of a line that is not of the head leaves the head beside the busy set.
pub changed_head : (t : List ℕ) (o : Order) (i n : ℕ) → sound_table t ≡ true → order_made o ≡ true → of_head o ≡ false → Beside i n
    → part (changed t o) i n ≡ part t i n
unfolding changed of_head named
changed_head t (Go x a) i n s made q h = motor_beside t x _ (sound_length t s) (named_channel (Go x a) made) i n h
changed_head t (Stop x f) i n s made q h = motor_beside t x _ (sound_length t s) (named_channel (Stop x f) made) i n h
changed_head t (StopAll f) i n s made q h = motors_beside t (stopped f) (sound_length t s) i n h
changed_head t (ChangeSpeed x v) i n s made q h = motor_beside t x _ (sound_length t s) (named_channel (ChangeSpeed x v) made) i n h
changed_head t (Set x a) i n s made q h = motor_beside t x _ (sound_length t s) (named_channel (Set x a) made) i n h
changed_head t (Ask x a) i n s made q h = refl
changed_head t (AskHead a) i n s made q h = refl
changed_head t (ForHead o) i n s made q h = absurd (false≢true (sym q))

-- What leaves all of it beside the set leaves both parts.
both_parts : (t u : List ℕ) → ((i n : ℕ) → Beside i n → part u i n ≡ part t i n) → HeadLeft t u
both_parts t u same = (same 0 4 (inl (omega arith)), same 6 58 (inr (omega arith, omega arith)))

head : (t line reply : List ℕ) (o : Order) → order_of line ≡ Some o → of_head o ≡ false → (command_call t line reply).result % 256 ≡ 0
    → HeadLeft t (command_call t line reply).table
unfolding obeyed
head t line reply o e q =
    let made : order_made o ≡ true = rw e at (line_made line) in
    let same : sound_table t ≡ true → HeadLeft t (obeyed_table t (order_of line)) = λ s. rw e (both_parts t (changed t o) (λ i n. changed_head t o i n s made q)) in
    command_ways (λ a. a.result % 256 ≡ 0 → HeadLeft t a.table) t line reply (λ n i z. (refl, refl))
    (λ s v h z. absurd (false≢true (rw (sym (refused_number t v reply) ∙ z) at h))) (λ s p f z. rw f at (same s))

-- So do readings and ticks.
head_left_law : (t : List ℕ) (k : Call) → is_command k ≡ false → HeadLeft t (after urqolina t k).table
unfolding after
head_left_law t (command line reply) q = absurd (false≢true (sym q))
head_left_law t (reading c n) q =
    reading_ways (λ a. HeadLeft t a.table) t c n (λ k i. (refl, refl)) (λ s h. both_parts t (with_motor t c _) (motor_beside t c _ (sound_length t s) h))
head_left_law t (tick p) q =
    tick_ways (λ a. HeadLeft t a.table) t p (λ n i. (refl, refl))
    (λ s. both_parts t (with_motors t (λ m. (tick_motor m).motor)) (motors_beside t (λ m. (tick_motor m).motor) (sound_length t s)))

-- An order of the head leaves the busy set and the card, and so does a refusal.
changed_others : (h : Head) (o : HeadOrder) → ((head_changed h o).busy ≡ h.busy) × ((head_changed h o).card ≡ h.card)
unfolding head_changed
changed_others h (Mode k) = (refl, refl)
changed_others h (AllReply k) = (refl, refl)
changed_others h ClearErrors = (refl, refl)
changed_others h (ClearError e) = (refl, refl)
changed_others h (Pause k) = (refl, refl)

ordered_set : (t : List ℕ) (o : Order) → sound_table t ≡ true → of_head o ≡ true → (head_of (changed t o)).busy ≡ (head_of t).busy
unfolding changed of_head
ordered_set t (Go x a) s q = absurd (false≢true q)
ordered_set t (Stop x f) s q = absurd (false≢true q)
ordered_set t (StopAll f) s q = absurd (false≢true q)
ordered_set t (ChangeSpeed x v) s q = absurd (false≢true q)
ordered_set t (Set x a) s q = absurd (false≢true q)
ordered_set t (Ask x a) s q = refl
ordered_set t (AskHead a) s q = refl
ordered_set t (ForHead o) s q =
    rw (head_back (motors_freed t o) (head_changed (head_of t) o) (freed_length t o (sound_length t s))) (changed_others (head_of t) o).0

head_set_law : (t line reply : List ℕ) (o : Order) → order_of line ≡ Some o → of_head o ≡ true → (head_of (command_call t line reply).table).busy ≡ (head_of t).busy
unfolding refused obeyed flagged
head_set_law t line reply o e q =
    let same : sound_table t ≡ true → (head_of (obeyed_table t (order_of line))).busy ≡ (head_of t).busy = λ s. rw e (ordered_set t o s q) in
    command_ways (λ a. (head_of a.table).busy ≡ (head_of t).busy) t line reply (λ n i. refl)
    (λ s v h. rw (head_back t _ (sound_length t s))) (λ s p f. rw f at (same s))

-- No call writes the card: an order of the head leaves it, as a refusal does, and all else leaves the head beside the busy set.
same_card : (t u : List ℕ) → ((i n : ℕ) → Beside i n → part u i n ≡ part t i n) → (head_of u).card ≡ (head_of t).card
same_card t u same = rw (same_head t u same)

ordered_card : (t : List ℕ) (o : Order) → sound_table t ≡ true → order_made o ≡ true → (head_of (changed t o)).card ≡ (head_of t).card
unfolding of_head
ordered_card t (Go x a) s made = same_card t _ (λ i n. changed_head t (Go x a) i n s made refl)
ordered_card t (Stop x f) s made = same_card t _ (λ i n. changed_head t (Stop x f) i n s made refl)
ordered_card t (StopAll f) s made = same_card t _ (λ i n. changed_head t (StopAll f) i n s made refl)
ordered_card t (ChangeSpeed x v) s made = same_card t _ (λ i n. changed_head t (ChangeSpeed x v) i n s made refl)
ordered_card t (Set x a) s made = same_card t _ (λ i n. changed_head t (Set x a) i n s made refl)
ordered_card t (Ask x a) s made = same_card t _ (λ i n. changed_head t (Ask x a) i n s made refl)
ordered_card t (AskHead a) s made = same_card t _ (λ i n. changed_head t (AskHead a) i n s made refl)
ordered_card t (ForHead o) s made =
    unfold changed in rw (head_back (motors_freed t o) (head_changed (head_of t) o) (freed_length t o (sound_length t s))) (changed_others (head_of t) o).1

pub card_stays : (t : List ℕ) (k : Call) → (head_of (after urqolina t k).table).card ≡ (head_of t).card
unfolding after refused obeyed flagged
card_stays t (command line reply) =
    command_ways (λ a. (head_of a.table).card ≡ (head_of t).card) t line reply (λ n i. refl)
    (λ s v h. rw (head_back t _ (sound_length t s))) (λ s o e. ordered_card t o s (rw e at (line_made line)))
card_stays t (reading c n) =
    reading_ways (λ a. (head_of a.table).card ≡ (head_of t).card) t c n (λ k i. refl) (λ s h. same_card t _ (motor_beside t c _ (sound_length t s) h))
card_stays t (tick p) =
    tick_ways (λ a. (head_of a.table).card ≡ (head_of t).card) t p (λ n i. refl)
    (λ s. same_card t _ (motors_beside t (λ m. (tick_motor m).motor) (sound_length t s)))

-- On a table that is not sound a call leaves every byte; on a sound one the busy set is true before and after it.
unsound_left : (t : List ℕ) (k : Call) → sound_table t ≡ false → (after urqolina t k).table ≡ t
unsound_left t k s = go (sizes_right t k) refl
  where
    go : (b : Bool) → sizes_right t k ≡ b → (after urqolina t k).table ≡ t
    go true e = ap (λ (a : After). a.table) (numbers.unsound t k e s)
    go false e = ap (λ (a : After). a.table) (numbers.sizes t k e)

-- A channel that is busy as before, or not, keeps its bit.
same_bit : (t : List ℕ) (k : Call) (d : ℕ) → d ≤ 15 → busy (motor_at (after urqolina t k).table d) ≡ busy (motor_at t d)
    → listed d (after urqolina t k).table ≡ listed d t
same_bit t k d h same = go (sound_table t) refl
  where
    go : (b : Bool) → sound_table t ≡ b → listed d (after urqolina t k).table ≡ listed d t
    go true s = sound_set_at (after urqolina t k).table d (next t k s).sound h ∙ same ∙ sym (sound_set_at t d s h)
    go false s = rw (unsound_left t k s)

same_motor : (t u : List ℕ) (d : ℕ) → record_at u d ≡ record_at t d → busy (motor_at u d) ≡ busy (motor_at t d)
unfolding motor_at
same_motor t u d e = rw e

-- The bit of a channel tells on a sound table whether it is busy, before the call and after it; on another table the call leaves it.
module _ (t : List ℕ) (k : Call) (d : ℕ) (h : d ≤ 15) where
  abbrev u : List ℕ
  u = (after urqolina t k).table

  raises : ((s : Start) → deed d t k ≡ starts s → sets_off (motor_at t d) s ≡ true → ⊥) → listed d u ≡ true → listed d t ≡ true
  raises idle q = go (sound_table t) refl
    where
      go : (b : Bool) → sound_table t ≡ b → listed d t ≡ true
      go true s =
          let is : busy (motor_at u d) ≡ true = sym (sound_set_at u d (next t k s).sound h) ∙ q in
          sound_set_at t d s h ∙ busy_before (paused_in t) (motor_at t d) (deed d t k) idle (rw ((next t k s).follows d h).motor at is)
      go false s = rw (unsound_left t k s) at q

  clears : listed d t ≡ true → listed d u ≡ false → (busy (motor_at t d) ≡ true) × (busy (motor_at u d) ≡ false)
  clears q r = go (sound_table t) refl
    where
      go : (b : Bool) → sound_table t ≡ b → (busy (motor_at t d) ≡ true) × (busy (motor_at u d) ≡ false)
      go true s = (sym (sound_set_at t d s h) ∙ q, sym (sound_set_at u d (next t k s).sound h) ∙ r)
      go false s = absurd (false≢true (sym (rw (unsound_left t k s) at r) ∙ q))

-- A reading leaves the other records.
reading_others : (t : List ℕ) (c n d : ℕ) → (d ≡ c → ⊥) → record_at (reading_call t c n).table d ≡ record_at t d
reading_others t c n d ne =
    reading_ways (λ a. record_at a.table d ≡ record_at t d) t c n (λ k i. refl) (λ s h. record_kept t c _ (sound_length t s) h d ne)

-- The bytes that the demands ask to be left.
pub neighbours : Neighbours urqolina
neighbours = record {
  others = λ t line reply o x d e n ne. unreached t line reply o d e (named_rests o x d n ne);
  unreached = unreached;
  stopped = still;
  pausing = unreleased;
  releasing = let_go;
  unticked = unticked;
  readings = reading_others;
  head = head;
  head_left = head_left_law;
  card = card_stays;
  head_set = head_set_law;
  other_bits = λ t line reply o x d h e n ne.
      unfold after in same_bit t (command line reply) d h (same_motor t _ d (unreached t line reply o d e (named_rests o x d n ne)));
  read_bits = λ t c n d h ne. unfold after in same_bit t (reading c n) d h (same_motor t _ d (reading_others t c n d ne));
  raised = raises;
  cleared = clears;
}
