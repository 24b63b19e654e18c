-- Demand 2: "An accepted setting reads back with its value until something changes it." What each setting is read back by, the
-- bytes of the answer as the line wrote them, and what changes it.
use Rattle.std.specs.Prelude.{Option, Some, None}
use Rattle.std.specs.Prelude.{ℕ, ◌+◌, ◌*◌, ◌≤◌, List, [], ◌∷◌, ◌++◌, Bool, true, false, not, cond, eqb, ◌≡◌, length, get_or}
use Rattle.text.specs.Text.{digit_byte, bytes}
use Rattle.replies.specs.Replies.{speed_text, selected_text, question_text}
use Rattle.status.specs.Status.{position_text, mode_letter}
use Rattle.line.specs.declared.Four.{Four}
use Rattle.line.specs.declared.Setting.{Setting}
use Rattle.line.specs.declared.Setting.TheVariants.{Preset, SetCwLimit, SetCcwLimit, Select, SetSpeed, SetSwitches, SetMotor}
use Rattle.line.specs.declared.Question.{Question}
use Rattle.line.specs.declared.Question.TheVariants.{AskPosition, AskCwLimit, AskCcwLimit, AskSelected, AskSpeed, AskSwitches, AskMotor, AskStatus}
use Rattle.line.specs.declared.HeadOrder.{HeadOrder}
use Rattle.line.specs.declared.HeadOrder.TheVariants.{Mode, AllReply, ClearErrors, ClearError, Pause}
use Rattle.line.specs.declared.Order.{Order}
use Rattle.line.specs.declared.Order.TheVariants.{Go, Stop, StopAll, ChangeSpeed, Set, Ask, AskHead, ForHead}
use Rattle.orders.specs.Settings.{place_written}
use Rattle.laws.specs.Sequences.{Library, Call, after, command, After, run, Beginning, ran, never}
use Rattle.laws.specs.Deeds.{Deed, starts, stops, speeds, sets, reads, ticks, pauses, rests, order_taken, deed}
use Rattle.laws.specs.Ledger.{count_at}
use Rattle.digits.specs.Bytes.{put}
use Rattle.line.specs.declared.HeadQuestion.TheVariants.{AskAllReply, AskPause, AskFree}
use Rattle.line.specs.Forms.{order_of}
use Rattle.table.specs.Layout.{head_of, motor_at}

-- the read command of each setting: `PS?x`, `FL?x`, `BL?x`, `SPD?x`, `SPDH?x`, `SPDM?x`, `SPDL?x`, `SETLS?x`, `SETMT?x`
unfoldable pub question_for : Setting → Question
question_for (Preset w) = AskPosition
question_for (SetCwLimit w) = AskCwLimit
question_for (SetCcwLimit w) = AskCcwLimit
question_for (Select k) = AskSelected
question_for (SetSpeed k v) = AskSpeed k
question_for (SetSwitches q r) = AskSwitches
question_for (SetMotor q) = AskMotor

-- four digits as they were written
abbrev pub four_text : Four → List ℕ
four_text q = digit_byte q.a ∷ digit_byte q.b ∷ digit_byte q.c ∷ digit_byte q.d ∷ []

-- what it answers, from what the line wrote: "positions and limits, a sign (+ for 0) and at least 7 digits; speeds, at least 6;
-- `SPD?` HSPD, MSPD or LSPD"; the digits of SETLS and SETMT as they were written
unfoldable pub text_for : Setting → List ℕ
text_for (Preset w) = position_text (place_written w)
text_for (SetCwLimit w) = position_text (place_written w)
text_for (SetCcwLimit w) = position_text (place_written w)
text_for (Select k) = selected_text k
text_for (SetSpeed k v) = speed_text v
text_for (SetSwitches q r) = four_text q ++ four_text r
text_for (SetMotor q) = four_text q

-- the topics that settings are of, numbered; each of the three speeds is one of its own
unfoldable pub topic : Setting → ℕ
topic (Preset w) = 0
topic (SetCwLimit w) = 1
topic (SetCcwLimit w) = 2
topic (Select k) = 3
topic (SetSwitches q r) = 4
topic (SetMotor q) = 5
topic (SetSpeed k v) = 6 + k

-- a deed changes a setting: another setting of its topic does, and the position is changed by a tick that "moves the channel",
-- one whose count n is not 0
unfoldable pub changed_by : Setting → ℕ → Deed → Bool
changed_by s n (starts r) = false
changed_by s n (stops flags) = false
changed_by s n (speeds v) = false
changed_by s n (sets r) = eqb (topic r) (topic s)
changed_by s n (reads contacts) = false
changed_by (Preset w) n ticks = not (eqb n 0)
changed_by (SetCwLimit w) n ticks = false
changed_by (SetCcwLimit w) n ticks = false
changed_by (Select k) n ticks = false
changed_by (SetSpeed k v) n ticks = false
changed_by (SetSwitches q r) n ticks = false
changed_by (SetMotor q) n ticks = false
changed_by s n (pauses k) = false
changed_by s n rests = false

-- a call changes a setting of channel x
unfoldable pub changes : Library → ℕ → Setting → List ℕ → Call → Bool
changes l x s t k = changed_by s (count_at (after l t k).buffer x) (deed x t k)

-- the field of the head that an order writes, numbered: 0 the mode, 1 all-reply, 2 the error flags, 3 pause
unfoldable pub head_topic : HeadOrder → ℕ
head_topic (Mode k) = 0
head_topic (AllReply k) = 1
head_topic ClearErrors = 2
head_topic (ClearError e) = 2
head_topic (Pause k) = 3

-- an order writes the field numbered i
unfoldable pub writes_field : ℕ → Order → Bool
writes_field i (Go x s) = false
writes_field i (Stop x flags) = false
writes_field i (StopAll flags) = false
writes_field i (ChangeSpeed x v) = false
writes_field i (Set x s) = false
writes_field i (Ask x q) = false
writes_field i (AskHead q) = false
writes_field i (ForHead h) = eqb (head_topic h) i

-- a test of an order, where there is one
abbrev pub is_some : (Order → Bool) → Option Order → Bool
is_some test (Some o) = test o
is_some test None = false

-- a call takes an order that writes a field of the head
abbrev pub changes_head : ℕ → List ℕ → Call → Bool
changes_head i t k = is_some (writes_field i) (order_taken t k)

-- Demand 2, the settings: what was accepted is what the read command answers, in the exact bytes of the reply, after any calls
-- that do not change it. k is the accepted setting, `later` the calls after it, `line` the read command.
module _ (l : Library) (b : Beginning) (ks : List Call) (k : Call) (later : List Call) (line reply : List ℕ) (enough : 32 ≤ length reply) where
  abbrev pub table_set : List ℕ
  table_set = (after l (ran l b ks) k).table

  abbrev pub answered : List ℕ → After
  answered text = record { result = 256 * length text; table = run l table_set later; buffer = put reply 0 text }

  pub record ReadsBack : Type 0 where
    -- PS, FL, BL, SPDH, SPDM and SPDL with and without a number, SETLS and SETMT
    pub setting : (x : ℕ) (s : Setting) → order_taken (ran l b ks) k ≡ Some (Set x s) → never l (changes l x s) table_set later ≡ true
        → order_of line ≡ Some (Ask x (question_for s)) → after l (run l table_set later) (command line reply) ≡ answered (text_for s)
    -- and it is what the table holds, in the field that document 01 gives it
    pub held : (x : ℕ) (s : Setting) → order_taken (ran l b ks) k ≡ Some (Set x s) → never l (changes l x s) table_set later ≡ true
        → (n : ℕ) → question_text n x (motor_at (run l table_set later) x) (question_for s) ≡ text_for s
    -- ALL_REP EN and DS
    pub reply_held : (n : ℕ) → order_taken (ran l b ks) k ≡ Some (ForHead (AllReply n)) → never l (changes_head 1) table_set later ≡ true
        → (head_of (run l table_set later)).reply ≡ n
    pub all_reply : (n : ℕ) → order_taken (ran l b ks) k ≡ Some (ForHead (AllReply n)) → never l (changes_head 1) table_set later ≡ true
        → order_of line ≡ Some (AskHead AskAllReply) → after l (run l table_set later) (command line reply) ≡ answered (cond (eqb n 1) (bytes "EN") (bytes "DS"))
    -- LOC and REM: the first letter of any channel's status
    pub mode_held : (n : ℕ) → order_taken (ran l b ks) k ≡ Some (ForHead (Mode n)) → never l (changes_head 0) table_set later ≡ true
        → (head_of (run l table_set later)).mode ≡ n
    pub mode : (n x : ℕ) → order_taken (ran l b ks) k ≡ Some (ForHead (Mode n)) → never l (changes_head 0) table_set later ≡ true
        → order_of line ≡ Some (Ask x AskStatus) → get_or (after l (run l table_set later) (command line reply)).buffer 0 0 ≡ mode_letter n
    -- and by 02 §7 that of `STQ?` on the four-motor card
    pub mode_free : (n : ℕ) → order_taken (ran l b ks) k ≡ Some (ForHead (Mode n)) → never l (changes_head 0) table_set later ≡ true
        → b.card ≡ 1 → order_of line ≡ Some (AskHead AskFree) → get_or (after l (run l table_set later) (command line reply)).buffer 0 0 ≡ mode_letter n
    -- 02 §3: PAUSE ON and OFF, until the next one of them that is accepted
    pub pause_held : (n : ℕ) → order_taken (ran l b ks) k ≡ Some (ForHead (Pause n)) → never l (changes_head 3) table_set later ≡ true
        → (head_of (run l table_set later)).pause ≡ n
    pub pause : (n : ℕ) → order_taken (ran l b ks) k ≡ Some (ForHead (Pause n)) → never l (changes_head 3) table_set later ≡ true
        → order_of line ≡ Some (AskHead AskPause) → after l (run l table_set later) (command line reply) ≡ answered (cond (eqb n 1) (bytes "ON") (bytes "OFF"))
