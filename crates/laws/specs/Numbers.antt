-- Demands 1 and 2, the numbers and the replies of the calls, on any table whatever it holds.
use Rattle.std.specs.Prelude.{Option, Some, None}
use Rattle.std.specs.Prelude.{◌≡◌, List, [], Bool, true, false, ◌&&◌, ℕ, ◌+◌, ◌*◌, ◌%◌, ◌≤◌, length, eqb, leb}
use Rattle.digits.specs.Bytes.{put}
use Rattle.drive.specs.Numbers.{number_of, is_silent, is_refusal}
use Rattle.drive.specs.Drives.{switch_read}
use Rattle.pulses.specs.Ticks.{tick_motor}
use Rattle.line.specs.declared.Question.{Question}
use Rattle.line.specs.declared.HeadQuestion.{HeadQuestion}
use Rattle.line.specs.declared.Order.{Order}
use Rattle.line.specs.declared.Order.TheVariants.{Go, Stop, StopAll, ChangeSpeed, Set, Ask, AskHead, ForHead}
use Rattle.line.specs.Forms.{order_of}
use Rattle.replies.specs.Replies.{echo, question_text, head_text}
use Rattle.table.specs.Layout.{table_size, head_of, motor_at, with_motor, with_motors, fresh_table}
use Rattle.table.specs.Sound.{sound_table}
use Rattle.commands.specs.Judging.{judge}
use Rattle.obeying.specs.Taking.{order_in}
use Rattle.commands.specs.Changing.{changed, flagged}
use Rattle.urqolina.specs.Calls.{counts}
use Rattle.laws.specs.Sequences.{Library, Call, command, reading, tick, after}
use Rattle.laws.specs.Deeds.{verdict, order_taken}
use Rattle.laws.specs.ReadBack.{is_some}

-- a call is a command
abbrev pub is_command : Call → Bool
is_command (command line reply) = true
is_command (reading c n) = false
is_command (tick p) = false

-- the buffer that a call is lent
abbrev pub lent : Call → List ℕ
lent (command line reply) = reply
lent (reading c n) = []
lent (tick p) = p

-- "5 | table not 1,088 bytes, reply buffer under 32, pulse buffer not 64, channel over 15, contacts over 7": none of these
abbrev pub sizes_right : List ℕ → Call → Bool
sizes_right t (command line reply) = eqb (length t) table_size && leb 32 (length reply)
sizes_right t (reading c n) = eqb (length t) table_size && leb c 15 && leb n 7
sizes_right t (tick p) = eqb (length t) table_size && eqb (length p) 64

-- an order is a start
abbrev pub starting : Order → Bool
starting (Go x s) = true
starting (Stop x flags) = false
starting (StopAll flags) = false
starting (ChangeSpeed x v) = false
starting (Set x s) = false
starting (Ask x q) = false
starting (AskHead q) = false
starting (ForHead h) = false

-- Demands 1 and 2, the numbers, on any table whatever it holds. "The command's result is the number plus 256 times the reply
-- length"; a reading's and a tick's is the number.
pub record Numbers (l : Library) : Type 0 where
  -- "fresh gives only 0 or 5"; 02 §7: the card is "set when the table is made fresh", "a card number over 1 at fresh is 5"
  pub fresh_made : (b : List ℕ) (card : ℕ) → length b ≡ table_size → card ≤ 1 → l.fresh b card ≡ record { result = 0; table = fresh_table card }
  pub fresh_refused : (b : List ℕ) (card : ℕ) → ((length b ≡ table_size) × (card ≤ 1) → ⊥) → l.fresh b card ≡ record { result = 5; table = b }
  -- "Order: 5, 6, ..": they come first, and "change nothing anywhere". "A refused tick (5 or 6) .. gives no pulse".
  pub sizes : (t : List ℕ) (k : Call) → sizes_right t k ≡ false → after l t k ≡ record { result = 5; table = t; buffer = lent k }
  pub unsound : (t : List ℕ) (k : Call) → sizes_right t k ≡ true → sound_table t ≡ false → after l t k ≡ record { result = 6; table = t; buffer = lent k }
  -- "1, local mode, value, busy, target out of range .., the other causes of 4", which are split (02 §5): what the rules judge. The table's
  -- card decides which lines have a form (02 §7)
  pub formless : (t line reply : List ℕ) → sizes_right t (command line reply) ≡ true → sound_table t ≡ true → order_in t line ≡ None
      → (l.command t line reply).result % 256 ≡ 1
  pub judged : (t line reply : List ℕ) (o : Order) → sizes_right t (command line reply) ≡ true → sound_table t ≡ true → order_in t line ≡ Some o
      → (l.command t line reply).result % 256 ≡ number_of (judge t o)
  -- a reading and a tick have nothing more to refuse
  pub done : (t : List ℕ) (k : Call) → is_command k ≡ false → sizes_right t k ≡ true → sound_table t ≡ true → (after l t k).result ≡ 0
  -- 02 §5: "8 to 12 for starts only", and 02 §7: "a fifth start is 14": every number from 8 on but SPC's 13
  pub starts : (t line reply : List ℕ) (n : ℕ) → 8 ≤ n → (n ≡ 13 → ⊥) → (l.command t line reply).result % 256 ≡ n → is_some starting (order_of line) ≡ true
  -- 02 §7: 14 comes "On the four-motor card" alone: on the other the channel that is started is one that is not busy
  pub fourteen : (t line reply : List ℕ) → (l.command t line reply).result % 256 ≡ 14 → (head_of t).card ≡ 1
  -- "4 is no longer given", by any call
  pub split : (t : List ℕ) (k : Call) → (after l t k).result % 256 ≡ 4 → ⊥
  -- "Numbers 1 to 4 set error flag bits 0 to 3 in turn and change nothing else in the table": 1, 2, 3 and, by 02 §5, those from 7 on
  pub flags : (t line reply : List ℕ) (n : ℕ) → is_refusal n ≡ true → (l.command t line reply).result % 256 ≡ n
      → (l.command t line reply).table ≡ flagged t n
  -- "5 and 6 change nothing anywhere", whenever they come, and no reply is counted
  pub nothing : (t : List ℕ) (k : Call) (n : ℕ) → is_silent n ≡ true → (after l t k).result % 256 ≡ n
      → after l t k ≡ record { result = n; table = t; buffer = lent k }
  -- the orders that `Deeds` takes for accepted are those that get 0
  pub accepts : (t line reply : List ℕ) (o : Order) → sound_table t ≡ true → order_taken t (command line reply) ≡ Some o → (l.command t line reply).result % 256 ≡ 0
  pub refuses : (t line reply : List ℕ) → sound_table t ≡ true → order_taken t (command line reply) ≡ None → (l.command t line reply).result % 256 ≡ 0 → ⊥

-- an order is a read
unfoldable pub asks : Order → Bool
asks (Go x s) = false
asks (Stop x flags) = false
asks (StopAll flags) = false
asks (ChangeSpeed x v) = false
asks (Set x s) = false
asks (Ask x q) = true
asks (AskHead q) = true
asks (ForHead h) = false

-- Demand 2, the replies of a line with a reply buffer of 32 bytes or more, on any sound table
module _ (l : Library) (t line reply : List ℕ) (sound : sound_table t ≡ true) (enough : 32 ≤ length reply) where
  pub record Replies : Type 0 where
    -- "A read's reply is always written": its text from the table, which it leaves
    pub reads : (x : ℕ) (q : Question) → order_of line ≡ Some (Ask x q) → let text = question_text (head_of t).mode x (motor_at t x) q in
        after l t (command line reply) ≡ record { result = 256 * length text; table = t; buffer = put reply 0 text }
    pub head_reads : (q : HeadQuestion) → order_in t line ≡ Some (AskHead q) → let text = head_text (head_of t) q in
        after l t (command line reply) ≡ record { result = 256 * length text; table = t; buffer = put reply 0 text }
    -- "Other commands, and numbers 1 to 4, write their text if all-reply is on after the command, else nothing. Bytes past the reply
    -- stay as they were." 4 "reads as the split numbers" (02 §5).
    pub others : is_some asks (order_in t line) ≡ false
        → let a = after l t (command line reply) in let text = echo (head_of a.table).reply (verdict t (order_in t line)) in
        (a.result ≡ number_of (verdict t (order_in t line)) + 256 * length text) × (a.buffer ≡ put reply 0 text)

-- Demand 2, what an accepted call changes, on any sound table
pub record Changes (l : Library) : Type 0 where
  -- "what each changes": the table after an order that the rules accept
  pub orders : (t line reply : List ℕ) (o : Order) → sizes_right t (command line reply) ≡ true → sound_table t ≡ true → order_in t line ≡ Some o
      → number_of (judge t o) ≡ 0 → (l.command t line reply).table ≡ changed t o
  -- "A switch reading replaces the contacts", and may end the drive
  pub readings : (t : List ℕ) (c n : ℕ) → sizes_right t (reading c n) ≡ true → sound_table t ≡ true
      → (l.reading t c n).table ≡ with_motor t c (switch_read (motor_at t c) n)
  -- "For each driving channel" one tick, and its count
  pub ticks : (t p : List ℕ) → sizes_right t (tick p) ≡ true → sound_table t ≡ true
      → ((l.tick t p).table ≡ with_motors t (λ m. (tick_motor m).motor)) × ((l.tick t p).pulses ≡ counts t)
