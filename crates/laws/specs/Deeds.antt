-- What demand 2 makes of a call, by the documents' rules alone: which calls are accepted, and what an accepted one is to a
-- channel. The table is a sound one, as it is after every sequence.
use Rattle.std.specs.Prelude.{Result, Ok, Err}
use Rattle.std.specs.Prelude.{Option, Some, None}
use Rattle.std.specs.Prelude.{ℕ, List, Bool, true, false, ◌&&◌, cond, length, eqb, leb}
use Rattle.drive.specs.Numbers.{Verdict}
use Rattle.drive.specs.declared.Refusal.TheVariants.{NoForm}
use Rattle.line.specs.declared.Start.{Start}
use Rattle.line.specs.declared.Setting.{Setting}
use Rattle.line.specs.declared.HeadOrder.{HeadOrder}
use Rattle.line.specs.declared.HeadOrder.TheVariants.{Mode, AllReply, ClearErrors, ClearError, Pause}
use Rattle.line.specs.declared.Order.{Order}
use Rattle.line.specs.declared.Order.TheVariants.{Go, Stop, StopAll, ChangeSpeed, Set, Ask, AskHead, ForHead}
use Rattle.commands.specs.Judging.{judge}
use Rattle.obeying.specs.Taking.{accepted, order_in}
use Rattle.laws.specs.Sequences.{Call, command, reading, tick}

-- the verdict on what a line is: "1 | .. | the line has none of the forms above", or what the rules judge
abbrev pub verdict : List ℕ → Option Order → Verdict
verdict t (Some o) = judge t o
verdict t None = Err NoForm

-- the order of a line, where the rules accept it: "0 | OK | done"
abbrev pub order_passed : List ℕ → Option Order → Option Order
order_passed t (Some o) = cond (accepted (judge t o)) (Some o) None
order_passed t None = None

-- the order that a call carries out: none with a "reply buffer under 32", and none but a command's
unfoldable pub order_taken : List ℕ → Call → Option Order
order_taken t (command line reply) = cond (leb 32 (length reply)) (order_passed t (order_in t line)) None
order_taken t (reading x n) = None
order_taken t (tick p) = None

-- an order names channel x
unfoldable pub names : ℕ → Order → Bool
names x (Go y s) = eqb y x
names x (Stop y flags) = eqb y x
names x (StopAll flags) = false
names x (ChangeSpeed y v) = eqb y x
names x (Set y s) = eqb y x
names x (Ask y q) = eqb y x
names x (AskHead q) = false
names x (ForHead h) = false

-- what an accepted call is to one channel
pub data Deed : Type 0 where
  -- ABS, REL, SCAN or JOG
  starts : Start → Deed
  -- SSTP, ESTP, ASSTP or AESTP, with its end flags
  stops : ℕ → Deed
  -- SPC, with its speed
  speeds : ℕ → Deed
  -- a setting or a selection
  sets : Setting → Deed
  -- a switch reading, with its contacts
  reads : ℕ → Deed
  -- a tick
  ticks : Deed
  -- 02 §3: PAUSE ON, 1, or PAUSE OFF, 0: what it makes of pause
  pauses : ℕ → Deed
  -- a refused call, one of another channel, a read, or one of the head but for the lines of pause: it is nothing to the channel
  rests : Deed

-- a deed where a test holds
abbrev pub deed_if : Bool → Deed → Deed
deed_if test d = cond test d rests

-- what an order of the head is to any channel: nothing, but for the lines of pause
abbrev pub head_deed : HeadOrder → Deed
head_deed (Mode k) = rests
head_deed (AllReply k) = rests
head_deed ClearErrors = rests
head_deed (ClearError e) = rests
head_deed (Pause k) = pauses k

-- what an order is to channel c: "A command naming channel x leaves the other fifteen records byte for byte; here only ASSTP and
-- AESTP, which name none, reach several", and by 02 §3 PAUSE OFF.
unfoldable pub deed_of : ℕ → Order → Deed
deed_of c (Go x s) = deed_if (eqb x c) (starts s)
deed_of c (Stop x flags) = deed_if (eqb x c) (stops flags)
deed_of c (StopAll flags) = stops flags
deed_of c (ChangeSpeed x v) = deed_if (eqb x c) (speeds v)
deed_of c (Set x s) = deed_if (eqb x c) (sets s)
deed_of c (Ask x q) = rests
deed_of c (AskHead q) = rests
deed_of c (ForHead h) = head_deed h

-- what is carried out is to channel c what its order is; nothing carried out is nothing
abbrev pub deed_taken : ℕ → Option Order → Deed
deed_taken c (Some o) = deed_of c o
deed_taken c None = rests

-- what a call is to channel c: a reading is accepted with "contacts" up to 7, a tick with a pulse buffer of 64 bytes
unfoldable pub deed : ℕ → List ℕ → Call → Deed
deed c t (command line reply) = deed_taken c (order_taken t (command line reply))
deed c t (reading x n) = deed_if (eqb x c && leb n 7) (reads n)
deed c t (tick p) = deed_if (eqb (length p) 64) ticks

-- a deed is a tick; "A refused tick (5 or 6) is no tick of any drive"
unfoldable pub is_tick : Deed → Bool
is_tick (starts s) = false
is_tick (stops flags) = false
is_tick (speeds v) = false
is_tick (sets s) = false
is_tick (reads n) = false
is_tick ticks = true
is_tick (pauses k) = false
is_tick rests = false
