-- Document 01, "Numbers handed back".
use Rattle.std.specs.Prelude.{Result, Ok, Err, ⊤}
use Rattle.std.specs.Prelude.{ℕ, Bool, ◌&&◌, ◌||◌, cond, eqb, leb}
use Rattle.drive.specs.declared.Refusal.{Refusal}
use Rattle.drive.specs.declared.Refusal.TheVariants.{NoForm, Busy, OutOfRange, WrongSize, NotSound, LocalMode, Disabled, Unread, SwitchAhead, AtLimit, AtRangeEnd, NotDriving, Full}

-- how a call is judged: it is done, or refused by a cause
abbrev pub Verdict : Type 0
Verdict = Result ⊤ Refusal

-- the number for each verdict:
-- 0 "done";
-- 1 "the line has none of the forms above";
-- 2 "a start, setting or speed selection (not SPC) of a driving channel";
-- 3 "form right, value outside its range";
-- 4 "local mode; A = 0; an active enabled switch ahead; no room; SPC on a stopped motor": 02 §5 "Split 4 by cause", and it "is no
-- longer given";
-- 5 "table not 1,088 bytes, reply buffer under 32, pulse buffer not 64, channel over 15, contacts over 7"; 02 §7: "a card number
-- over 1 at fresh is 5";
-- 6 "table not sound";
-- 02 §5: "7 local mode, 8 motor disabled, 9 contacts unread, 10 enabled switch active ahead, 11 no room because of a digital limit, 12
-- no room because of the end of the range .., 13 SPC on a stopped motor";
-- 02 §7: "a fifth start is 14"
unfoldable pub number_of : Verdict → ℕ
number_of (Ok u) = 0
number_of (Err NoForm) = 1
number_of (Err Busy) = 2
number_of (Err OutOfRange) = 3
number_of (Err WrongSize) = 5
number_of (Err NotSound) = 6
number_of (Err LocalMode) = 7
number_of (Err Disabled) = 8
number_of (Err Unread) = 9
number_of (Err SwitchAhead) = 10
number_of (Err AtLimit) = 11
number_of (Err AtRangeEnd) = 12
number_of (Err NotDriving) = 13
number_of (Err Full) = 14

-- "5 and 6 change nothing anywhere", and have no text
abbrev pub is_silent : ℕ → Bool
is_silent n = eqb n 5 || eqb n 6

-- the numbers that a line is refused with, and that leave their flag: "Numbers 1 to 4", where 4 "reads as the split numbers" (02 §5), 7
-- to 13, and those that later requests add to them, as 14 (02 §7)
abbrev pub is_refusal : ℕ → Bool
is_refusal n = (leb 1 n && leb n 3) || leb 7 n

-- "Numbers 1 to 4 set error flag bits 0 to 3 in turn": 1, 2 and 3 the bits 0, 1 and 2. 02 §5: "the flag bit 3, also for later command
-- numbers": bit 3 is the bit of every number that is left over
unfoldable pub flag_bit : ℕ → ℕ
flag_bit n = cond (eqb n 1) 0 (cond (eqb n 2) 1 (cond (eqb n 3) 2 3))
