-- Replies computed by the definitions. Each list is one statement, and its proof is the computation.
use Rattle.std.specs.Prelude.{Ok, Err}
use mathlib.Core.Path.{◌≡◌, refl}
use mathlib.Core.List.{List, [], ◌∷◌, ◌++◌, map}
use mathlib.Core.Bool.{true, false}
use Prim.Native.Nat.{ℕ, ◌+◌, ◌-◌}
use lib.ListN.{replicate}
use Rattle.text.specs.Text.{bytes}
use Rattle.digits.specs.Places.{origin, lowest, highest, cw, ccw}
use Rattle.record.specs.declared.Wiring.{Wiring}
use Rattle.record.specs.declared.Motor.{Motor}
use Rattle.record.specs.Record.{fresh_motor, standing, with_place, with_speeds, with_wiring, with_setup, with_drive}
use Rattle.drive.specs.declared.Course.TheVariants.{To, Along}
use Rattle.drive.specs.declared.Refusal.TheVariants.{NoForm, Busy, OutOfRange, WrongSize, NotSound, LocalMode, Disabled, Unread, SwitchAhead, AtLimit, AtRangeEnd, NotDriving}
use Rattle.drive.specs.Drives.{started, released, stopped, contacted}
use Rattle.table.specs.declared.head.Head.{Head}
use Rattle.table.specs.Layout.{with_mode, with_pause, with_busy}
use Rattle.line.specs.declared.Question.TheVariants.{AskPosition, AskCwLimit, AskCcwLimit, AskSelected, AskSpeed, AskSwitches, AskMotor, AskStatus}
use Rattle.line.specs.declared.HeadQuestion.TheVariants.{AskAllReply, AskFlags, AskError, AskPause, AskBusy, AskFree}
use Rattle.replies.specs.Replies.{text_of, echo, head_text, question_text}
use Rattle.replies.specs.Computing.{computing_replies}

-- Every verdict has its text where all-reply is on: 5 and 6 have none. Numbers that no verdict has yet have NG.
texts :
    (map (echo 1) ((Ok tt) ∷ (Err NoForm) ∷ (Err Busy) ∷ (Err OutOfRange) ∷ [])
    ≡ bytes "OK" ∷ bytes "COMMAND ERROR" ∷ bytes "MCC06 BUSY ERROR" ∷ bytes "PARAMETER ERROR" ∷ [])
    × (map (echo 1) ((Err LocalMode) ∷ (Err Disabled) ∷ (Err Unread) ∷ (Err SwitchAhead) ∷ (Err AtLimit) ∷ (Err AtRangeEnd) ∷ (Err NotDriving) ∷ []) ≡ replicate 7 (bytes "NG"))
    × (map (echo 1) ((Err WrongSize) ∷ (Err NotSound) ∷ []) ≡ [] ∷ [] ∷ []) × (map text_of (14 ∷ 15 ∷ 16 ∷ 17 ∷ []) ≡ replicate 4 (bytes "NG"))
unfolding computing_replies
texts = (refl, refl, refl, refl)

-- Where it is off, no verdict has one.
silent : map (echo 0) ((Ok tt) ∷ (Err NoForm) ∷ (Err Busy) ∷ (Err OutOfRange) ∷ (Err LocalMode) ∷ (Err NotDriving) ∷ []) ≡ replicate 6 []
unfolding computing_replies
silent = refl

-- a head with all-reply and error flags
abbrev heading : ℕ → ℕ → Head
heading all flags = record { mode = 1; reply = all; errors = flags; pause = 0; busy = 0; card = 0 }

-- `ALL_REP?`, `ERRF?` in capitals, `PAUSE?`; `BSY?`, of 02 §6: "four hex digits", channel F the 8 of the first and channel 0 the 1 of
-- the last; and `STQ?`, of 02 §7: four less those that are busy
about_head :
    (head_text (heading 1 0) AskAllReply ≡ bytes "EN")
    × (head_text (heading 0 0) AskAllReply ≡ bytes "DS")
    × (map (λ e. head_text (heading 0 e) AskFlags) (0 ∷ 8 ∷ 10 ∷ 15 ∷ 255 ∷ []) ≡ bytes "00" ∷ bytes "08" ∷ bytes "0A" ∷ bytes "0F" ∷ bytes "FF" ∷ [])
    × (map (λ n. head_text (with_pause (heading 1 15) n) AskPause) (0 ∷ 1 ∷ 2 ∷ []) ≡ bytes "OFF" ∷ bytes "ON" ∷ bytes "OFF" ∷ [])
    × (map (λ n. head_text (with_busy (heading 1 15) n) AskBusy) (0 ∷ 9 ∷ 0x8009 ∷ 0x0400 ∷ 0xABCD ∷ 0xFFFF ∷ [])
    ≡ bytes "0000" ∷ bytes "0009" ∷ bytes "8009" ∷ bytes "0400" ∷ bytes "ABCD" ∷ bytes "FFFF" ∷ [])
    × (map (λ n. head_text (with_busy (heading 1 15) n) AskFree) (0 ∷ 0x8000 ∷ 0x8001 ∷ 0x400A ∷ 0x400B ∷ 0xFFFF ∷ [])
    ≡ bytes "R4" ∷ bytes "R3" ∷ bytes "R2" ∷ bytes "R1" ∷ bytes "R0" ∷ bytes "R0" ∷ [])
    × (head_text (with_mode (heading 0 0) 0) AskFree ≡ bytes "L4")
unfolding computing_replies
about_head = (refl, refl, refl, refl, refl, refl, refl)

-- `ERR?` with each set of flags, 0 to 15: the lowest that is set has its text.
errors :
    (map (λ e. head_text (heading 0 e) AskError) (0 ∷ 8 ∷ []) ≡ bytes "NO ERROR" ∷ bytes "OTHER ERROR" ∷ [])
    × (map (λ e. head_text (heading 0 e) AskError) (4 ∷ 12 ∷ []) ≡ replicate 2 (bytes "PARAMETER ERROR"))
    × (map (λ e. head_text (heading 0 e) AskError) (2 ∷ 6 ∷ 10 ∷ 14 ∷ [])
    ≡ replicate 4 (bytes "MCC06 BUSY ERROR"))
    × (map (λ e. head_text (heading 0 e) AskError) (1 ∷ 3 ∷ 5 ∷ 7 ∷ 9 ∷ 11 ∷ 13 ∷ 15 ∷ [])
    ≡ replicate 8 (bytes "COMMAND ERROR"))
unfolding computing_replies
errors = (refl, refl, refl, refl)

-- what `PS?x` answers at a place
at_place : ℕ → List ℕ
at_place p = question_text 1 0 (with_place fresh_motor p) AskPosition

-- "a sign (+ for 0) and at least 7 digits": more where the number has more, to the ends of the range
positions :
    map at_place (origin ∷ (origin + 3) ∷ (origin - 30) ∷ (origin + 12345678) ∷ (origin - 1) ∷ lowest ∷ highest ∷ [])
    ≡ bytes "+0000000" ∷ bytes "+0000003" ∷ bytes "-0000030" ∷ bytes "+12345678" ∷ bytes "-0000001" ∷ bytes "-2147483647" ∷ bytes "+2147483647" ∷ []
unfolding computing_replies at_place
positions = refl

-- Numbers that no sound table has are answered too: a place past the range, flags past the fourth, another speed's number.
unsound :
    (at_place 0 ≡ bytes "-2147483648")
    × (head_text (heading 2 0) AskAllReply ≡ bytes "DS")
    × (head_text (heading 0 16) AskError ≡ bytes "NO ERROR")
    × (question_text 1 0 fresh_motor (AskSpeed 3) ≡ bytes "001000")
unfolding computing_replies at_place
unsound = (refl, refl, refl, refl)

-- the settings of a fresh motor
fresh_settings :
    map (question_text 0 0 fresh_motor) (AskCwLimit ∷ AskCcwLimit ∷ AskSelected ∷ AskSpeed 2 ∷ AskSpeed 1 ∷ AskSpeed 0 ∷ AskSwitches ∷ AskMotor ∷ [])
    ≡ bytes "+1000000" ∷ bytes "-1000000" ∷ bytes "MSPD" ∷ bytes "001000" ∷ bytes "000800" ∷ bytes "000050" ∷ bytes "01110000" ∷ bytes "1100" ∷ []
unfolding computing_replies
fresh_settings = refl

-- a motor with other settings: speeds of more and of fewer digits, every switch digit that may be 1, D = 2
other : ℕ → Motor
other selected =
    with_setup
    (with_wiring
    (with_speeds fresh_motor (record { high = 5000000; middle = 123456; low = 1; selected = selected }))
    (record { setls = 0b11110101; contacts = 0; read = 0 }))
    (record { a = 0; b = 1; c = 0; d = 2 })

other_settings :
    (map (question_text 1 15 (other 0)) (AskSpeed 2 ∷ AskSpeed 1 ∷ AskSpeed 0 ∷ AskSwitches ∷ AskMotor ∷ [])
    ≡ bytes "5000000" ∷ bytes "123456" ∷ bytes "000001" ∷ bytes "11110101" ∷ bytes "0102" ∷ [])
    × (map (λ n. question_text 1 15 (other n) AskSelected) (0 ∷ 1 ∷ 2 ∷ []) ≡ bytes "LSPD" ∷ bytes "MSPD" ∷ bytes "HSPD" ∷ [])
unfolding computing_replies other
other_settings = (refl, refl)

-- a fresh motor whose contacts were read, all open
known : Motor
known = contacted fresh_motor 0

-- "`STSx?`": the cases of the document, then local mode, CCW, the channel in hex and end flags
statuses :
    (question_text 1 0 (with_place (started false known (To (origin + 3))) (origin + 2)) AskStatus ≡ bytes "R0P003+0000002")
    × (question_text 1 0 (with_drive (with_place fresh_motor (origin + 3)) 0x20 standing) AskStatus ≡ bytes "R0S020+0000003")
    × (question_text 1 0 (with_place fresh_motor (origin + 3)) AskStatus ≡ bytes "R0S000+0000003")
    × (question_text 0 10 fresh_motor AskStatus ≡ bytes "LAS000+0000000")
    × (question_text 1 15 (with_place (started false known (Along ccw)) (origin - 4)) AskStatus ≡ bytes "RFN003-0000004")
    × (question_text 1 9 (stopped 0x80 (started false known (Along cw))) AskStatus ≡ bytes "R9S080+0000000")
    × (question_text 1 9 (stopped 0x40 (started false known (Along cw))) AskStatus ≡ bytes "R9S040+0000000")
    × (question_text 1 0 (with_place fresh_motor lowest) AskStatus ≡ bytes "R0S000-2147483647")
unfolding computing_replies known
statuses = (refl, refl, refl, refl, refl, refl, refl, refl)

-- what `STSx?` answers of a stopped motor with some wiring and the digit B, and with contacts that are read
showing : Wiring → ℕ → List ℕ
showing w b = question_text 1 0 (with_setup (with_wiring fresh_motor w) (record { a = 1; b = b; c = 0; d = 0 })) AskStatus

with_v : ℕ → ℕ → ℕ → List ℕ
with_v setls contacts b = showing (record { setls = setls; contacts = contacts; read = 1 }) b

-- "V": a closed N.O. contact and an open N.C. one count, enabled or not; bit 3 is B = 0 when stopped, and only then.
switches_shown :
    (with_v 0b01110001 0 1 ≡ bytes "R0S100+0000000")
    × (with_v 0b01110000 0b010 1 ≡ bytes "R0S200+0000000")
    × (with_v 0b00000000 0b100 1 ≡ bytes "R0S400+0000000")
    × (with_v 0b01110111 0b111 1 ≡ bytes "R0S000+0000000")
    × (with_v 0b01110000 0b000 0 ≡ bytes "R0S800+0000000")
    × (with_v 0b00000101 0b010 0 ≡ bytes "R0SF00+0000000")
    × (question_text 1 0 (started false (with_setup known (record { a = 1; b = 0; c = 0; d = 0 })) (Along cw)) AskStatus ≡ bytes "R0P003+0000000")
unfolding computing_replies with_v showing known
switches_shown = (refl, refl, refl, refl, refl, refl, refl)

-- 02 §3: held, "STS shows S, HH 01, V's bit 3 clear": CW and CCW, with B at 1 and at 0, with a switch closed, in local mode, and stopped
-- again.
unset : Motor
unset = with_setup known (record { a = 1; b = 0; c = 0; d = 0 })

held_shown :
    (map (λ going. question_text 1 0 (started true known (Along going)) AskStatus) (cw ∷ ccw ∷ []) ≡ replicate 2 (bytes "R0S001+0000000"))
    × (map (λ m. question_text 1 0 m AskStatus) (unset ∷ started true unset (Along cw) ∷ stopped 0x80 (started true unset (Along cw)) ∷ [])
    ≡ bytes "R0S800+0000000" ∷ bytes "R0S001+0000000" ∷ bytes "R0S880+0000000" ∷ [])
    × (question_text 1 2 (started true (contacted fresh_motor 1) (Along ccw)) AskStatus ≡ bytes "R2S101+0000000")
    × (question_text 0 0 (started true known (Along cw)) AskStatus ≡ bytes "L0S001+0000000")
    × (question_text 1 0 (released (started true unset (Along ccw))) AskStatus ≡ bytes "R0N003+0000000")
unfolding computing_replies known unset
held_shown = (refl, refl, refl, refl, refl)

-- 02 §2: "V shows its switch bits as 0 while unknown": N.O. or N.C., enabled or not; bit 3 is shown as before.
unknown_shown :
    map (λ setls. showing (record { setls = setls; contacts = 0; read = 0 }) 1) (0b01110000 ∷ 0b01110111 ∷ 0b00000111 ∷ []) ++ (showing (record { setls = 0b01110111; contacts = 0; read = 0 }) 0 ∷ [])
    ≡ bytes "R0S000+0000000" ∷ bytes "R0S000+0000000" ∷ bytes "R0S000+0000000" ∷ bytes "R0S800+0000000" ∷ []
unfolding computing_replies showing
unknown_shown = refl
