-- Lines and the orders that they are, computed by the definitions. Each list is one statement, and its proof is the
-- computation.
use Rattle.std.specs.Prelude.{Option, Some, None}
use mathlib.Core.Path.{◌≡◌, refl}
use mathlib.Core.List.{[], ◌∷◌, ◌++◌, map}
use mathlib.Core.Bool.{true, false}
use Prim.Native.Nat.{ℕ}
use Prim.Native.String as S
use lib.ListN.{replicate}
use Rattle.text.specs.Text.{bytes}
use Rattle.digits.specs.Places.{cw, ccw}
use Rattle.line.specs.declared.Written.{Written}
use Rattle.line.specs.declared.Start.TheVariants.{Abs, Rel, Scan, Jog}
use Rattle.line.specs.declared.Setting.TheVariants.{Preset, SetCwLimit, SetCcwLimit, Select, SetSpeed, SetSwitches, SetMotor}
use Rattle.line.specs.declared.Question.TheVariants.{AskPosition, AskCwLimit, AskCcwLimit, AskSelected, AskSpeed, AskSwitches, AskMotor, AskStatus}
use Rattle.line.specs.declared.Order.{Order}
use Rattle.line.specs.declared.Order.TheVariants.{Go, Stop, StopAll, ChangeSpeed, Set, Ask, AskHead, ForHead}
use Rattle.line.specs.declared.HeadOrder.TheVariants.{Mode, AllReply, ClearErrors, ClearError, Pause}
use Rattle.line.specs.declared.HeadQuestion.TheVariants.{AskAllReply, AskFlags, AskError, AskPause, AskBusy, AskFree}
use Rattle.line.specs.Forms.{order_of, on_card}
use Rattle.line.specs.Computing.{computing_line}

-- a quoted line as an order
line : S.String → Option Order
line s = order_of (bytes s)

plus : ℕ → Written
plus n = record { minus = false; digits = n }

minus : ℕ → Written
minus n = record { minus = true; digits = n }

-- every form once, with the order that it is
every_form :
    (map line ("ABSB+5" ∷ "REL0-0000000013" ∷ "SCANP0" ∷ "SCANNF" ∷ "JOGP9" ∷ "JOGNA" ∷ [])
    ≡ Some (Go 11 (Abs (plus 5))) ∷ Some (Go 0 (Rel (minus 13))) ∷ Some (Go 0 (Scan cw)) ∷ Some (Go 15 (Scan ccw)) ∷ Some (Go 9 (Jog cw)) ∷ Some (Go 10 (Jog ccw)) ∷ [])
    × (map line ("SSTP3" ∷ "ESTP3" ∷ "ASSTP" ∷ "AESTP" ∷ "SPC0400" ∷ [])
    ≡ Some (Stop 3 0x40) ∷ Some (Stop 3 0x80) ∷ Some (StopAll 0x40) ∷ Some (StopAll 0x80) ∷ Some (ChangeSpeed 0 400) ∷ [])
    × (map line ("PS0-2147483648" ∷ "FL0+3" ∷ "BL7-30" ∷ "SPDH1" ∷ "SPDM1" ∷ "SPDL1" ∷ [])
    ≡ Some (Set 0 (Preset (minus 2147483648))) ∷ Some (Set 0 (SetCwLimit (plus 3))) ∷ Some (Set 7 (SetCcwLimit (minus 30))) ∷ Some (Set 1 (Select 2)) ∷ Some (Set 1 (Select 1)) ∷ Some (Set 1 (Select 0)) ∷ [])
    × (map line ("SPDH05000000" ∷ "SPDM0800" ∷ "SPDLF1" ∷ "SETLS0D" ∷ "SETLS011110020" ∷ "SETMT01912" ∷ [])
    ≡ Some (Set 0 (SetSpeed 2 5000000)) ∷ Some (Set 0 (SetSpeed 1 800)) ∷ Some (Set 15 (SetSpeed 0 1)) ∷ None ∷ Some (Set 0 (SetSwitches (record { a = 1; b = 1; c = 1; d = 1 }) (record { a = 0; b = 0; c = 2; d = 0 }))) ∷ Some (Set 0 (SetMotor (record { a = 1; b = 9; c = 1; d = 2 }))) ∷ [])
    × (map line ("PS?0" ∷ "FL?0" ∷ "BL?0" ∷ "SPD?0" ∷ "SPDH?0" ∷ "SPDM?0" ∷ "SPDL?0" ∷ "SETLS?0" ∷ "SETMT?0" ∷ "STS0?" ∷ [])
    ≡ map (λ q. Some (Ask 0 q)) (AskPosition ∷ AskCwLimit ∷ AskCcwLimit ∷ AskSelected ∷ AskSpeed 2 ∷ AskSpeed 1 ∷ AskSpeed 0 ∷ AskSwitches ∷ AskMotor ∷ AskStatus ∷ []))
    × (map line ("LOC" ∷ "REM" ∷ "ALL_REP EN" ∷ "ALL_REP DS" ∷ "ALL_REP?" ∷ "ERRF?" ∷ "ERR?" ∷ "ERRC" ∷ "ERRC9" ∷ [])
    ≡ Some (ForHead (Mode 0)) ∷ Some (ForHead (Mode 1)) ∷ Some (ForHead (AllReply 1)) ∷ Some (ForHead (AllReply 0)) ∷ Some (AskHead AskAllReply) ∷ Some (AskHead AskFlags) ∷ Some (AskHead AskError) ∷ Some (ForHead ClearErrors) ∷ Some (ForHead (ClearError 9)) ∷ [])
    × (map line ("PAUSE ON" ∷ "PAUSE OFF" ∷ "PAUSE?" ∷ "BSY?" ∷ "STQ?" ∷ [])
    ≡ Some (ForHead (Pause 1)) ∷ Some (ForHead (Pause 0)) ∷ Some (AskHead AskPause) ∷ Some (AskHead AskBusy) ∷ Some (AskHead AskFree) ∷ [])
unfolding computing_line line plus minus
every_form = (refl, refl, refl, refl, refl, refl, refl)

-- every form that names a channel once more, with a letter for it, which can be nothing but the channel
lettered :
    (map line ("ABSB+5" ∷ "RELC-0000000013" ∷ "SCANPD" ∷ "SCANNF" ∷ "JOGPE" ∷ "JOGNA" ∷ [])
    ≡ Some (Go 11 (Abs (plus 5))) ∷ Some (Go 12 (Rel (minus 13))) ∷ Some (Go 13 (Scan cw)) ∷ Some (Go 15 (Scan ccw)) ∷ Some (Go 14 (Jog cw)) ∷ Some (Go 10 (Jog ccw)) ∷ [])
    × (map line ("SSTPB" ∷ "ESTPC" ∷ "SPCD400" ∷ [])
    ≡ Some (Stop 11 0x40) ∷ Some (Stop 12 0x80) ∷ Some (ChangeSpeed 13 400) ∷ [])
    × (map line ("PSA-2147483648" ∷ "FLB+3" ∷ "BLC-30" ∷ "SPDHD" ∷ "SPDME" ∷ "SPDLF" ∷ [])
    ≡ Some (Set 10 (Preset (minus 2147483648))) ∷ Some (Set 11 (SetCwLimit (plus 3))) ∷ Some (Set 12 (SetCcwLimit (minus 30))) ∷ Some (Set 13 (Select 2)) ∷ Some (Set 14 (Select 1)) ∷ Some (Set 15 (Select 0)) ∷ [])
    × (map line ("SPDHA5000000" ∷ "SPDMB800" ∷ "SPDLC1" ∷ "SETLSD11110020" ∷ "SETMTE1912" ∷ [])
    ≡ Some (Set 10 (SetSpeed 2 5000000)) ∷ Some (Set 11 (SetSpeed 1 800)) ∷ Some (Set 12 (SetSpeed 0 1)) ∷ Some (Set 13 (SetSwitches (record { a = 1; b = 1; c = 1; d = 1 }) (record { a = 0; b = 0; c = 2; d = 0 }))) ∷ Some (Set 14 (SetMotor (record { a = 1; b = 9; c = 1; d = 2 }))) ∷ [])
    × (map line ("PS?A" ∷ "FL?A" ∷ "BL?A" ∷ "SPD?A" ∷ "SPDH?A" ∷ "SPDM?A" ∷ "SPDL?A" ∷ "SETLS?A" ∷ "SETMT?A" ∷ "STSA?" ∷ [])
    ≡ map (λ q. Some (Ask 10 q)) (AskPosition ∷ AskCwLimit ∷ AskCcwLimit ∷ AskSelected ∷ AskSpeed 2 ∷ AskSpeed 1 ∷ AskSpeed 0 ∷ AskSwitches ∷ AskMotor ∷ AskStatus ∷ []))
unfolding computing_line line plus minus
lettered = (refl, refl, refl, refl, refl)

-- 02 §1: "let a bare d mean plus", wherever ±d stands. x is one byte, read first, and leading zeros count among the ten digits.
bare :
    (map line ("ABS0100" ∷ "ABS01" ∷ "ABSA5" ∷ "ABS00" ∷ "ABS00000000013" ∷ "ABS09999999999" ∷ [])
    ≡ map (λ o. Some o) (Go 0 (Abs (plus 100)) ∷ Go 0 (Abs (plus 1)) ∷ Go 10 (Abs (plus 5)) ∷ Go 0 (Abs (plus 0)) ∷ Go 0 (Abs (plus 13)) ∷ Go 0 (Abs (plus 9999999999)) ∷ []))
    × (map line ("REL05" ∷ "PS02147483648" ∷ "FL0250" ∷ "BL7030" ∷ [])
    ≡ map (λ o. Some o) (Go 0 (Rel (plus 5)) ∷ Set 0 (Preset (plus 2147483648)) ∷ Set 0 (SetCwLimit (plus 250)) ∷ Set 7 (SetCcwLimit (plus 30)) ∷ []))
unfolding computing_line line plus
bare = (refl, refl)

-- where ±d stands, no number, two signs, a sign after the digits, a blank for the sign, eleven digits with a sign and bare; a
-- sign where d stands, and a number where none does
no_number :
    map line
    ("ABS0" ∷ "ABS0+" ∷ "ABS0-" ∷ "REL0" ∷ "PS0" ∷ "FL0+" ∷ "BL0-" ∷ "ABS0++5" ∷ "ABS0+-5" ∷ "REL0--5" ∷ "PS0-+5" ∷ "ABS05+" ∷ "ABS0 5" ∷ "ABSG5"
    ∷ "ABS000000000013" ∷ "PS012345678901" ∷ "PS0+12345678901" ∷ "SPC0+400" ∷ "SPC0-400" ∷ "SPDH0+400" ∷ "JOGP05" ∷ "SCANP0+5" ∷ [])
    ≡ replicate 22 None
unfolding computing_line line
no_number = refl

-- lines that have no form: empty, lower case, a byte too few or too many, a channel over F, a second channel, no digit, eleven
-- digits, another digit than the fixed 0 of SETLS, a CR at the end
no_form :
    map line
    ("" ∷ "rem" ∷ "RE" ∷ "REM " ∷ " REM" ∷ "REM\r" ∷ "ABSG+5" ∷ "ABSa+5" ∷ "ABS0+5 "
    ∷ "ABSBB+5" ∷ "SPC012345678901" ∷ "SPC0" ∷ "SPDM0800X" ∷ "SPDM" ∷ "SPDX0" ∷ "SETLS011111000" ∷ "SETLS01111000"
    ∷ "SETLS0111100000" ∷ "SETMT0110" ∷ "SETMT011000" ∷ "STS0" ∷ "STS?0" ∷ "PS?" ∷ "PS?0?" ∷ "ALL_REP  EN" ∷ "ALL_REP" ∷ "ERRC00"
    ∷ "ERRCA" ∷ "ERRF" ∷ "SSTP" ∷ "ASSTP0" ∷ "C0RLN01+5/+0" ∷ [])
    ≡ replicate 32 None
unfolding computing_line line
no_form = refl

-- 02 §3: the lines of pause have one blank and nothing more; 02 §6: `BSY?` names no channel, nor does 02 §7's
-- `STQ?`
no_pause :
    map line
    ("PAUSE" ∷ "PAUSE " ∷ "PAUSEON" ∷ "PAUSE  ON" ∷ "PAUSE ?" ∷ "PAUSE? " ∷ "PAUSE?0" ∷ "PAUSE O" ∷ "PAUSE OF" ∷ "PAUSE ONN" ∷ "PAUSE OFFF" ∷ "PAUSE OFN"
    ∷ "PAUSE OXF" ∷ "PAUSE ON " ∷ "PAUSE OFF " ∷ "PAUSE on" ∷ "PAUSE0 ON" ∷ "PAUSE EN" ∷ "ALL_REP ON" ∷ "PAUS ON" ∷ "BSY" ∷ "BSY?0" ∷ "BSY? " ∷ "BSY0?" ∷ "BUSY?" ∷ "STQ" ∷ "STQ?0" ∷ "STQ0?" ∷ "STQ? " ∷ "stq?" ∷ [])
    ≡ replicate 30 None
unfolding computing_line line
no_pause = refl

-- bytes over 127, and lines of 81 bytes; no form is longer than fifteen bytes, so that the limit of 80 refuses no line that
-- has one
long_lines :
    (order_of (0xc1 ∷ 0xff ∷ []) ≡ None) × (order_of (bytes "REM" ++ replicate 78 0) ≡ None)
    × (order_of (replicate 81 65) ≡ None)
unfolding computing_line
long_lines = (refl, refl, refl)

-- 02 §7: `STQ?` has a form on the four-motor card alone, and every other line on both
cards :
    (map (λ card. on_card card (line "STQ?")) (0 ∷ 1 ∷ []) ≡ None ∷ Some (AskHead AskFree) ∷ [])
    × (map (λ card. on_card card (line "BSY?")) (0 ∷ 1 ∷ []) ≡ Some (AskHead AskBusy) ∷ Some (AskHead AskBusy) ∷ [])
    × (map (λ card. on_card card (line "SCANP0")) (0 ∷ 1 ∷ []) ≡ Some (Go 0 (Scan cw)) ∷ Some (Go 0 (Scan cw)) ∷ [])
    × (on_card 1 (line "STQ") ≡ None)
unfolding computing_line line
cards = (refl, refl, refl, refl)
