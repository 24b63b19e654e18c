-- The calls computed on cases beyond document 01's marked ones: the order of the refusals, the replies, settings read back,
-- bare numbers, switch readings, contacts that are unknown, drives that are held, the busy set, the four-motor card, and inputs that no call
-- may take. Each list is one statement, and its proof is the computation.
use mathlib.Core.Path.{◌≡◌, refl}
use mathlib.Core.List.{List, [], ◌∷◌, ◌++◌, map}
use Prim.Native.Nat.{ℕ}
use lib.ListN.{replicate}
use Rattle.digits.specs.Bytes.{put}
use Rattle.digits.specs.Places.{cw, ccw}
use Rattle.text.specs.Text.{bytes}
use Rattle.urqolina.specs.Calls.{fresh_call, command_call, reading_call, tick_call}
use Rattle.urqolina.specs.Computing.{computing_urqolina}
use Rattle.laws.specs.Sequences as Q
use Rattle.cases.proofs.Steps.{Step, says, reads, ticks, holds, lent, fresh, fresh_four, after, seen_by, left_by, seen, seen_four, tried, stated, checked, four_checked, all_checked, tried_checked}

-- Local mode refuses starts, settings, SPC and all-reply before their values are looked at, and a line with no form before
-- that; reads, stops, LOC, REM and the ERR family are taken. Each number leaves its flag, and ERR? tells the lowest.
local_mode : List Step
local_mode =
    says "SCANP0" 7 "" ∷ says "PS0+9999999999" 7 "" ∷ says "SPDM0" 7 "" ∷ says "SPC00" 7 "" ∷ says "ALL_REP EN" 7 "" ∷ says "REL0+0" 7 ""
    ∷ says "ERRF?" 0 "08" ∷ says "ERR?" 0 "OTHER ERROR" ∷ says "scanp0" 1 "" ∷ says "ERR?" 0 "COMMAND ERROR" ∷ says "ERRC4" 3 ""
    ∷ says "ERRF?" 0 "0D" ∷ says "ERRC0" 0 "" ∷ says "ERR?" 0 "PARAMETER ERROR" ∷ says "SSTP0" 0 "" ∷ says "AESTP" 0 ""
    ∷ says "ALL_REP?" 0 "DS" ∷ says "LOC" 0 "" ∷ says "STSF?" 0 "LFS000+0000000" ∷ says "ERRC" 0 "" ∷ says "ERR?" 0 "NO ERROR" ∷ says "SCANP0" 7 "" ∷ says "" 1 ""
    ∷ says "ERRC3" 0 "" ∷ says "ERRF?" 0 "01" ∷ []

local_mode_checked : seen local_mode ≡ map stated local_mode
unfolding computing_urqolina local_mode fresh Q.after after seen_by stated
local_mode_checked = checked local_mode refl

-- In remote mode the value comes before busy, busy before the target's range, and that before the motor's own causes. ABS to
-- the present position and REL 0 meet no check after busy; SPC knows no busy and needs a drive.
refusals : List Step
refusals =
    reads 14 0 0 ∷ says "REM" 0 "" ∷ says "PSE+2147483640" 0 "" ∷ says "SPCE100" 13 "" ∷ says "SCANNE" 0 "" ∷ says "RELE+2147483648" 3 ""
    ∷ says "RELE+100" 2 "" ∷ says "ABSE+2147483640" 2 "" ∷ says "RELE+0" 2 "" ∷ says "SPDME5000001" 3 "" ∷ says "SPDME500" 2 ""
    ∷ says "SPDHE" 2 "" ∷ says "FLE+1" 2 "" ∷ says "SETMTE1110" 3 "" ∷ says "SETMTE1100" 2 "" ∷ says "SETLSE21110000" 3 ""
    ∷ says "SPCE5000001" 3 "" ∷ says "SPCE5000000" 0 "" ∷ says "SSTPE" 0 "" ∷ says "SSTPE" 0 "" ∷ says "STSE?" 0 "RES040+2147483640"
    ∷ says "JOGPE" 0 "" ∷ says "ESTPE" 0 "" ∷ says "SETMTE0000" 0 "" ∷ says "RELE+100" 3 "" ∷ says "SCANNE" 8 "" ∷ says "ABSE+2147483640" 0 ""
    ∷ says "RELE-0" 0 "" ∷ says "STSE?" 0 "RES880+2147483640" ∷ says "ERRF?" 0 "0E" ∷ says "ERR?" 0 "MCC06 BUSY ERROR" ∷ []

refusals_checked : seen refusals ≡ map stated refusals
unfolding computing_urqolina refusals fresh Q.after after seen_by stated
refusals_checked = checked refusals refl

-- With all-reply on every line is answered: a read with its own reply, the others and refusals with their text; as it is
-- after the command.
all_reply : List Step
all_reply =
    reads 3 0 0 ∷ says "REM" 0 "" ∷ says "ALL_REP EN" 0 "OK" ∷ says "ALL_REP?" 0 "EN" ∷ says "SCANP3" 0 "OK" ∷ says "SCANP3" 2 "MCC06 BUSY ERROR"
    ∷ says "PS0+2147483648" 3 "PARAMETER ERROR" ∷ says "X" 1 "COMMAND ERROR" ∷ says "SPC0800" 13 "NG" ∷ says "ASSTP" 0 "OK" ∷ says "LOC" 0 "OK"
    ∷ says "ALL_REP DS" 7 "NG" ∷ says "REM" 0 "OK" ∷ says "ALL_REP DS" 0 "" ∷ says "X" 1 "" ∷ says "ALL_REP?" 0 "DS" ∷ []

all_reply_checked : seen all_reply ≡ map stated all_reply
unfolding computing_urqolina all_reply fresh Q.after after seen_by stated
all_reply_checked = checked all_reply refl

-- An accepted setting reads back with its value, and stands in its bytes.
settings : List Step
settings =
    reads 10 0 0 ∷ says "REM" 0 "" ∷ says "PS?A" 0 "+0000000" ∷ says "FL?A" 0 "+1000000" ∷ says "BL?A" 0 "-1000000" ∷ says "SPD?A" 0 "MSPD"
    ∷ says "SPDH?A" 0 "001000" ∷ says "SPDM?A" 0 "000800" ∷ says "SPDL?A" 0 "000050" ∷ says "SETLS?A" 0 "01110000" ∷ says "SETMT?A" 0 "1100"
    ∷ says "PSA-12" 0 "" ∷ says "FLA+2147483647" 0 "" ∷ says "BLA-2147483647" 0 "" ∷ says "SPDHA5000000" 0 "" ∷ says "SPDMA1" 0 ""
    ∷ says "SPDLA0000000123" 0 "" ∷ says "SPDLA" 0 "" ∷ says "SETLSA11011011" 1 "" ∷ says "SETLSA11019010" 1 "" ∷ says "SETLSA11010101" 0 ""
    ∷ says "SETMTA1002" 0 "" ∷ says "PS?A" 0 "-0000012" ∷ says "FL?A" 0 "+2147483647" ∷ says "BL?A" 0 "-2147483647" ∷ says "SPD?A" 0 "LSPD"
    ∷ says "SPDH?A" 0 "5000000" ∷ says "SPDM?A" 0 "000001" ∷ says "SPDL?A" 0 "000123" ∷ says "SETLS?A" 0 "11010101" ∷ says "SETMT?A" 0 "1002"
    ∷ says "STSA?" 0 "RASD00-0000012" ∷ holds 704 (0xf4 ∷ 0xff ∷ 0xff ∷ 0xff ∷ 0xff ∷ 0xff ∷ 0xff ∷ 0x7f ∷ 1 ∷ 0 ∷ 0 ∷ 0x80 ∷ []) ∷ []

settings_checked : seen settings ≡ map stated settings
unfolding computing_urqolina settings fresh Q.after after seen_by stated
settings_checked = checked settings refl

-- 02 §1: "Wherever a form takes ±d, let a bare d mean plus". x is one byte, and ten digits are the most, leading zeros among them. A
-- number that is missing, two signs, eleven digits and a sign where d stands are 1, and ten digits above the range 3.
bare : List Step
bare =
    reads 0 0 0 ∷ says "REM" 0 "" ∷ says "SPDM05000000" 0 "" ∷ says "ABS0100" 0 "" ∷ ticks 0 cw 100 ∷ says "REL05" 0 "" ∷ ticks 0 cw 5 ∷ says "PS?0" 0 "+0000105"
    ∷ says "FL0250" 0 "" ∷ says "FL?0" 0 "+0000250" ∷ says "BL030" 0 "" ∷ says "BL?0" 0 "+0000030" ∷ says "ABS0" 1 "" ∷ says "ABS0+" 1 "" ∷ says "ABS0+-5" 1 ""
    ∷ says "ABSBB5" 1 "" ∷ says "PS02147483648" 3 "" ∷ says "PS012345678901" 1 "" ∷ says "PS00000000007" 0 "" ∷ says "PS?0" 0 "+0000007" ∷ says "PS0-0" 0 ""
    ∷ says "PS?0" 0 "+0000000" ∷ says "SCANP0" 0 "" ∷ says "SPC0+400" 1 "" ∷ says "SPC0400" 0 "" ∷ says "PS07" 2 "" ∷ says "LOC" 0 "" ∷ says "ABS07" 7 "" ∷ []

bare_checked : seen bare ≡ map stated bare
unfolding computing_urqolina bare fresh Q.after after seen_by stated
bare_checked = checked bare refl

-- A reading is taken in both modes, replaces the contacts, and ends a drive by the switch of its direction alone. CCW counts
-- are negative.
readings : List Step
readings =
    reads 2 0 0 ∷ says "REM" 0 "" ∷ says "SPDM24000" 0 "" ∷ says "SCANN2" 0 "" ∷ ticks 2 ccw 4 ∷ says "LOC" 0 "" ∷ reads 2 5 0 ∷ says "STS2?" 0 "L2N503-0000004"
    ∷ reads 2 3 0 ∷ says "STS2?" 0 "L2S320-0000004" ∷ ticks 2 ccw 0 ∷ reads 16 0 5 ∷ reads 2 8 5 ∷ reads 4294967295 4294967295 5
    ∷ reads 15 7 0 ∷ says "STSF?" 0 "LFS700+0000000" ∷ []

readings_checked : seen readings ≡ map stated readings
unfolding computing_urqolina readings fresh Q.after after seen_by stated
readings_checked = checked readings refl

-- 02 §2: "Contacts must be unknown until the channel's first accepted reading." On a channel that was not read no start moves the
-- motor, whatever SETLS enables, and only what stays where it is is 0; a reading of open contacts makes it ready, and neither stops
-- nor SETLS make it unread again. A rack that stands on its CW switch leaves it CCW alone. V shows no switch, N.C. or not, until one
-- is read. The target's range comes before the reading, and contacts over 7 are none; a reading of another channel tells nothing.
unread : List (List Step)
unread =
    (says "REM" 0 "" ∷ says "SCANP0" 9 "" ∷ says "STS0?" 0 "R0S000+0000000" ∷ says "REL0+0" 0 "" ∷ says "ABS0+0" 0 "" ∷ says "SETLS000000000" 0 ""
    ∷ says "SCANP0" 9 "" ∷ reads 0 0 0 ∷ says "SCANP0" 0 "" ∷ says "ESTP0" 0 "" ∷ says "SCANN0" 0 "" ∷ says "ASSTP" 0 "" ∷ says "SETLS001110000" 0 ""
    ∷ says "JOGP0" 0 "" ∷ [])
    ∷ (reads 0 1 0 ∷ says "REM" 0 "" ∷ says "STS0?" 0 "R0S100+0000000" ∷ says "SCANP0" 10 "" ∷ says "SCANN0" 0 "" ∷ [])
    ∷ (says "REM" 0 "" ∷ says "SETLS001110111" 0 "" ∷ says "STS0?" 0 "R0S000+0000000" ∷ says "SETMT01000" 0 "" ∷ says "STS0?" 0 "R0S800+0000000"
    ∷ reads 0 0 0 ∷ says "STS0?" 0 "R0SF00+0000000" ∷ [])
    ∷ (says "REM" 0 "" ∷ says "PS0+2147483647" 0 "" ∷ says "REL0+1" 3 "" ∷ says "JOGP0" 3 "" ∷ says "SCANP0" 9 "" ∷ says "ERRF?" 0 "0C" ∷ reads 0 8 5
    ∷ reads 1 0 0 ∷ says "SCANN0" 9 "" ∷ reads 0 0 0 ∷ says "SCANN0" 0 "" ∷ [])
    ∷ []

unread_checked : map seen unread ≡ map (λ c. map stated c) unread
unfolding computing_urqolina unread fresh Q.after after seen_by stated
unread_checked = all_checked unread refl

-- "Record byte 44 says so (0 unknown, with contacts 0; 1 read); a driving record has 1": what a tick gives on a table with one byte of
-- channel 0's record set otherwise. Bytes 26, 44 and 45 of it stand at 90, 108 and 109.
abbrev started : List Step
started = reads 0 0 0 ∷ says "REM" 0 "" ∷ says "SCANP0" 0 "" ∷ []

abbrev set : ℕ → ℕ → List ℕ → List ℕ
set at n t = put t at (n ∷ [])

sound_contacts :
    (tried [] (set 108 0 ∷ set 108 1 ∷ set 108 2 ∷ set 90 1 ∷ set 109 1 ∷ []) ≡ 0 ∷ 0 ∷ 6 ∷ 6 ∷ 6 ∷ [])
    × (tried (reads 0 5 0 ∷ []) (set 108 1 ∷ set 108 0 ∷ []) ≡ 0 ∷ 6 ∷ []) × (tried started (set 108 1 ∷ set 108 0 ∷ []) ≡ 0 ∷ 6 ∷ [])
    × (tried (started ++ (says "SSTP0" 0 "" ∷ [])) (set 108 0 ∷ []) ≡ 0 ∷ [])
unfolding computing_urqolina fresh Q.after after left_by
sound_contacts = (tried_checked _ _ _ refl, tried_checked _ _ _ refl, tried_checked _ _ _ refl, tried_checked _ _ _ refl)

-- 02 §3: "While on .., an accepted start is a held drive", "OFF releases all". REL 0 and ABS to the present position hold
-- nothing; what is held has all that its start wrote, with 3 in byte 32 (bytes 31 to 43 stand at 95 to 107). A held channel is busy to
-- settings and starts, REL 0 too, SPC sets its coming speed, and ticks give it nothing until its release, which changes byte 32. Stops and the switch of its direction end
-- it, with their flags, in both modes; the other switch and HP end nothing. What runs already runs on. LOC and REM leave pause, and in
-- local mode neither ON, OFF nor SPC is taken.
pausing : List (List Step)
pausing =
    (reads 0 0 0 ∷ says "REM" 0 "" ∷ says "PAUSE?" 0 "OFF" ∷ says "PAUSE ON" 0 "" ∷ says "REL0+0" 0 "" ∷ says "ABS0+0" 0 "" ∷ says "STS0?" 0 "R0S000+0000000" ∷ says "REL0+3" 0 ""
    ∷ holds 3 (1 ∷ []) ∷ holds 95 (0 ∷ 3 ∷ 1 ∷ 0 ∷ 0 ∷ 0x20 ∷ 3 ∷ 0 ∷ 0 ∷ 3 ∷ 0 ∷ 0 ∷ 0 ∷ [])
    ∷ says "REL0+0" 2 "" ∷ says "ABS0+0" 2 "" ∷ says "PS0+5" 2 "" ∷ says "SPDH0" 2 "" ∷ says "SETMT01100" 2 "" ∷ says "SPC00" 3 "" ∷ says "SPC01000" 0 ""
    ∷ ticks 0 cw 0 ∷ says "STS0?" 0 "R0S001+0000000" ∷ says "PAUSE ON" 0 "" ∷ says "PAUSE OFF" 0 ""
    ∷ holds 3 (0 ∷ []) ∷ holds 95 (0 ∷ 1 ∷ 1 ∷ 0 ∷ 0 ∷ 0xe8 ∷ 3 ∷ 0 ∷ 0 ∷ 3 ∷ 0 ∷ 0 ∷ 0 ∷ []) ∷ ticks 0 cw 1 ∷ ticks 0 cw 1 ∷ says "STS0?" 0 "R0P003+0000002"
    ∷ ticks 0 cw 1 ∷ says "STS0?" 0 "R0S000+0000003" ∷ says "PAUSE OFF" 0 "" ∷ [])
    ∷ (reads 0 0 0 ∷ reads 1 0 0 ∷ says "REM" 0 "" ∷ says "PAUSE ON" 0 "" ∷ says "SCANP0" 0 "" ∷ says "SCANN1" 0 "" ∷ reads 0 6 0 ∷ says "STS0?" 0 "R0S601+0000000"
    ∷ reads 1 5 0 ∷ says "STS1?" 0 "R1S501+0000000" ∷ says "LOC" 0 "" ∷ reads 1 2 0 ∷ says "STS1?" 0 "L1S220+0000000" ∷ says "ESTP0" 0 "" ∷ says "STS0?" 0 "L0S680+0000000"
    ∷ says "PAUSE?" 0 "ON" ∷ ticks 0 cw 0 ∷ [])
    ∷ (reads 0 0 0 ∷ reads 1 0 0 ∷ says "REM" 0 "" ∷ says "SPDM01000" 0 "" ∷ says "SCANP0" 0 "" ∷ says "PAUSE ON" 0 "" ∷ says "JOGN1" 0 "" ∷ ticks 0 cw 1
    ∷ says "LOC" 0 "" ∷ says "SPC1400" 7 "" ∷ says "PAUSE OFF" 7 "" ∷ says "PAUSE ON" 7 "" ∷ says "STS1?" 0 "L1S001+0000000" ∷ says "REM" 0 "" ∷ says "STS1?" 0 "R1S001+0000000" ∷ says "ASSTP" 0 ""
    ∷ says "STS0?" 0 "R0S040+0000001" ∷ says "STS1?" 0 "R1S040+0000000" ∷ says "ALL_REP EN" 0 "OK" ∷ says "PAUSE OFF" 0 "OK" ∷ says "PAUSE?" 0 "OFF" ∷ says "PAUSE" 1 "COMMAND ERROR"
    ∷ says "PAUSE  ON" 1 "COMMAND ERROR" ∷ [])
    ∷ []

pausing_checked : map seen pausing ≡ map (λ c. map stated c) pausing
unfolding computing_urqolina pausing fresh Q.after after seen_by stated
pausing_checked = all_checked pausing refl

-- "a held record is sound only under pause, and otherwise as a driving one": what a tick gives on a table with some bytes set otherwise,
-- the record of channel 0 from byte 64 on. Bytes 4, 25, 26, 27, 31, 32, 34, 36, 40 and 44 of it stand at 68, 89, 90,
-- 91, 95, 96, 98, 100, 104 and 108.
abbrev waiting : List Step
waiting = reads 0 0 0 ∷ says "REM" 0 "" ∷ says "PAUSE ON" 0 "" ∷ []

abbrev held_three : List Step
held_three = waiting ++ (says "REL0+3" 0 "" ∷ [])

abbrev held_scan : List Step
held_scan = waiting ++ (says "SCANP0" 0 "" ∷ [])

sound_held :
    (tried [] (set 3 1 ∷ set 3 2 ∷ []) ≡ 0 ∷ 6 ∷ []) × (tried (started ++ (says "PAUSE ON" 0 "" ∷ [])) ((λ t. t) ∷ []) ≡ 0 ∷ [])
    × (tried started (set 96 3 ∷ (λ t. set 96 3 (set 3 1 t)) ∷ []) ≡ 6 ∷ 0 ∷ []) × (tried held_three (set 3 1 ∷ set 3 0 ∷ set 96 5 ∷ set 96 4 ∷ []) ≡ 0 ∷ 6 ∷ 6 ∷ 6 ∷ [])
    × (tried held_scan (set 96 4 ∷ set 96 5 ∷ set 96 0 ∷ (λ t. set 89 0xf0 (put t 68 (0 ∷ 0 ∷ 0 ∷ []))) ∷ []) ≡ 0 ∷ 6 ∷ 6 ∷ 6 ∷ [])
    × (tried held_three (set 95 0x40 ∷ set 91 0 ∷ set 108 0 ∷ set 90 1 ∷ set 90 2 ∷ []) ≡ 6 ∷ 6 ∷ 6 ∷ 6 ∷ 0 ∷ [])
    × (tried held_three (set 104 0 ∷ set 98 5 ∷ (λ t. set 100 0 (set 101 0 t)) ∷ []) ≡ 6 ∷ 0 ∷ 6 ∷ [])
unfolding computing_urqolina fresh Q.after after left_by
sound_held = (
  tried_checked _ _ _ refl,
  tried_checked _ _ _ refl,
  tried_checked _ _ _ refl,
  tried_checked _ _ _ refl,
  tried_checked _ _ _ refl,
  tried_checked _ _ _ refl,
  tried_checked _ _ _ refl,
)

-- 02 §6: "Keep it in head bytes 4-5, bit c for channel c, held drives included", and `BSY?` "answers four hex digits", in both modes. A
-- start sets its bit, held or not; REL 0 and what is refused set none; SPC and the lines of pause leave it. A tick that ends a drive, at
-- its target or at its limit, clears the bit while the pulse stands in the buffer; so do a reading and a stop, of a held drive too.
-- Channel F is the 8 of the first digit, and stands in byte 5.
keeping : List (List Step)
keeping =
    (reads 0 0 0 ∷ reads 3 0 0 ∷ reads 15 0 0 ∷ says "BSY?" 0 "0000" ∷ says "REM" 0 "" ∷ says "REL0+0" 0 "" ∷ says "SCANP1" 9 "" ∷ says "BSY?" 0 "0000" ∷ says "SPDM05000000" 0 ""
    ∷ says "REL0+1" 0 "" ∷ says "SCANP3" 0 "" ∷ says "BSY?" 0 "0009" ∷ says "SPC3400" 0 "" ∷ says "SCANP3" 2 "" ∷ says "PAUSE ON" 0 "" ∷ says "SCANNF" 0 "" ∷ says "BSY?" 0 "8009"
    ∷ holds 3 (1 ∷ 0x09 ∷ 0x80 ∷ 0 ∷ []) ∷ ticks 0 cw 1 ∷ says "BSY?" 0 "8008" ∷ says "PAUSE OFF" 0 "" ∷ says "BSY?" 0 "8008" ∷ reads 15 2 0 ∷ says "BSY?" 0 "0008"
    ∷ says "LOC" 0 "" ∷ says "BSY?" 0 "0008" ∷ says "ASSTP" 0 "" ∷ says "BSY?" 0 "0000" ∷ holds 3 (0 ∷ 0 ∷ 0 ∷ 0 ∷ []) ∷ says "BSY?0" 1 "" ∷ [])
    ∷ (reads 10 0 0 ∷ says "REM" 0 "" ∷ says "SPDMA5000000" 0 "" ∷ says "FLA+3" 0 "" ∷ says "SETLSA11110000" 0 "" ∷ says "SCANPA" 0 "" ∷ says "BSY?" 0 "0400" ∷ ticks 10 cw 3
    ∷ says "BSY?" 0 "0000" ∷ says "STSA?" 0 "RAS020+0000003" ∷ says "PAUSE ON" 0 "" ∷ says "SCANNA" 0 "" ∷ says "ALL_REP EN" 0 "OK" ∷ says "BSY?" 0 "0400" ∷ says "ESTPA" 0 "OK"
    ∷ says "BSY?" 0 "0000" ∷ [])
    ∷ []

keeping_checked : map seen keeping ≡ map (λ c. map stated c) keeping
unfolding computing_urqolina keeping fresh Q.after after seen_by stated
keeping_checked = all_checked keeping refl

-- "Soundness asks that it is true", "a wrong set is 6": what a tick gives on a table with bytes 4 and 5 of its head set otherwise.
abbrev started_at8 : List Step
started_at8 = reads 8 0 0 ∷ says "REM" 0 "" ∷ says "SCANP8" 0 "" ∷ []

abbrev sets : List (List ℕ) → List (List ℕ → List ℕ)
sets bs = map (λ b. λ t. put t 4 b) bs

sound_sets :
    (tried [] (sets ((0 ∷ []) ∷ (1 ∷ []) ∷ (0 ∷ 1 ∷ []) ∷ (0 ∷ 128 ∷ []) ∷ [])) ≡ 0 ∷ 6 ∷ 6 ∷ 6 ∷ [])
    × (tried started (sets ((1 ∷ []) ∷ (0 ∷ []) ∷ (3 ∷ []) ∷ (0 ∷ 128 ∷ []) ∷ (1 ∷ 1 ∷ []) ∷ (2 ∷ []) ∷ [])) ≡ 0 ∷ 6 ∷ 6 ∷ 6 ∷ 6 ∷ 6 ∷ [])
    × (tried started_at8 (sets ((0 ∷ 1 ∷ []) ∷ (1 ∷ 0 ∷ []) ∷ [])) ≡ 0 ∷ 6 ∷ []) × (tried held_scan (sets ((1 ∷ []) ∷ (0 ∷ []) ∷ [])) ≡ 0 ∷ 6 ∷ [])
unfolding computing_urqolina fresh Q.after after left_by
sound_sets = (tried_checked _ _ _ refl, tried_checked _ _ _ refl, tried_checked _ _ _ refl, tried_checked _ _ _ refl)

-- A stop of one channel leaves the drive of another; ASSTP and AESTP stop all that drive and leave the end flags of the rest.
stops : List Step
stops =
    reads 0 0 0 ∷ reads 1 0 0 ∷ reads 15 0 0 ∷ says "REM" 0 "" ∷ says "SCANP0" 0 "" ∷ says "SCANN1" 0 "" ∷ says "SCANPF" 0 "" ∷ says "SSTP0" 0 "" ∷ says "STS1?" 0 "R1N003+0000000"
    ∷ says "ESTPF" 0 "" ∷ says "AESTP" 0 "" ∷ says "STS0?" 0 "R0S040+0000000" ∷ says "STS1?" 0 "R1S080+0000000" ∷ says "STSF?" 0 "RFS080+0000000"
    ∷ says "JOGN1" 0 "" ∷ says "ASSTP" 0 "" ∷ says "STS1?" 0 "R1S040+0000000" ∷ says "STSF?" 0 "RFS080+0000000" ∷ says "STS2?" 0 "R2S000+0000000" ∷ []

stops_checked : seen stops ≡ map stated stops
unfolding computing_urqolina stops fresh Q.after after seen_by stated
stops_checked = checked stops refl

-- 02 §7: "a fifth start is 14, after 13", held ones counted; what moves nothing, what is busy and what is unread do not meet it, and a
-- place is free as soon as a drive has ended. `STQ?` in both modes.
four_motors : List Step
four_motors =
    reads 0 0 0 ∷ reads 1 0 0 ∷ reads 2 0 0 ∷ reads 14 0 0 ∷ says "STQ?" 0 "L4" ∷ says "REM" 0 "" ∷ says "SCANP1" 0 "" ∷ says "SCANN2" 0 ""
    ∷ says "PAUSE ON" 0 "" ∷ says "JOGP0" 0 "" ∷ says "STQ?" 0 "R1" ∷ reads 3 0 0 ∷ says "ABS3-5" 0 "" ∷ says "STQ?" 0 "R0" ∷ says "SCANPE" 14 ""
    ∷ says "RELE+0" 0 "" ∷ says "ABSE+0" 0 "" ∷ says "SCANP0" 2 "" ∷ says "JOGP5" 9 "" ∷ says "ERRF?" 0 "0A" ∷ says "ESTP2" 0 "" ∷ says "STQ?" 0 "R1"
    ∷ says "SCANPE" 0 "" ∷ says "BSY?" 0 "400B" ∷ []

four_motors_checked : seen_four four_motors ≡ map stated four_motors
unfolding computing_urqolina four_motors fresh_four Q.after after seen_by stated
four_motors_checked = four_checked four_motors refl

-- Inputs that no call may take: tables of 0, 1,087 and 1,089 bytes and one of all FFh, buffers too short and too long. The
-- sizes come before the table, and nothing is changed anywhere.
bad_command :
    (map (λ n. (command_call (lent n) (bytes "REM") (lent 32)).result) (0 ∷ 1087 ∷ 1088 ∷ 1089 ∷ []) ≡ 5 ∷ 5 ∷ 6 ∷ 5 ∷ [])
    × (map (λ n. (command_call fresh (bytes "REM") (lent n)).result) (0 ∷ 31 ∷ 32 ∷ 33 ∷ []) ≡ 5 ∷ 5 ∷ 0 ∷ 0 ∷ [])
    × (command_call (replicate 1088 0xff) [] (lent 32) ≡ record { result = 6; table = replicate 1088 0xff; reply = lent 32 })
    × (command_call (lent 9) (bytes "REM") (lent 7) ≡ record { result = 5; table = lent 9; reply = lent 7 })
    × (map (λ s. (command_call fresh s (lent 32)).result) ([] ∷ replicate 81 65 ∷ (0xd2 ∷ 69 ∷ 77 ∷ []) ∷ bytes "rem" ∷ []) ≡ 1 ∷ 1 ∷ 1 ∷ 1 ∷ [])
unfolding computing_urqolina fresh
bad_command = (refl, refl, refl, refl, refl)

bad_calls :
    (map (λ n. (fresh_call (lent n) 0).result) (0 ∷ 1087 ∷ 1088 ∷ 1089 ∷ []) ≡ 5 ∷ 5 ∷ 0 ∷ 5 ∷ [])
    × (map (λ card. (fresh_call (lent 1088) card).result) (0 ∷ 1 ∷ 2 ∷ 256 ∷ 4294967295 ∷ []) ≡ 0 ∷ 0 ∷ 5 ∷ 5 ∷ 5 ∷ [])
    × (map (λ card. (fresh_call (lent 1087) card).result) (0 ∷ 1 ∷ 2 ∷ []) ≡ 5 ∷ 5 ∷ 5 ∷ [])
    × ((fresh_call (lent 1087) 0).table ≡ lent 1087) × ((fresh_call (lent 1088) 2).table ≡ lent 1088)
    × (map (λ n. (reading_call (lent n) 0 0).result) (0 ∷ 1087 ∷ 1088 ∷ 1089 ∷ []) ≡ 5 ∷ 5 ∷ 6 ∷ 5 ∷ [])
    × (map (λ n. (tick_call (lent n) (lent 64)).result) (0 ∷ 1087 ∷ 1088 ∷ 1089 ∷ []) ≡ 5 ∷ 5 ∷ 6 ∷ 5 ∷ [])
    × (map (λ n. (tick_call fresh (lent n)).result) (0 ∷ 63 ∷ 64 ∷ 65 ∷ []) ≡ 5 ∷ 5 ∷ 0 ∷ 5 ∷ [])
    × (tick_call (replicate 1088 0xff) (lent 64) ≡ record { result = 6; table = replicate 1088 0xff; pulses = lent 64 })
    × (tick_call fresh (lent 65) ≡ record { result = 5; table = fresh; pulses = lent 65 })
    × (reading_call (put fresh 1087 (1 ∷ [])) 0 0 ≡ record { result = 6; table = put fresh 1087 (1 ∷ []) })
    × (map (λ at. (tick_call (put fresh at (1 ∷ [])) (lent 64)).result) (0 ∷ 1 ∷ 2 ∷ 3 ∷ 4 ∷ 6 ∷ 7 ∷ 63 ∷ []) ≡ 0 ∷ 0 ∷ 0 ∷ 0 ∷ 6 ∷ 0 ∷ 6 ∷ 6 ∷ [])
    × (map (λ at. (tick_call (put fresh at (16 ∷ [])) (lent 64)).result) (0 ∷ 1 ∷ 2 ∷ []) ≡ 6 ∷ 6 ∷ 6 ∷ [])
unfolding computing_urqolina fresh
bad_calls = (refl, refl, refl, refl, refl, refl, refl, refl, refl, refl, refl, refl, refl)
