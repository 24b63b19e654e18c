-- What the demands are stated with, computed on cases of our library: deeds, accounts, ways, read-back and last ticks. Each value
-- was worked out from document 01 first, as the comment above it says, and is one computation. Assumes nothing.
use Prim.Native.Nat.{ℕ, ◌+◌, ◌-◌, ◌≤◌}
use native.Mathlib.Omega.{arith}
use mathlib.Core.Path.{◌≡◌, refl, ◌∙◌}
use mathlib.Core.List.{List, [], ◌∷◌, ◌++◌, map}
use mathlib.Core.Bool.{Bool, true, false}
use lib.ListN.{replicate}
use Rattle.digits.specs.Places.{origin, cw, ccw}
use Rattle.text.specs.Text.{bytes}
use Rattle.line.specs.declared.Written.{Written}
use Rattle.line.specs.declared.Four.{Four}
use Rattle.line.specs.declared.Start.TheVariants.{Abs, Scan}
use Rattle.line.specs.declared.Setting.TheVariants.{Preset, SetCwLimit, SetCcwLimit, Select, SetSpeed, SetSwitches, SetMotor}
use Rattle.line.specs.Forms.{lspd, mspd, hspd, ssend, esend, order_of}
use Rattle.line.specs.declared.Order.{Order}
use Rattle.laws.specs.Computing.{computing_laws}
use Rattle.laws.specs.Sequences.{Call, command, reading, tick, urqolina, from_fresh, ran, never}
use Rattle.laws.specs.Deeds.{names, starts, stops, speeds, sets, reads, ticks, pauses, rests, deed_taken, deed}
use Rattle.laws.specs.Ledger.{count_at, cw_pulses, ccw_pulses, Account, no_drive, ticks_in, no_travel, travelled}
use Rattle.laws.specs.Numbers.{asks}
use Rattle.laws.specs.Neighbours.{of_head}
use Rattle.laws.specs.ReadBack.{text_for, topic, changed_by, changes, writes_field, is_some, changes_head}
use Rattle.laws.specs.Pulses.{account_now, travel_now, settings_now, disturbs, distance, last_tick, Undisturbed}
use Rattle.laws.specs.Contacts.{untold, told_now}
use Rattle.cases.proofs.Beginnings.{lent, says, ticked, ready, running, ended, over, aimed_at, under_pause, waiting}
use Rattle.cases.proofs.Unjudged.{unjudged, same_account_now}

-- The account of channel 0 after a sequence. Fresh has MSPD selected, 800 pps: from a start on, the pulses are the thousands in
-- 800, 1600, 2400, .., so 0, 1, 1, 1, 1.
unfoldable account_after : List Call → Account
account_after ks = account_now urqolina lent 0 ks

-- It is computed with the table unjudged.
accounted : (ks : List Call) (a : Account) → account_now unjudged lent 0 ks ≡ a → account_after ks ≡ a
unfolding account_after
accounted ks a e = same_account_now lent 0 ks ∙ e

-- Five ticks of a scan: S = 5 · 800, P = 0 + 1 + 1 + 1 + 1. A scan lasts.
scan_account :
    account_after (ready ++ (says "SCANP0" ∷ ticked ∷ ticked ∷ ticked ∷ ticked ∷ ticked ∷ []))
    ≡ running cw 800 4000 4
unfolding computing_laws
scan_account = accounted _ _ refl

-- SPC's speed is in force from the next tick on: S = 800 + 400, and the thousand in it is given, since SPC "keeps the fraction".
speed_change_account :
    account_after (ready ++ (says "SCANP0" ∷ ticked ∷ says "SPC0400" ∷ ticked ∷ []))
    ≡ running cw 400 1200 1
unfolding computing_laws
speed_change_account = accounted _ _ refl

-- "A stop ends the drive at once": what its one tick added stays, 800 and no pulse.
stop_account :
    account_after (ready ++ (says "SCANP0" ∷ ticked ∷ says "SSTP0" ∷ []))
    ≡ over cw 800 800 0
unfolding computing_laws
stop_account = accounted _ _ refl

-- A second start is a new drive: S and P begin anew.
second_account :
    account_after (ready ++ (says "SCANP0" ∷ ticked ∷ says "ESTP0" ∷ says "SCANN0" ∷ []))
    ≡ running ccw 800 0 0
unfolding computing_laws
second_account = accounted _ _ refl

-- Marked case 3, "one tick, one pulse, stopped": 5,000 are due, the distance is 1, and the tick that ends the drive is one of its
-- ticks.
target_account :
    account_after (ready ++ (says "SPDM05000000" ∷ says "ABS0+1" ∷ ticked ∷ []))
    ≡ aimed_at (origin + 1) (over cw 5000000 5000000 1)
unfolding computing_laws
target_account = accounted _ _ refl

-- No drive begins in local mode (4), nor with REL 0, which is "OK and change[s] nothing".
local_account : account_after (says "SCANP0" ∷ ticked ∷ []) ≡ no_drive
unfolding computing_laws
local_account = accounted _ _ refl

stay_account : account_after (ready ++ (says "REL0+0" ∷ ticked ∷ [])) ≡ no_drive
unfolding computing_laws
stay_account = accounted _ _ refl

-- A pulse buffer of 63 bytes: "A refused tick (5 or 6) is no tick of any drive". It adds no speed, and the AAh that it was lent
-- are no pulses.
refused_tick_account :
    account_after (ready ++ (says "SCANP0" ∷ tick (replicate 63 0xaa) ∷ []))
    ≡ running cw 800 0 0
unfolding computing_laws
refused_tick_account = accounted _ _ refl

-- 02 §3: a drive that starts under pause is held, and the ticks that come add nothing, S = 0 and P = 0, until an accepted PAUSE OFF; from
-- then on they count, with the speed that SPC set: S = 3 · 400, P = 1. One that runs already counts on under pause: S = 2 · 800. REL 0
-- holds nothing, a stop ends what is held, and PAUSE OFF in local mode (4) releases nothing.
held_accounts :
    (account_after (ready ++ (says "PAUSE ON" ∷ says "SCANP0" ∷ ticked ∷ ticked ∷ [])) ≡ waiting cw 800)
    × (account_after (ready ++ (says "PAUSE ON" ∷ says "SCANN0" ∷ says "SPC0400" ∷ ticked ∷ says "PAUSE OFF" ∷ ticked ∷ ticked ∷ ticked ∷ [])) ≡ running ccw 400 1200 1)
    × (account_after (ready ++ (says "SCANP0" ∷ says "PAUSE ON" ∷ ticked ∷ ticked ∷ [])) ≡ under_pause (running cw 800 1600 1))
    × (account_after (ready ++ (says "PAUSE ON" ∷ says "REL0+0" ∷ ticked ∷ [])) ≡ under_pause no_drive)
    × (account_after (ready ++ (says "PAUSE ON" ∷ says "SCANP0" ∷ says "LOC" ∷ says "PAUSE OFF" ∷ ticked ∷ [])) ≡ waiting cw 800)
    × (account_after (ready ++ (says "PAUSE ON" ∷ says "SCANP0" ∷ says "SSTP0" ∷ [])) ≡ ended (waiting cw 800))
unfolding computing_laws
held_accounts = (accounted _ _ refl, accounted _ _ refl, accounted _ _ refl, accounted _ _ refl, accounted _ _ refl, accounted _ _ refl)

-- "sixteen signed 32-bit counts, CW positive": 3, and -2 as the word FFFFFFFEh, in the words of channels 0 and 1.
counts_told :
    (cw_pulses 3 ≡ 3) × (ccw_pulses 3 ≡ 0) × (cw_pulses 0xfffffffe ≡ 0) × (ccw_pulses 0xfffffffe ≡ 2)
    × (map (count_at (3 ∷ 0 ∷ 0 ∷ 0 ∷ 0xfe ∷ 0xff ∷ 0xff ∷ 0xff ∷ [])) (0 ∷ 1 ∷ []) ≡ 3 ∷ 0xfffffffe ∷ [])
unfolding computing_laws
counts_told = (refl, refl, refl, refl, refl)

-- The way of channel 0. At 5,000,000 pps 5,000 pulses are due with each tick, so each of these targets is reached by one: +7 from
-- 0, 7 CW; a preset of +100 begins the way anew, and +98 from there is 2 CCW.
way :
    travel_now urqolina lent 0
    (ready ++ (says "SPDM05000000" ∷ says "ABS0+7" ∷ ticked ∷ says "PS0+100" ∷ says "ABS0+98" ∷ ticked ∷ []))
    ≡ record { preset = origin + 100; cw = 0; ccw = 2 }
unfolding computing_laws
way = refl

-- A tick adds its CW pulses to those before it, and a start adds none.
way_on :
    (travelled 7 (record { preset = origin; cw = 5; ccw = 2 }) ticks ≡ record { preset = origin; cw = 12; ccw = 2 })
    × (travelled 7 no_travel (starts (Scan cw)) ≡ no_travel)
unfolding computing_laws
way_on = (refl, refl)

-- Tables for deeds: fresh, in local mode; in remote mode, with channel 0 read; and with channel 0 driving. They are made unjudged.
unfoldable local_table : List ℕ
local_table = from_fresh urqolina lent

unfoldable remote_table : List ℕ
remote_table = ran unjudged lent ready

unfoldable driving_table : List ℕ
driving_table = ran unjudged lent (ready ++ (says "SCANP0" ∷ []))

abbrev plus : ℕ → Written
plus n = record { minus = false; digits = n }

abbrev no_digits : Four
no_digits = record { a = 0; b = 0; c = 0; d = 0 }

abbrev minus : ℕ → Written
minus n = record { minus = true; digits = n }

-- Local mode: a start is refused (4), "the four stops" are taken, and ASSTP and AESTP reach every channel. A reading is taken
-- with contacts up to 7 and is its channel's alone; a tick with 64 bytes. A reply buffer of 31 bytes is 5, and X is no form.
local_deeds :
    map (deed 2 local_table) (says "SCANP2" ∷ says "ESTP2" ∷ says "SSTP3" ∷ says "ASSTP" ∷ says "REM" ∷ says "X" ∷ [])
    ≡ rests ∷ stops esend ∷ rests ∷ stops ssend ∷ rests ∷ rests ∷ []
unfolding computing_laws local_table
local_deeds = refl

other_deeds :
    map (deed 2 local_table)
    (reading 2 7 ∷ reading 2 8 ∷ reading 3 7 ∷ ticked ∷ tick (replicate 63 0) ∷ command (bytes "ESTP2") (replicate 31 0) ∷ [])
    ≡ reads 7 ∷ rests ∷ rests ∷ ticks ∷ rests ∷ rests ∷ []
unfolding computing_laws local_table
other_deeds = refl

-- Remote mode: starts and settings are taken; not with a value outside its range (3), nor SPC on a stopped motor (4), nor a start of
-- channel 1, which was not read (4). A read is nothing to a channel.
remote_deeds :
    map (deed 0 remote_table) (says "SCANP0" ∷ says "ABS0-5" ∷ says "SCANP1" ∷ says "PS0+2147483648" ∷ says "SPC0400" ∷ says "PS?0" ∷ [])
    ≡ starts (Scan cw) ∷ starts (Abs (minus 5)) ∷ rests ∷ rests ∷ rests ∷ rests ∷ []
unfolding computing_laws remote_table
remote_deeds = refl

unread_deeds : map (deed 1 remote_table) (says "SCANP1" ∷ says "PS1+5" ∷ says "SCANP0" ∷ []) ≡ rests ∷ sets (Preset (plus 5)) ∷ rests ∷ []
unfolding computing_laws remote_table
unread_deeds = refl

-- On a driving channel a start or a setting is refused (2), and SPC is taken.
driving_deeds :
    map (deed 0 driving_table) (says "SCANP0" ∷ says "PS0+5" ∷ says "SPC0400" ∷ []) ≡ rests ∷ rests ∷ speeds 400 ∷ []
unfolding computing_laws driving_table
driving_deeds = refl

-- 02 §3: the lines of pause are to every channel what they make of pause, in remote mode; on a held channel a start or a setting is
-- refused (2), REL 0 and ABS to the present position too, and SPC, a stop and a reading are taken.
unfoldable held_table : List ℕ
held_table = ran unjudged lent (ready ++ (says "PAUSE ON" ∷ says "SCANP0" ∷ []))

pause_deeds :
    (map (deed 5 remote_table) (says "PAUSE ON" ∷ says "PAUSE OFF" ∷ says "PAUSE?" ∷ says "PAUSE" ∷ []) ≡ pauses 1 ∷ pauses 0 ∷ rests ∷ rests ∷ [])
    × (map (deed 5 local_table) (says "PAUSE ON" ∷ says "PAUSE OFF" ∷ []) ≡ rests ∷ rests ∷ [])
    × (map (deed 0 held_table) (says "SCANP0" ∷ says "REL0+0" ∷ says "ABS0+0" ∷ says "PS0+5" ∷ says "SPDH0" ∷ []) ≡ replicate 5 rests)
    × (map (deed 0 held_table) (says "SPC0400" ∷ says "ESTP0" ∷ reading 0 1 ∷ []) ≡ speeds 400 ∷ stops esend ∷ reads 1 ∷ [])
unfolding computing_laws local_table remote_table held_table
pause_deeds = (refl, refl, refl, refl)

-- Read-back: "a sign (+ for 0) and at least 7 digits; speeds, at least 6; `SPD?` HSPD, MSPD or LSPD"; "-0 is 0".
texts :
    map text_for
    (Preset (plus 5) ∷ SetCcwLimit (minus 12345678) ∷ Preset (minus 0) ∷ SetSpeed mspd 800 ∷ Select hspd
    ∷ SetSwitches (record { a = 1; b = 1; c = 0; d = 1 }) (record { a = 0; b = 1; c = 0; d = 1 })
    ∷ SetMotor (record { a = 1; b = 0; c = 0; d = 2 }) ∷ [])
    ≡ bytes "+0000005" ∷ bytes "-12345678" ∷ bytes "+0000000" ∷ bytes "000800" ∷ bytes "HSPD" ∷ bytes "11010101" ∷ bytes "1002" ∷ []
unfolding computing_laws
texts = refl

-- The preset of channel 0 is changed by another one of that channel; not by that of channel 1, by a limit, by one that is refused
-- (3), or by a start.
presets_kept :
    map (changes urqolina 0 (Preset (plus 5)) remote_table)
    (says "PS0+7" ∷ says "PS1+7" ∷ says "FL0+7" ∷ says "PS0+9999999999" ∷ says "SCANP0" ∷ [])
    ≡ true ∷ false ∷ false ∷ false ∷ false ∷ []
unfolding computing_laws remote_table
presets_kept = refl

-- Nor by a tick that gives no pulse; but of two ticks at 800 pps the second gives one. No other setting is changed by a tick, and
-- MSPD not by an HSPD.
preset_till_moved : never urqolina (changes urqolina 0 (Preset (plus 5))) driving_table (ticked ∷ ticked ∷ []) ≡ false
unfolding computing_laws driving_table
preset_till_moved = refl

changed_by_law :
    (changed_by (Preset (plus 5)) 0 ticks ≡ false) × (changed_by (SetSpeed mspd 800) 1 ticks ≡ false)
    × (changed_by (SetSpeed mspd 800) 0 (sets (SetSpeed hspd 800)) ≡ false) × (changed_by (SetSpeed mspd 800) 0 (sets (SetSpeed mspd 400)) ≡ true)
unfolding computing_laws
changed_by_law = (refl, refl, refl, refl)

-- The mode is changed by an accepted LOC or REM, in both modes; all-reply by an accepted ALL_REP EN or DS, and pause by an accepted PAUSE
-- ON or OFF, in remote mode only.
head_changes :
    (map (changes_head 0 local_table) (says "REM" ∷ says "LOC" ∷ says "LOCX" ∷ says "ASSTP" ∷ []) ≡ true ∷ true ∷ false ∷ false ∷ [])
    × (changes_head 1 local_table (says "ALL_REP EN") ≡ false) × (changes_head 1 remote_table (says "ALL_REP EN") ≡ true)
    × (map (changes_head 3 remote_table) (says "PAUSE ON" ∷ says "PAUSE OFF" ∷ says "LOC" ∷ says "SCANP0" ∷ says "ASSTP" ∷ ticked ∷ [])
    ≡ true ∷ true ∷ false ∷ false ∷ false ∷ false ∷ [])
    × (changes_head 3 local_table (says "PAUSE ON") ≡ false)
unfolding computing_laws local_table remote_table
head_changes = (refl, refl, refl, refl, refl)

-- "ends at tick D·1000/v rounded up": ABS0-3 from position 0 at 800 pps is 3 pulses away, 3.75 ticks, so the fourth. A refused
-- tick "is not counted in the last-tick formula".
abbrev aimed : List Call
aimed = ready ++ (says "ABS0-3" ∷ [])

last_tick_law :
    (distance urqolina lent 0 aimed (origin - 3) [] ≡ 3)
    × (last_tick urqolina lent 0 aimed (origin - 3) [] ≡ 4)
    × (account_after aimed ≡ aimed_at (origin - 3) (running ccw 800 0 0))
    × (ticks_in urqolina 0 local_table no_drive (ticked ∷ says "PS?0" ∷ tick [] ∷ ticked ∷ reading 0 0 ∷ []) ≡ 2)
unfolding computing_laws local_table
last_tick_law = (refl, refl, accounted _ _ refl, refl)

-- 02 §3: "01's last-tick formula counts from release", with the speed in force there: 3 pulses at 1,000 pps end with the third tick that
-- counts, and of these five ticks the two after PAUSE OFF do.
abbrev awaiting : List Call
awaiting = ready ++ (says "PAUSE ON" ∷ says "REL0+3" ∷ says "SPC01000" ∷ [])

last_from_release :
    (last_tick urqolina lent 0 awaiting (origin + 3) [] ≡ 3)
    × (ticks_in urqolina 0 (ran unjudged lent awaiting) (account_after awaiting) (ticked ∷ ticked ∷ ticked ∷ says "PAUSE OFF" ∷ ticked ∷ ticked ∷ []) ≡ 2)
    × (account_after awaiting ≡ aimed_at (origin + 3) (waiting cw 1000))
unfolding computing_laws account_after
last_from_release = (refl, refl, refl)

-- What `LastTick` asks for is had, either way: 3 pulses CCW from their start on, and 3 CW from where they are held, with ticks, a read and
-- PAUSE OFF after it. 3 lies within room, which goes to the end of the range.
undisturbed :
    Undisturbed urqolina lent 0 aimed (origin - 3) (ticked ∷ says "PS?0" ∷ ticked ∷ [])
    × Undisturbed urqolina lent 0 awaiting (origin + 3) (ticked ∷ says "PAUSE OFF" ∷ ticked ∷ [])
unfolding computing_laws
undisturbed =
    let near : 3 ≤ 2147483647 = omega arith in (
      record { lasts = refl; unticked = refl; aimed = refl; within = near; alone = refl },
      record { lasts = refl; unticked = refl; aimed = refl; within = near; alone = refl },
    )

-- Orders of each kind, and a line that is none: what is a read, what is of the head, what changes the mode, all-reply or pause, what names
-- channel 0, and what it is to channel 0.
abbrev kinds : List (List ℕ)
kinds =
    map bytes
    ("SCANP0" ∷ "SSTP0" ∷ "ASSTP" ∷ "SPC0400" ∷ "SPDM0" ∷ "PS?0" ∷ "LOC" ∷ "ALL_REP DS" ∷ "ERRF?" ∷ "ERRC" ∷ "ERRC1" ∷ "SCANP" ∷ "PAUSE ON" ∷ "PAUSE OFF" ∷ "PAUSE?" ∷ [])

abbrev of_kind : (Order → Bool) → List Bool
of_kind test = map (λ s. is_some test (order_of s)) kinds

each_kind :
    (of_kind asks ≡ false ∷ false ∷ false ∷ false ∷ false ∷ true ∷ false ∷ false ∷ true ∷ false ∷ false ∷ false ∷ false ∷ false ∷ true ∷ [])
    × (of_kind of_head ≡ false ∷ false ∷ false ∷ false ∷ false ∷ false ∷ true ∷ true ∷ false ∷ true ∷ true ∷ false ∷ true ∷ true ∷ false ∷ [])
    × (of_kind (writes_field 0) ≡ false ∷ false ∷ false ∷ false ∷ false ∷ false ∷ true ∷ false ∷ false ∷ false ∷ false ∷ false ∷ false ∷ false ∷ false ∷ [])
    × (of_kind (writes_field 1) ≡ false ∷ false ∷ false ∷ false ∷ false ∷ false ∷ false ∷ true ∷ false ∷ false ∷ false ∷ false ∷ false ∷ false ∷ false ∷ [])
    × (of_kind (writes_field 3) ≡ replicate 12 false ++ (true ∷ true ∷ false ∷ []))
    × (of_kind (names 0) ≡ true ∷ true ∷ false ∷ true ∷ true ∷ true ∷ replicate 9 false)
    × (of_kind (names 1) ≡ replicate 15 false)
unfolding computing_laws
each_kind = (refl, refl, refl, refl, refl, refl, refl)

deeds_of_kinds :
    map (λ s. deed_taken 0 (order_of s)) kinds
    ≡ starts (Scan cw) ∷ stops ssend ∷ stops ssend ∷ speeds 400 ∷ sets (Select mspd) ∷ rests ∷ rests ∷ rests ∷ rests ∷ rests ∷ rests ∷ rests
    ∷ pauses 1 ∷ pauses 0 ∷ rests ∷ []
unfolding computing_laws
deeds_of_kinds = refl

-- "with no stop, SPC or switch reading on its channel".
disturbing :
    map disturbs (starts (Scan cw) ∷ stops ssend ∷ speeds 400 ∷ sets (Select mspd) ∷ reads 0 ∷ ticks ∷ pauses 0 ∷ pauses 1 ∷ rests ∷ [])
    ≡ false ∷ true ∷ true ∷ false ∷ true ∷ false ∷ false ∷ false ∷ false ∷ []
unfolding computing_laws
disturbing = refl

-- No topic is another's, and each of the three speeds has its own.
topics :
    map topic
    (Preset (plus 1) ∷ SetCwLimit (plus 1) ∷ SetCcwLimit (plus 1) ∷ Select 0 ∷ SetSwitches no_digits no_digits ∷ SetMotor no_digits ∷ SetSpeed lspd 5
    ∷ SetSpeed mspd 5 ∷ SetSpeed hspd 5 ∷ [])
    ≡ 0 ∷ 1 ∷ 2 ∷ 3 ∷ 4 ∷ 5 ∷ 6 ∷ 7 ∷ 8 ∷ []
unfolding computing_laws
topics = refl

-- Settings since fresh: SPDH0 selects, a reading replaces the contacts, a start that is refused (SCANP0 in local mode) does nothing.
settings_made :
    ((settings_now urqolina lent 0 (ready ++ (says "SPDH0" ∷ reading 0 5 ∷ reading 1 7 ∷ []))).speeds.selected ≡ hspd)
    × ((settings_now urqolina lent 0 (says "SPDH0" ∷ reading 0 5 ∷ reading 1 7 ∷ [])).speeds.selected ≡ mspd)
    × ((settings_now urqolina lent 0 (reading 0 5 ∷ reading 1 7 ∷ ticked ∷ [])).wiring.contacts ≡ 5)
unfolding computing_laws
settings_made = (refl, refl, refl)

-- What is told of channel 0: nothing by a reading of another channel, by contacts over 7, by lines or ticks; then the contacts of its
-- last accepted reading, open ones too, in both modes, and no start, stop or SETLS is anything to that.
contacts_told :
    (told_now urqolina lent 0 (reading 1 7 ∷ reading 0 8 ∷ says "REM" ∷ says "SETLS000000000" ∷ ticked ∷ []) ≡ untold)
    × (told_now urqolina lent 0 (reading 0 0 ∷ []) ≡ record { contacts = 0; read = 1 })
    × (told_now urqolina lent 0 (reading 0 5 ∷ says "REM" ∷ reading 0 2 ∷ reading 1 7 ∷ []) ≡ record { contacts = 2; read = 1 })
    × (told_now urqolina lent 0 (ready ++ (says "SCANP0" ∷ says "SSTP0" ∷ says "SETLS000000000" ∷ [])) ≡ record { contacts = 0; read = 1 })
unfolding computing_laws
contacts_told = (refl, refl, refl, refl)
