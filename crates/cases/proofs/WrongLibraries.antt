-- Libraries that document 01 says must not satisfy the promises, and the demand that refuses each: "a library that refuses all
-- lines, or answers OK to all ..; a tick that does nothing ..; one that runs the first drive and feigns the rest ..; invented pulse
-- counts or reply lengths"; three of the "Errors that look right"; some that would keep to the sums and still be of no use; and some
-- that misread a request of document 02. Each is ours with one call replaced, and is refused on one short sequence, by computing it.
-- Where a demand is of any table, the table that refuses the library is made without judging it at each call. Assumes nothing.
use Rattle.std.specs.Prelude.{Option, Some, None}
use Prim.Native.Char.{code}
use Prim.Native.Nat.{ℕ, ◌+◌, ◌*◌, ◌-◌, ◌/◌, ◌%◌, ◌≤◌, ◌<◌}
use Prim.Native.String as S
use native.Mathlib.Omega.{arith}
use mathlib.Core.Path.{◌≡◌, refl, sym, ap, ◌∙◌}
use mathlib.Core.List.{List, [], ◌∷◌, ◌++◌}
use mathlib.Core.Bool.{Bool, true, false, ◌&&◌, not, cond, false≢true}
use lib.ListN.{length, replicate, get_or}
use lib.Dec.{eqb, leb, ltb}
use Rattle.digits.specs.Bytes.{put, gather}
use Rattle.digits.specs.Words.{word_bytes, is_set, with_bit, without_bit, bits_of, bits_set}
use Rattle.digits.specs.Places.{origin, highest, cw}
use Rattle.text.specs.Text.{bytes, same, digit_byte, hex_byte, hex_word}
use Rattle.record.specs.declared.Wiring.{Wiring}
use Rattle.record.specs.declared.Drive.{Drive}
use Rattle.record.specs.declared.Motor.{Motor}
use Rattle.record.specs.Record.{record_of, with_place, with_limits, with_wiring, with_setup, with_drive, with_fraction, with_speed_in_force}
use Rattle.motor.specs.Switches.{digital}
use Rattle.motor.specs.Sound.{busy, moving}
use Rattle.drive.specs.Numbers.{number_of}
use Rattle.drive.specs.Drives.{selected_speed, released, stopped, contacted}
use Rattle.line.specs.declared.Start.TheVariants.{Rel, Scan}
use Rattle.line.specs.declared.Setting.TheVariants.{Preset, SetCwLimit}
use Rattle.line.specs.declared.Question.TheVariants.{AskStatus}
use Rattle.line.specs.declared.HeadQuestion.TheVariants.{AskBusy, AskFree}
use Rattle.line.specs.declared.HeadOrder.TheVariants.{Mode, Pause}
use Rattle.line.specs.declared.Order.{Order}
use Rattle.line.specs.declared.Order.TheVariants.{Go, Stop, ChangeSpeed, Set, ForHead}
use Rattle.line.specs.Forms.{ssend, order_of}
use Rattle.table.specs.declared.head.Head.{Head}
use Rattle.table.specs.Layout.{head_of, head_bytes, head_rest, paused, card_full, with_head, with_mode, with_reply, with_errors, with_pause, with_busy, motor_at, sealed, with_motor, with_motors, fresh_table}
use Rattle.table.specs.Sound.{sound_table}
use Rattle.commands.specs.Judging.{judge}
use Rattle.commands.specs.Changing.{flagged}
use Rattle.obeying.specs.Taking.{CommandAfter, order_in}
use Rattle.urqolina.specs.Calls.{TableAfter, TickAfter, fresh_call, command_call, reading_call, tick_call}
use Rattle.laws.specs.Computing.{computing_laws}
use Rattle.laws.specs.Sequences.{Library, Call, command, reading, tick, After, Beginning, ran}
use Rattle.laws.specs.Deeds.{Deed, starts, stops, speeds, sets, reads, ticks, pauses, rests, deed, is_tick, verdict, order_taken}
use Rattle.laws.specs.Ledger.{count_at, Account, Travel}
use Rattle.laws.specs.Numbers.{Numbers, Replies, sizes_right, starting, asks}
use Rattle.laws.specs.Neighbours.{listed, Neighbours}
use Rattle.laws.specs.ReadBack.{ReadsBack, is_some}
use Rattle.laws.specs.Pulses.{motor_now, account_now, travel_now, settings_now, Ends, by_stop, by_switch, by_target, by_room, Demand3, Settled, Shared}
use Rattle.laws.specs.Contacts.{told_now, Contacts}
use Rattle.laws.proofs.NumberLaws.{numbers}
use Rattle.cases.proofs.Beginnings.{lent, lent_four, says, ticked, ready, running, under_pause}
use Rattle.cases.proofs.Unjudged.{unjudged}

-- Demand 3 for every channel and every sequence, and read-back for every sequence and every read that is lent enough.
abbrev pub AllDemand3 : Library → Type 0
AllDemand3 l = (b : Beginning) (c : ℕ) → c ≤ 15 → (ks : List Call) → Demand3 l b c ks

abbrev pub AllReadsBack : Library → Type 0
AllReadsBack l = (b : Beginning) (ks : List Call) (k : Call) (later : List Call) (line reply : List ℕ)
    (enough : 32 ≤ length reply) → ReadsBack l b ks k later line reply enough

-- The replies on every sound table.
abbrev pub AllReplies : Library → Type 0
AllReplies l = (t line reply : List ℕ) (sound : sound_table t ≡ true) (enough : 32 ≤ length reply) → Replies l t line reply sound enough

-- ours with another command, or another tick
abbrev pub with_command : (List ℕ → List ℕ → List ℕ → CommandAfter) → Library
with_command f = record { fresh = fresh_call; command = f; reading = reading_call; tick = tick_call }

abbrev pub with_tick : (List ℕ → List ℕ → TickAfter) → Library
with_tick f = record { fresh = fresh_call; command = command_call; reading = reading_call; tick = f }

-- Demand 3 refuses a library if one account of channel 0 shows more pulses than its speeds allow,
too_many : (l : Library) (ks : List Call) (a : Account) → account_now l lent 0 ks ≡ a → a.sum < 1000 * a.pulses → AllDemand3 l → ⊥
too_many l ks a e more d =
    let fact : 1000 * a.pulses ≤ a.sum = rw e at (d lent 0 (omega arith) ks).never_more in
    absurd (omega (arith, fact, more))

-- or, while the drive lasts, a thousand too few,
too_few : (l : Library) (ks : List Call) (a : Account) → account_now l lent 0 ks ≡ a → a.lasts ≡ true → 1000 * a.pulses + 1000 ≤ a.sum
    → AllDemand3 l → ⊥
too_few l ks a e lasts less d =
    let fact : a.lasts ≡ true → a.sum < 1000 * a.pulses + 1000 = rw e at (d lent 0 (omega arith) ks).never_less in
    absurd (omega (arith, fact lasts, less))

-- or if its place p is not what its way j comes to.
elsewhere : (l : Library) (ks : List Call) (j : Travel) (p : ℕ) → travel_now l lent 0 ks ≡ j → (motor_now l lent 0 ks).place ≡ p
    → (p + j.ccw ≡ j.preset + j.cw → ⊥) → AllDemand3 l → ⊥
elsewhere l ks j p e f other d = other (rw (e, f) at (d lent 0 (omega arith) ks).position)

-- "a library that refuses all lines": number 1 and its flag for each. The rules accept REM.
abbrev pub refuses_all : Library
refuses_all =
    with_command (λ t line reply. record { result = 1; table = flagged t 1; reply = reply })

pub refuses_all_refused : Numbers refuses_all → ⊥
unfolding computing_laws
refuses_all_refused n =
    let fact : ◌≡◌ {A = ℕ} 1 0 = n.accepts (fresh_table 0) (bytes "REM") (replicate 32 0xaa) (ForHead (Mode 1)) refl refl in
    absurd (omega (arith, fact))

-- "or answers OK to all": X has no form, and 0 may not come.
abbrev pub accepts_all : Library
accepts_all = with_command (λ t line reply. record { result = 0; table = t; reply = reply })

pub accepts_all_refused : Numbers accepts_all → ⊥
unfolding computing_laws
accepts_all_refused n = n.refuses (fresh_table 0) (bytes "X") (replicate 32 0xaa) refl refl refl

-- "a tick that does nothing (demand 3's lower bound)": two ticks at 800 pps, S = 1600, P = 0.
abbrev pub idle : Library
idle = with_tick (λ t p. record { result = 0; table = t; pulses = replicate 64 0 })

pub idle_refused : AllDemand3 idle → ⊥
unfolding computing_laws
idle_refused =
    too_few idle (ready ++ (says "SCANP0" ∷ ticked ∷ ticked ∷ []))
    (running cw 800 1600 0) refl refl (omega arith)

-- A tick that refuses every buffer leaves the zeros that it was lent, and is refused by the same.
abbrev pub refuses_ticks : Library
refuses_ticks = with_tick (λ t p. record { result = 5; table = t; pulses = p })

pub refuses_ticks_refused : AllDemand3 refuses_ticks → ⊥
unfolding computing_laws
refuses_ticks_refused =
    too_few refuses_ticks (ready ++ (says "SCANP0" ∷ tick (replicate 64 0) ∷ tick (replicate 64 0) ∷ []))
    (running cw 800 1600 0) refl refl (omega arith)

-- the kinds of deeds, numbered, and those that the libraries below look for
abbrev pub kind_of : Deed → ℕ
kind_of (starts s) = 0
kind_of (stops flags) = 1
kind_of (speeds v) = 2
kind_of (sets s) = 3
kind_of (reads n) = 4
kind_of ticks = 5
kind_of (pauses k) = 6
kind_of rests = 7

abbrev pub is_start : Deed → Bool
is_start d = eqb (kind_of d) 0

abbrev pub is_stop : Deed → Bool
is_stop d = eqb (kind_of d) 1

abbrev pub is_setting : Deed → Bool
is_setting d = eqb (kind_of d) 3

-- A drive that stands still at +1 while its ticks come, at 1000 pps: with the second tick S = 2000 is a thousand above 1000 · P, and
-- has to be less.
abbrev pub sticks : Library
sticks =
    with_tick
    (λ t p. cond (eqb (motor_at t 0).place (origin + 1)) (record { result = 0; table = t; pulses = replicate 64 0 }) (tick_call t p))

pub sticks_refused : AllDemand3 sticks → ⊥
unfolding computing_laws
sticks_refused =
    too_few sticks (ready ++ (says "SPDH0" ∷ says "SCANP0" ∷ ticked ∷ ticked ∷ []))
    (running cw 1000 2000 1) refl refl (omega arith)

-- "one that runs the first drive and feigns the rest (demand 3, over any sequence)". The first drive is run: a jog by one pulse,
-- given by its second tick.
abbrev first_drive : List Call
first_drive = ready ++ (says "JOGP0" ∷ ticked ∷ ticked ∷ [])

-- Once channel 0 is away from position 0, its starts are answered OK and begin nothing.
abbrev pub feigns_starts : Library
feigns_starts =
    with_command
    (λ t line reply.
    cond (is_start (deed 0 t (command line reply)) && not (eqb (motor_at t 0).place origin))
    (record { result = 0; table = t; reply = reply })
    (command_call t line reply))

pub feigns_starts_refused : AllDemand3 feigns_starts → ⊥
unfolding computing_laws
feigns_starts_refused d =
    let fact : false ≡ true = ((d lent 0 (omega arith) first_drive).starting (says "SCANP0") (Scan cw) refl refl).0 in
    absurd (false≢true fact)

-- Or a drive stands in the table and its ticks do nothing: S = 1600, P = 0 for the second drive.
abbrev pub feigns_ticks : Library
feigns_ticks =
    with_tick
    (λ t p. cond (eqb (motor_at t 0).place origin) (tick_call t p) (record { result = 0; table = t; pulses = replicate 64 0 }))

pub feigns_ticks_refused : AllDemand3 feigns_ticks → ⊥
unfolding computing_laws
feigns_ticks_refused =
    too_few feigns_ticks (first_drive ++ (says "SCANP0" ∷ ticked ∷ ticked ∷ []))
    (running cw 800 1600 0) refl refl (omega arith)

-- "invented pulse counts": channel 0 always gets a pulse in the buffer. The first tick at 800 pps has none, so P = 1, S = 800.
abbrev pub invents_pulses : Library
invents_pulses =
    with_tick (λ t p. let a = tick_call t p in record { result = a.result; table = a.table; pulses = put a.pulses 0 (1 ∷ []) })

pub invents_pulses_refused : AllDemand3 invents_pulses → ⊥
unfolding computing_laws
invents_pulses_refused =
    too_many invents_pulses (ready ++ (says "SCANP0" ∷ ticked ∷ [])) (running cw 800 800 1) refl
    (omega arith)

-- Counts of the right size and the wrong sign keep both bounds: "demand 3's position sum" refuses them. After two ticks the
-- channel has moved one CW, and the buffers tell of one CCW.
abbrev pub turns_counts : Library
turns_counts =
    with_tick
    (λ t p.
    let a = tick_call t p in
    record { result = a.result; table = a.table; pulses = put a.pulses 0 (word_bytes 4 (4294967296 - count_at a.pulses 0)) })

pub turns_counts_refused : AllDemand3 turns_counts → ⊥
unfolding computing_laws
turns_counts_refused =
    elsewhere turns_counts (ready ++ (says "SCANP0" ∷ ticked ∷ ticked ∷ [])) (record { preset = origin; cw = 0; ccw = 1 }) (origin + 1) refl
    refl (λ e. absurd (omega (arith, e)))

-- "or reply lengths (.. demand 2's bytes)": one more than was written. PS0+5, then PS?0: +0000005 has 8 bytes, and 9 are told.
abbrev pub invents_lengths : Library
invents_lengths =
    with_command
    (λ t line reply.
    let a = command_call t line reply in
    record { result = a.result + 256; table = a.table; reply = a.reply })

pub invents_lengths_refused : AllReadsBack invents_lengths → ⊥
unfolding computing_laws
invents_lengths_refused r =
    let read = r lent ready (says "PS0+5") [] (bytes "PS?0") (replicate 32 0xaa) (omega arith) in
    let told = read.setting 0 (Preset (record { minus = false; digits = 5 })) refl refl refl in
    let fact : ◌≡◌ {A = ℕ} 2304 2048 = ap (λ (a : After). a.result) told in
    absurd (omega (arith, fact))

-- a driving motor with another fraction
abbrev pub carrying : ℕ → Motor → Motor
carrying n m = cond (busy m) (with_drive m m.ended (with_fraction m.drive n)) m

-- "Rounding the pulses of each tick: 800 pps becomes 0 or 1000." A tick that begins with half a pulse gives the nearest number of
-- pulses, and one that begins with none the lower one, whatever the tick before it left.
abbrev pub rounds : ℕ → Library
rounds n = with_tick (λ t p. tick_call (with_motors t (carrying n)) p)

pub rounds_to_nearest_refused : AllDemand3 (rounds 500) → ⊥
unfolding computing_laws
rounds_to_nearest_refused =
    too_many (rounds 500) (ready ++ (says "SCANP0" ∷ ticked ∷ [])) (running cw 800 800 1) refl
    (omega arith)

-- At 999 pps the nearest is a pulse that comes a thousandth early.
pub rounds_up_refused : AllDemand3 (rounds 500) → ⊥
unfolding computing_laws
rounds_up_refused =
    too_many (rounds 500) (ready ++ (says "SPDM0999" ∷ says "SCANP0" ∷ ticked ∷ []))
    (running cw 999 999 1) refl (omega arith)

pub rounds_down_refused : AllDemand3 (rounds 0) → ⊥
unfolding computing_laws
rounds_down_refused =
    too_few (rounds 0) (ready ++ (says "SCANP0" ∷ ticked ∷ ticked ∷ [])) (running cw 800 1600 0)
    refl refl (omega arith)

-- "Keeping the fraction over a stop, so the next drive's first pulse comes early": a start of channel 0 after an SSTP takes up the
-- 800 that a tick at 800 pps left. The second drive then has P = 1 at S = 800.
abbrev pub keeps_fraction : Library
keeps_fraction =
    with_command
    (λ t line reply.
    let a = command_call t line reply in
    record {
      result = a.result;
      table = cond (is_start (deed 0 t (command line reply)) && eqb (motor_at t 0).ended ssend)
          (with_motor a.table 0 (carrying 800 (motor_at a.table 0)))
          a.table;
      reply = a.reply;
    })

pub keeps_fraction_refused : AllDemand3 keeps_fraction → ⊥
unfolding computing_laws
keeps_fraction_refused =
    too_many keeps_fraction (ready ++ (says "SCANP0" ∷ ticked ∷ says "SSTP0" ∷ says "SCANP0" ∷ ticked ∷ []))
    (running cw 800 800 1) refl (omega arith)

-- A tick that ends every drive and gives no pulse breaks neither bound; but nothing ended the drive: no stop and no reading, a scan
-- has no target, and there is room.
abbrev pub ends_drives : Library
ends_drives = with_tick (λ t p. record { result = 0; table = with_motors t (stopped 0); pulses = replicate 64 0 })

abbrev scanning : List Call
scanning = ready ++ (says "SCANP0" ∷ [])

nothing_ended : Ends ends_drives lent 0 scanning ticked → ⊥
unfolding computing_laws
nothing_ended (by_stop flags e f) = absurd (false≢true (sym (ap is_tick e)))
nothing_ended (by_switch n e h f) = absurd (false≢true (sym (ap is_tick e)))
nothing_ended (by_target e counts h there f) = absurd (false≢true h)
nothing_ended (by_room e counts h f) =
    let fact : ◌≡◌ {A = ℕ} 2147483647 0 = h in
    absurd (omega (arith, fact))

pub ends_drives_refused : AllDemand3 ends_drives → ⊥
unfolding computing_laws
ends_drives_refused d = nothing_ended ((d lent 0 (omega arith) scanning).ending ticked refl refl)

-- A stop of channel 0 that is answered OK and stops nothing: "A stop ends the drive at once".
abbrev pub deaf_to_stops : Library
deaf_to_stops =
    with_command
    (λ t line reply.
    cond (is_stop (deed 0 t (command line reply))) (record { result = 0; table = t; reply = reply }) (command_call t line reply))

pub deaf_to_stops_refused : AllDemand3 deaf_to_stops → ⊥
unfolding computing_laws
deaf_to_stops_refused d =
    let fact : true ≡ false = (d lent 0 (omega arith) scanning).stopping (says "SSTP0") ssend refl in
    absurd (false≢true (sym fact))

-- ours, but for one line, which it takes for another
abbrev pub takes_for : S.String → S.String → Library
takes_for a b = with_command (λ t line reply. command_call t (cond (same line (bytes a)) (bytes b) line) reply)

-- SCANP0 that is taken for SCANN0: "P is CW". After a tick at 800 pps the next one gives a pulse against the drive.
abbrev pub turns_scans : Library
turns_scans = takes_for "SCANP0" "SCANN0"

pub turns_scans_refused : AllDemand3 turns_scans → ⊥
unfolding computing_laws
turns_scans_refused d =
    let fact : ◌≡◌ {A = ℕ} 1 0 = (d lent 0 (omega arith) (scanning ++ (ticked ∷ []))).one_way refl (replicate 64 0) refl in
    absurd (omega (arith, fact))

-- "Capping at the target but not at a digital limit inside the same tick; 5,000 pulses can fall in one": the counts are those that
-- the motor would get with D = 0. With FL0+3 and D = 1 there is room for 3.
abbrev pub without_limits : Motor → Motor
without_limits m = with_wiring m (record { setls = without_bit 7 m.wiring.setls; contacts = m.wiring.contacts; read = m.wiring.read })

abbrev pub overshoots : Library
overshoots =
    with_tick
    (λ t p.
    let a = tick_call t p in
    record { result = a.result; table = a.table; pulses = (tick_call (with_motors t without_limits) p).pulses })

pub overshoots_refused : AllDemand3 overshoots → ⊥
unfolding computing_laws
overshoots_refused d =
    let limited = ready ++ (says "FL0+3" ∷ says "SETLS011110000" ∷ says "SPDM05000000" ∷ says "SCANP0" ∷ []) in
    let fact : 5000 ≤ 3 = ((d lent 0 (omega arith) limited).within refl (replicate 64 0) refl).0 in
    absurd (omega (arith, fact))

-- Settings and contacts that change by themselves: a tick that closes the contacts of channel 0, so that the rules would refuse
-- every later start, and a reading that is answered 0 and forgotten.
abbrev pub AllSettled : Library → Type 0
AllSettled l = (b : Beginning) (c : ℕ) → c ≤ 15 → (ks : List Call) → Settled l b c ks

contacts_other : (l : Library) (ks : List Call) (n : ℕ) → (motor_now l lent 0 ks).wiring.contacts ≡ n
    → (n ≡ (settings_now l lent 0 ks).wiring.contacts → ⊥) → AllSettled l → ⊥
contacts_other l ks n e other d =
    other (sym e ∙ ap (λ (w : Wiring). w.contacts) (d lent 0 (omega arith) ks).wiring)

abbrev pub closes_contacts : Library
closes_contacts =
    with_tick
    (λ t p.
    let a = tick_call t p in
    record { result = a.result; table = with_motor a.table 0 (contacted (motor_at a.table 0) 7); pulses = a.pulses })

pub closes_contacts_refused : AllSettled closes_contacts → ⊥
unfolding computing_laws
closes_contacts_refused =
    contacts_other closes_contacts (ticked ∷ []) 7 refl (λ e. let fact : ◌≡◌ {A = ℕ} 7 0 = e in absurd (omega (arith, fact)))

abbrev pub deaf_to_switches : Library
deaf_to_switches =
    record { fresh = fresh_call; command = command_call; reading = λ t c n. record { result = 0; table = t }; tick = tick_call }

pub deaf_to_switches_refused : AllSettled deaf_to_switches → ⊥
unfolding computing_laws
deaf_to_switches_refused =
    contacts_other deaf_to_switches (reading 0 1 ∷ []) 0 refl (λ e. let fact : ◌≡◌ {A = ℕ} 0 1 = e in absurd (omega (arith, fact)))

-- Refusals that are not what they should be: a command that writes to a reply buffer of 31 bytes and gives 5, one that makes a table
-- that is not sound fresh and gives 6, and one that sets the next number's flag.
abbrev pub scribbles : Library
scribbles =
    with_command
    (λ t line reply. cond (leb 32 (length reply)) (command_call t line reply) (record { result = 5; table = t; reply = replicate 31 0 }))

pub scribbles_refused : Numbers scribbles → ⊥
unfolding computing_laws
scribbles_refused n =
    let left = n.sizes (fresh_table 0) (command (bytes "REM") (replicate 31 0xaa)) refl in
    let fact : ◌≡◌ {A = ℕ} 0 0xaa = ap (λ (a : After). get_or a.buffer 0 0) left in
    absurd (omega (arith, fact))

abbrev pub repairs : Library
repairs =
    with_command
    (λ t line reply. cond (sound_table t) (command_call t line reply) (record { result = 6; table = (fresh_table 0); reply = reply }))

pub repairs_refused : Numbers repairs → ⊥
unfolding computing_laws
repairs_refused n =
    let left = n.unsound (replicate 1088 0xaa) (command (bytes "REM") (replicate 32 0)) refl refl in
    let fact : ◌≡◌ {A = ℕ} 0 0xaa = ap (λ (a : After). get_or a.table 0 0) left in
    absurd (omega (arith, fact))

abbrev pub flags_next : Library
flags_next =
    with_command
    (λ t line reply.
    let a = command_call t line reply in
    record { result = a.result; table = cond (eqb a.result 1) (flagged t 2) a.table; reply = a.reply })

pub flags_next_refused : Numbers flags_next → ⊥
unfolding computing_laws
flags_next_refused n =
    let left = n.flags (fresh_table 0) (bytes "X") (replicate 32 0) 1 refl refl in
    let fact : ◌≡◌ {A = ℕ} 2 1 = ap (λ (t : List ℕ). get_or t 2 0) left in
    absurd (omega (arith, fact))

-- A command that reaches its neighbour: whatever names channel 0 sets a byte of channel 1's record.
abbrev pub reaches_neighbour : Library
reaches_neighbour =
    with_command
    (λ t line reply.
    let a = command_call t line reply in
    record { result = a.result; table = put a.table 128 (7 ∷ []); reply = a.reply })

pub reaches_neighbour_refused : Neighbours reaches_neighbour → ⊥
unfolding computing_laws
reaches_neighbour_refused n =
    let left = n.others (fresh_table 0) (bytes "SSTP0") (replicate 32 0) (Stop 0 ssend) 0 1 refl refl (λ e. absurd (omega (arith, e))) in
    let fact : ◌≡◌ {A = ℕ} 7 0 = ap (λ (r : List ℕ). get_or r 0 0) left in
    absurd (omega (arith, fact))

-- A library that answers as if all-reply were on: REM is OK, and nothing may be written.
abbrev pub talks : Library
talks =
    with_command
    (λ t line reply.
    let a = command_call (with_head t (with_reply (head_of t) 1)) line reply in
    record { result = a.result; table = with_head a.table (with_reply (head_of a.table) 0); reply = a.reply })

pub talks_refused : AllReplies talks → ⊥
unfolding computing_laws
talks_refused r =
    let fact : ◌≡◌ {A = ℕ} 512 0 = ((r (fresh_table 0) (bytes "REM") (replicate 32 0) refl (omega arith)).others refl).0 in
    absurd (omega (arith, fact))

-- Limits that change places: FL is kept as the CCW limit, and would read back from there.
abbrev pub swaps_limits : Library
swaps_limits = takes_for "FL0+5" "BL0+5"

pub swaps_limits_refused : AllReadsBack swaps_limits → ⊥
unfolding computing_laws
swaps_limits_refused r =
    let read = r lent ready (says "FL0+5") [] (bytes "FL?0") (replicate 32 0xaa) (omega arith) in
    let told = read.held 0 (SetCwLimit (record { minus = false; digits = 5 })) refl refl 0 in
    let fact : ◌≡◌ {A = ℕ} (code "1") (code "0") = ap (λ (s : List ℕ). get_or s 1 0) told in
    absurd (omega (arith, fact))

-- 02 §1, "Wherever a form takes ±d, let a bare d mean plus", misread. On tables with channel 0 standing ready, and under way:
abbrev standing : List ℕ
standing = ran unjudged lent ready

abbrev underway : List ℕ
underway = ran unjudged lent scanning

-- A library is refused if it takes a line that has no form,
takes_formless : (l : Library) (t line : List ℕ) → sizes_right t (command line (replicate 32 0xaa)) ≡ true → sound_table t ≡ true → order_in t line ≡ None
    → (l.command t line (replicate 32 0xaa)).result % 256 ≡ 0 → Numbers l → ⊥
takes_formless l t line sizes sound none taken n = absurd (omega (arith, n.formless t line (replicate 32 0xaa) sizes sound none, taken))

-- or gives 1 to a line that the rules accept.
refuses_form : (l : Library) (t line : List ℕ) (o : Order) → sound_table t ≡ true → order_taken t (command line (replicate 32 0xaa)) ≡ Some o
    → (l.command t line (replicate 32 0xaa)).result % 256 ≡ 1 → Numbers l → ⊥
refuses_form l t line o sound accepted refused n = absurd (omega (arith, n.accepts t line (replicate 32 0xaa) o sound accepted, refused))

-- Only starts take a bare number: FL0250 is answered as a line without a form is.
pub bare_in_starts_alone_refused : Numbers (takes_for "FL0250" "") → ⊥
unfolding computing_laws
bare_in_starts_alone_refused =
    refuses_form (takes_for "FL0250" "") standing (bytes "FL0250") (Set 0 (SetCwLimit (record { minus = false; digits = 250 }))) refl refl refl

-- A number that is missing is taken as 0, with its sign and without.
pub none_for_zero_refused : (Numbers (takes_for "ABS0" "ABS0+0") → ⊥) × (Numbers (takes_for "ABS0+" "ABS0+0") → ⊥)
unfolding computing_laws
none_for_zero_refused = (
  takes_formless (takes_for "ABS0" "ABS0+0") standing (bytes "ABS0") refl refl refl refl,
  takes_formless (takes_for "ABS0+" "ABS0+0") standing (bytes "ABS0+") refl refl refl refl,
)

-- A sign is taken where d stands.
pub signed_speed_refused : Numbers (takes_for "SPC0+400" "SPC0400") → ⊥
unfolding computing_laws
signed_speed_refused = takes_formless (takes_for "SPC0+400" "SPC0400") underway (bytes "SPC0+400") refl refl refl refl

-- The sign's place counts as a digit: eleven bare ones are taken, or ten after a sign are not.
pub sign_counted_refused : (Numbers (takes_for "PS000000000007" "PS0+7") → ⊥) × (Numbers (takes_for "PS0+0000000007" "") → ⊥)
unfolding computing_laws
sign_counted_refused = (
  takes_formless (takes_for "PS000000000007" "PS0+7") standing (bytes "PS000000000007") refl refl refl refl,
  refuses_form (takes_for "PS0+0000000007" "") standing (bytes "PS0+0000000007") (Set 0 (Preset (record { minus = false; digits = 7 }))) refl refl refl,
)

-- 02 §2, "Contacts must be unknown until the channel's first accepted reading", misread. A library is refused if byte 44 of channel 0 is
-- not what its readings told.
abbrev pub AllContacts : Library → Type 0
AllContacts l = (b : Beginning) (c : ℕ) → c ≤ 15 → (ks : List Call) → Contacts l b c ks

told_other : (l : Library) (ks : List Call) (n m : ℕ) → (motor_now l lent 0 ks).wiring.read ≡ n → (told_now l lent 0 ks).read ≡ m
    → (n ≡ m → ⊥) → AllContacts l → ⊥
told_other l ks n m e f other d = other (rw (e, f) at (d lent 0 (omega arith) ks).read)

-- channel 0 with its contacts unknown again, and the command of a library that makes them so after some orders
abbrev pub forgotten : List ℕ → List ℕ
forgotten t = with_motor t 0 (with_wiring (motor_at t 0) (record { setls = (motor_at t 0).wiring.setls; contacts = 0; read = 0 }))

abbrev pub forgets_after : (Deed → Bool) → Library
forgets_after test =
    with_command
    (λ t line reply.
    let a = command_call t line reply in
    record { result = a.result; table = cond (test (deed 0 t (command line reply))) (forgotten a.table) a.table; reply = a.reply })

-- A channel counts as read only when a contact is closed: after a reading of open contacts its start would still be refused.
abbrev pub reads_closed : Library
reads_closed =
    record { fresh = fresh_call; command = command_call; reading = λ t c n. cond (eqb n 0) (record { result = 0; table = t }) (reading_call t c n); tick = tick_call }

pub reads_closed_refused : AllContacts reads_closed → ⊥
unfolding computing_laws
reads_closed_refused = told_other reads_closed (reading 0 0 ∷ []) 0 1 refl refl (λ e. absurd (omega (arith, e)))

-- The end of a drive zeroes byte 44 too, or SETLS forgets the reading.
pub forgets_refused : (AllContacts (forgets_after is_stop) → ⊥) × (AllContacts (forgets_after is_setting) → ⊥)
unfolding computing_laws
forgets_refused = (
  told_other (forgets_after is_stop) (scanning ++ (says "SSTP0" ∷ [])) 0 1 refl refl (λ e. absurd (omega (arith, e))),
  told_other (forgets_after is_setting) (ready ++ (says "SETLS000000000" ∷ [])) 0 1 refl refl (λ e. absurd (omega (arith, e))),
)

-- Channel 0 in remote mode, not read: where it was made, and at the end of the range.
abbrev unread_table : List ℕ
unread_table = ran unjudged lent (says "REM" ∷ [])

abbrev unread_at_end : List ℕ
unread_at_end = ran unjudged lent (says "REM" ∷ says "PS0+2147483647" ∷ [])

-- A library is refused if it gives a line another number than the rules.
numbered_other : (l : Library) (t line : List ℕ) (o : Order) (n m : ℕ) → sizes_right t (command line (replicate 32 0xaa)) ≡ true → sound_table t ≡ true
    → order_in t line ≡ Some o → number_of (judge t o) ≡ n → (l.command t line (replicate 32 0xaa)).result % 256 ≡ m → (m ≡ n → ⊥) → Numbers l → ⊥
numbered_other l t line o n m sizes sound e f g other d =
    other (sym g ∙ d.judged t line (replicate 32 0xaa) o sizes sound e ∙ f)

-- The reading is asked for before the exit of REL 0, or before the target's range: what SCANP0 gives, 9, where 0 and 3 are due.
pub unread_too_early_refused : (Numbers (takes_for "REL0+0" "SCANP0") → ⊥) × (Numbers (takes_for "REL0+1" "SCANP0") → ⊥)
unfolding computing_laws
unread_too_early_refused = (
  numbered_other (takes_for "REL0+0" "SCANP0") unread_table (bytes "REL0+0") (Go 0 (Rel (record { minus = false; digits = 0 }))) 0 9 refl refl refl refl refl
      (λ e. absurd (omega (arith, e))),
  numbered_other (takes_for "REL0+1" "SCANP0") unread_at_end (bytes "REL0+1") (Go 0 (Rel (record { minus = false; digits = 1 }))) 3 9 refl refl refl refl refl
      (λ e. absurd (omega (arith, e))),
)

-- Only an enabled switch needs a reading: where SETLS enables none, the contacts count as read and open.
abbrev pub asks_enabled : Library
asks_enabled =
    with_command
    (λ t line reply.
    command_call (cond (eqb (motor_at t 0).wiring.setls 0) (with_motor t 0 (contacted (motor_at t 0) 0)) t) line reply)

pub asks_enabled_refused : Numbers asks_enabled → ⊥
unfolding computing_laws
asks_enabled_refused =
    numbered_other asks_enabled (ran unjudged lent (says "REM" ∷ says "SETLS000000000" ∷ [])) (bytes "SCANP0") (Go 0 (Scan cw)) 9 0 refl refl refl refl refl
    (λ e. absurd (omega (arith, e)))

-- Reads are answered as if the contacts were known, so that V is told from them: with SETLS001110111 all three switches would be
-- active.
abbrev pub shows_unread : Library
shows_unread =
    with_command
    (λ t line reply.
    cond (is_some asks (order_of line))
    (record { result = (command_call t line reply).result; table = t; reply = (command_call (with_motor t 0 (contacted (motor_at t 0) (motor_at t 0).wiring.contacts)) line reply).reply })
    (command_call t line reply))

pub shows_unread_refused : AllReplies shows_unread → ⊥
unfolding computing_laws
shows_unread_refused r =
    let t = ran unjudged lent (says "REM" ∷ says "SETLS001110111" ∷ []) in
    let told = (r t (bytes "STS0?") (replicate 32 0) refl (omega arith)).reads 0 AskStatus refl in
    let fact : ◌≡◌ {A = ℕ} (code "7") (code "0") = ap (λ (a : After). get_or a.buffer 3 0) told in
    absurd (omega (arith, fact))

-- 02 §3, "Start together", misread. The library that is ours but for what one line leaves in the table, and channel 0 held:
abbrev pub after_line : S.String → (List ℕ → List ℕ → List ℕ) → Library
after_line s f =
    with_command
    (λ t line reply.
    let a = command_call t line reply in
    record { result = a.result; table = cond (same line (bytes s)) (f t a.table) a.table; reply = a.reply })

abbrev held : List Call
held = ready ++ (says "PAUSE ON" ∷ says "SCANP0" ∷ [])

-- PAUSE ON freezes what runs: two ticks at 800 pps, S = 1600, P = 0.
abbrev pub frozen : Motor → Motor
frozen m =
    cond (busy m)
    (with_drive m m.ended (record { going = m.drive.going; held = true; kind = m.drive.kind; fraction = m.drive.fraction; speed = m.drive.speed; target = m.drive.target }))
    m

abbrev pub freezes : Library
freezes = after_line "PAUSE ON" (λ t u. with_motors u frozen)

pub freezes_refused : AllDemand3 freezes → ⊥
unfolding computing_laws
freezes_refused =
    too_few freezes (scanning ++ (says "PAUSE ON" ∷ ticked ∷ ticked ∷ [])) (under_pause (running cw 800 1600 0)) refl refl (omega arith)

-- A held drive gathers its fraction while it waits: after one tick of waiting at 800 pps its first tick gives a pulse, P = 1, S = 800.
abbrev pub gathering : Motor → Motor
gathering m = cond m.drive.held (with_drive m m.ended (with_fraction m.drive ((m.drive.fraction + m.drive.speed) % 1000))) m

abbrev pub gathers : Library
gathers = with_tick (λ t p. let a = tick_call t p in record { result = a.result; table = with_motors a.table gathering; pulses = a.pulses })

pub gathers_refused : AllDemand3 gathers → ⊥
unfolding computing_laws
gathers_refused = too_many gathers (held ++ (ticked ∷ says "PAUSE OFF" ∷ ticked ∷ [])) (running cw 800 800 1) refl (omega arith)

-- PAUSE OFF that is answered OK and does nothing: by the table the drive is held for ever, by the accepted lines S = 1600 and P = 0.
abbrev pub never_releases : Library
never_releases = after_line "PAUSE OFF" (λ t u. t)

pub never_releases_refused : AllDemand3 never_releases → ⊥
unfolding computing_laws
never_releases_refused =
    too_few never_releases (held ++ (says "PAUSE OFF" ∷ ticked ∷ ticked ∷ [])) (running cw 800 1600 0) refl refl (omega arith)

-- PAUSE OFF that clears head byte 3 and releases none, and one that releases channel 0 alone: a held drive does not move after it.
abbrev pub releases_none : Library
releases_none = after_line "PAUSE OFF" (λ t u. with_head t (with_pause (head_of t) 0))

abbrev pub releases_one : Library
releases_one = after_line "PAUSE OFF" (λ t u. with_motor (with_head t (with_pause (head_of t) 0)) 0 (released (motor_at t 0)))

pub releases_few_refused : (AllDemand3 releases_none → ⊥) × (AllDemand3 releases_one → ⊥)
unfolding computing_laws
releases_few_refused = (
  (λ d. absurd (false≢true ((d lent 0 (omega arith) held).releasing (says "PAUSE OFF") refl).0)),
  (λ d. absurd (false≢true ((d lent 1 (omega arith) (reading 1 0 ∷ held ++ (says "SCANN1" ∷ []))).releasing (says "PAUSE OFF") refl).0)),
)

-- A stop on a held motor that is taken for one on a stopped motor, and a reading that does not end a held drive.
abbrev pub stops_running : Library
stops_running =
    with_command
    (λ t line reply.
    cond (is_stop (deed 0 t (command line reply)) && (motor_at t 0).drive.held) (record { result = 0; table = t; reply = reply }) (command_call t line reply))

abbrev pub switches_running : Library
switches_running =
    record {
      fresh = fresh_call;
      command = command_call;
      reading = λ t c n. cond (motor_at t c).drive.held (record { result = 0; table = with_motor t c (contacted (motor_at t c) n) }) (reading_call t c n);
      tick = tick_call;
    }

pub ends_running_alone_refused : (AllDemand3 stops_running → ⊥) × (AllDemand3 switches_running → ⊥)
unfolding computing_laws
ends_running_alone_refused = (
  (λ d. absurd (false≢true (sym ((d lent 0 (omega arith) held).stopping (says "SSTP0") ssend refl)))),
  (λ d. absurd (false≢true (sym ((d lent 0 (omega arith) held).switching (reading 0 1) 1 refl refl)))),
)

-- The release loads the selected speed, so that SPC is lost: 800 where 400 is due.
abbrev pub reloaded : Motor → Motor
reloaded m = with_drive m m.ended (with_speed_in_force m.drive (selected_speed m))

abbrev pub reloads : Library
reloads = after_line "PAUSE OFF" (λ t u. with_motor u 0 (reloaded (motor_at u 0)))

pub reloads_refused : AllDemand3 reloads → ⊥
unfolding computing_laws
reloads_refused d =
    let kept = ((d lent 0 (omega arith) (held ++ (says "SPC0400" ∷ []))).releasing (says "PAUSE OFF") refl).1 in
    let fact : ◌≡◌ {A = ℕ} 800 400 = ap (λ (x : Drive). x.speed) kept in
    absurd (omega (arith, fact))

-- REL 0 under pause is held: a drive that no start began.
pub holds_nothing_refused : AllDemand3 (takes_for "REL0+0" "REL0+1") → ⊥
unfolding computing_laws
holds_nothing_refused d =
    let fact : false ≡ true = (d lent 0 (omega arith) (ready ++ (says "PAUSE ON" ∷ says "REL0+0" ∷ []))).lasting in
    absurd (false≢true fact)

-- 02 §5, "NG says too little", misread. The library that is ours but for the numbers that it gives, by the table and the line:
abbrev pub renumbers : (List ℕ → List ℕ → ℕ → ℕ) → Library
renumbers f =
    with_command
    (λ t line reply.
    let a = command_call t line reply in
    let n = a.result % 256 in
    record { result = a.result - n + f t line n; table = a.table; reply = a.reply })

-- What it gives to a line on a sound table, which our number n for it decides.
module _ (f : List ℕ → List ℕ → ℕ → ℕ) (t line : List ℕ) (o : Order) (n m : ℕ) (sizes : sizes_right t (command line (replicate 32 0xaa)) ≡ true)
    (sound : sound_table t ≡ true) (is : order_in t line ≡ Some o) (judged : number_of (judge t o) ≡ n) (gives : f t line n ≡ m) (small : m ≤ 255) where
  renumbered : ((renumbers f).command t line (replicate 32 0xaa)).result % 256 ≡ m
  renumbered =
      let ours : (command_call t line (replicate 32 0xaa)).result % 256 ≡ n = numbers.judged t line (replicate 32 0xaa) o sizes sound is ∙ judged in
      rw (ours, gives) (omega (arith, ours, small))

  -- It is refused where that is another number than the rules'.
  renumbered_other : (m ≡ n → ⊥) → Numbers (renumbers f) → ⊥
  renumbered_other other d = other (sym renumbered ∙ d.judged t line (replicate 32 0xaa) o sizes sound is ∙ judged)

-- a fresh table in remote mode with another motor in channel 0
abbrev holding : Motor → List ℕ
holding m = with_motor (with_head (fresh_table 0) (with_mode (head_of (fresh_table 0)) 1)) 0 m

-- a motor at the end of the range with D = 1 and a limit
abbrev ending : ℕ → Motor
ending limit =
    with_place (with_limits (with_wiring (motor_at (fresh_table 0) 0) (record { setls = 0b11110000; contacts = 0; read = 1 })) (record { cw = limit; ccw = limit })) highest

-- 11 wherever D = 1, and 12 only where the limit is the end of the range: "where both, 12".
abbrev pub limit_first : List ℕ → List ℕ → ℕ → ℕ
limit_first t line n = cond (eqb n 12 && digital (motor_at t 0).wiring) 11 n

abbrev pub limit_at_end : List ℕ → List ℕ → ℕ → ℕ
limit_at_end t line n = cond (eqb n 12 && not (eqb (motor_at t 0).limits.cw highest)) 11 n

pub range_by_limit_refused : (Numbers (renumbers limit_first) → ⊥) × (Numbers (renumbers limit_at_end) → ⊥)
unfolding computing_laws
range_by_limit_refused = (
  renumbered_other limit_first (holding (ending highest)) (bytes "SCANP0") (Go 0 (Scan cw)) 12 11 refl refl refl refl refl (omega arith) (omega arith),
  renumbered_other limit_at_end (holding (ending origin)) (bytes "SCANP0") (Go 0 (Scan cw)) 12 11 refl refl refl refl refl (omega arith) (omega arith),
)

-- Local mode judged after the value, so that 3 is given where remote mode would give it: "7 keeps local mode's place".
abbrev pub value_first : List ℕ → List ℕ → ℕ → ℕ
value_first t line n = cond (eqb n 7 && eqb (number_of (verdict (with_head t (with_mode (head_of t) 1)) (order_of line))) 3) 3 n

pub value_first_refused : Numbers (renumbers value_first) → ⊥
unfolding computing_laws
value_first_refused =
    renumbered_other value_first (fresh_table 0) (bytes "PS0+9999999999") (Set 0 (Preset (record { minus = false; digits = 9999999999 }))) 7 3 refl refl refl refl refl
    (omega arith) (omega arith)

-- SPC that meets the checks of a start: "8 to 12 for starts only".
abbrev pub changes_as_start : List ℕ → List ℕ → ℕ → ℕ
changes_as_start t line n = cond (eqb n 13 && eqb (motor_at t 0).setup.a 0) 8 n

pub changes_as_start_refused : Numbers (renumbers changes_as_start) → ⊥
unfolding computing_laws
changes_as_start_refused d =
    let t = holding (with_setup (motor_at (fresh_table 0) 0) (record { a = 0; b = 1; c = 0; d = 0 })) in
    absurd (false≢true (d.starts t (bytes "SPC0500") (replicate 32 0xaa) 8 (omega arith) (omega arith)
    (renumbered changes_as_start t (bytes "SPC0500") (ChangeSpeed 0 500) 13 8 refl refl refl refl refl (omega arith))))

-- 4 left to lines that are no starts: it "is no longer given".
abbrev pub four_left : List ℕ → List ℕ → ℕ → ℕ
four_left t line n = cond (eqb n 7 && not (is_some starting (order_of line))) 4 n

pub four_left_refused : Numbers (renumbers four_left) → ⊥
unfolding computing_laws
four_left_refused d =
    d.split (fresh_table 0) (command (bytes "PAUSE ON") (replicate 32 0xaa))
    (renumbered four_left (fresh_table 0) (bytes "PAUSE ON") (ForHead (Pause 1)) 7 4 refl refl refl refl refl (omega arith))

-- The flag is bit (number - 1): 7 would set bit 6 where bit 3 is due, and no later call would find the table sound.
abbrev pub flags_in_turn : Library
flags_in_turn =
    with_command
    (λ t line reply.
    let a = command_call t line reply in
    let n = a.result % 256 in
    record { result = a.result; table = cond (leb 7 n) (with_head t (with_errors (head_of t) (with_bit (n - 1) (head_of t).errors))) a.table; reply = a.reply })

pub flags_in_turn_refused : Numbers flags_in_turn → ⊥
unfolding computing_laws
flags_in_turn_refused d =
    let left = d.flags (fresh_table 0) (bytes "SCANP0") (replicate 32 0) 7 refl refl in
    let fact : ◌≡◌ {A = ℕ} 64 8 = ap (λ (t : List ℕ). get_or t 2 0) left in
    absurd (omega (arith, fact))

-- 02 §6, "Keep the busy set", misread. The table with another busy set in its head:
abbrev pub with_set : List ℕ → ℕ → List ℕ
with_set t n = with_head t (with_busy (head_of t) n)

-- A library is refused if the bit of channel 0 is not what its account says.
unlisted : (l : Library) (ks : List Call) (b : Bool) → listed 0 (ran l lent ks) ≡ not b → (account_now l lent 0 ks).lasts ≡ b → AllDemand3 l → ⊥
unlisted l ks b e f d = other b (sym e ∙ (d lent 0 (omega arith) ks).listing ∙ f)
  where
    other : (b : Bool) → not b ≡ b → ⊥
    other true q = false≢true q
    other false q = false≢true (sym q)

-- A tick that leaves the bit of a drive that it ends, by its room or at its target.
abbrev pub leaves_bits : Library
leaves_bits = with_tick (λ t p. let a = tick_call t p in record { result = a.result; table = with_set a.table (head_of t).busy; pulses = a.pulses })

pub leaves_bits_refused : AllDemand3 leaves_bits → ⊥
unfolding computing_laws
leaves_bits_refused =
    unlisted leaves_bits (ready ++ (says "FL0+3" ∷ says "SETLS011110000" ∷ says "SPDM05000000" ∷ says "SCANP0" ∷ ticked ∷ [])) false refl refl

-- Held drives left out, and put in at the release: the set is that of the motors that move.
abbrev pub lists_moving : Library
lists_moving =
    with_command
    (λ t line reply.
    let a = command_call t line reply in
    record { result = a.result; table = with_set a.table (bits_of (λ c. moving (motor_at a.table c)) 16); reply = a.reply })

pub lists_moving_refused : AllDemand3 lists_moving → ⊥
unfolding computing_laws
lists_moving_refused = unlisted lists_moving held true refl refl

-- `BSY?` that is told from the records, while bytes 4 and 5 stay 0.
abbrev pub reckons : Library
reckons =
    with_command
    (λ t line reply.
    let a = command_call (sealed t) line reply in
    record { result = a.result; table = with_set a.table 0; reply = a.reply })

pub reckons_refused : AllDemand3 reckons → ⊥
unfolding computing_laws
reckons_refused = unlisted reckons scanning true refl refl

-- A line after which the head has another set than it should.
abbrev pub sets_after : S.String → ℕ → Library
sets_after wrong n =
    with_command
    (λ t line reply.
    let a = command_call t line reply in
    record { result = a.result; table = cond (same line (bytes wrong)) (with_set a.table n) a.table; reply = a.reply })

-- A start that puts its neighbour into the set besides, PAUSE ON that empties it, and SPC that takes its channel out.
pub sets_after_refused : (Neighbours (sets_after "SCANP0" 3) → ⊥) × (Neighbours (sets_after "PAUSE ON" 0) → ⊥) × (Neighbours (sets_after "SPC0400" 0) → ⊥)
unfolding computing_laws
sets_after_refused = (
  (λ n. false≢true (sym (n.other_bits (ran unjudged lent ready) (bytes "SCANP0") (replicate 32 0) (Go 0 (Scan cw)) 0 1 (omega arith) refl refl (λ e. absurd (omega (arith, e)))))),
  (λ n.
      let fact : ◌≡◌ {A = ℕ} 0 1 = n.head_set (ran unjudged lent scanning) (bytes "PAUSE ON") (replicate 32 0) (ForHead (Pause 1)) refl refl in
      absurd (omega (arith, fact))),
  (λ n. false≢true (sym (n.cleared (ran unjudged lent scanning) (says "SPC0400") 0 (omega arith) refl refl).1)),
)

-- A set that is not judged: a tick that is taken on a fresh table whose set has channel 0.
abbrev pub trusts_sets : Library
trusts_sets = with_tick (λ t p. tick_call (sealed t) p)

pub trusts_sets_refused : Numbers trusts_sets → ⊥
unfolding computing_laws
trusts_sets_refused n =
    let left = n.unsound (put (fresh_table 0) 4 (1 ∷ [])) ticked refl refl in
    let fact : ◌≡◌ {A = ℕ} 0 6 = ap (λ (a : After). a.result) left in
    absurd (omega (arith, fact))

-- `BSY?` with the low byte first, or with channel 0 first: 0100 or 8000 where channel 0 is busy.
abbrev pub tells_set : (ℕ → List ℕ) → Library
tells_set text =
    with_command
    (λ t line reply. cond (same line (bytes "BSY?")) (record { result = 1024; table = t; reply = put reply 0 (text (head_of t).busy) }) (command_call t line reply))

-- bit c of a set as bit 15 - c
abbrev pub turned : ℕ → ℕ
turned n = bits_of (λ c. is_set (15 - c) n) 16

-- What a library answers to it must be 0001.
told_one : (l : Library) → AllReplies l → (l.command underway (bytes "BSY?") (replicate 32 0)).reply ≡ put (replicate 32 0) 0 (bytes "0001")
unfolding computing_laws
told_one l r = ap (λ (a : After). a.buffer) ((r underway (bytes "BSY?") (replicate 32 0) refl (omega arith)).head_reads AskBusy refl)

pub tells_turned_refused : (AllReplies (tells_set (λ n. hex_byte (n % 256) ++ hex_byte (n / 256))) → ⊥) × (AllReplies (tells_set (λ n. hex_word (turned n))) → ⊥)
unfolding computing_laws
tells_turned_refused = (
  (λ r.
      let fact : ◌≡◌ {A = ℕ} (code "1") (code "0") = ap (λ (b : List ℕ). get_or b 1 0) (told_one _ r) in
      absurd (omega (arith, fact))),
  (λ r.
      let fact : ◌≡◌ {A = ℕ} (code "8") (code "0") = ap (λ (b : List ℕ). get_or b 0 0) (told_one _ r) in
      absurd (omega (arith, fact))),
)

-- 02 §7, "The four-motor card", misread. Demand 3 for every sequence, over the number that may be busy.
abbrev pub AllShared : Library → Type 0
AllShared l = (b : Beginning) (ks : List Call) → Shared l b ks

-- A library is refused if after some calls its word has more bits than motors may be busy: the word is what the accounts count.
too_busy : (l : Library) (ks : List Call) (n : ℕ) → bits_set (head_of (ran l lent_four ks)).busy ≡ n → 4 < n → AllShared l → ⊥
too_busy l ks n e more d =
    let shared = d lent_four ks in
    absurd (omega (arith, shared.few, sym e ∙ shared.word, more))

-- The channels 0 to 4 read, and a start of each.
abbrev all_read : List Call
all_read = reading 0 0 ∷ reading 1 0 ∷ reading 2 0 ∷ reading 3 0 ∷ reading 4 0 ∷ says "REM" ∷ []

abbrev five_starts : List Call
five_starts = says "SCANP0" ∷ says "SCANP1" ∷ says "SCANP2" ∷ says "SCANP3" ∷ says "SCANP4" ∷ []

-- A fifth start that is taken, always or only where it is held: as the sixteen-motor card takes it.
abbrev pub takes_fifth : (List ℕ → Bool) → Library
takes_fifth free =
    record {
      fresh = fresh_call;
      command = λ t line reply.
          cond (free t)
          (let a = unjudged.command (put t 6 (0 ∷ [])) line reply in record { result = a.result; table = put a.table 6 (1 ∷ []); reply = a.reply })
          (unjudged.command t line reply);
      reading = unjudged.reading;
      tick = unjudged.tick;
    }

pub fifth_taken_refused : (AllShared (takes_fifth (λ t. true)) → ⊥) × (AllShared (takes_fifth (λ t. paused (head_of t))) → ⊥)
unfolding computing_laws
fifth_taken_refused = (
  too_busy (takes_fifth (λ t. true)) (all_read ++ five_starts) 5 refl (omega arith),
  too_busy (takes_fifth (λ t. paused (head_of t))) (all_read ++ (says "PAUSE ON" ∷ five_starts)) 5 refl (omega arith),
)

-- A table of the four-motor card in remote mode: the first n channels scan, channel 5 is not read, and the others stand, read.
abbrev motors_busy : ℕ → List ℕ
motors_busy n =
    let m = motor_at (fresh_table 1) 0 in
    let known = contacted m 0 in
    let drive : Drive = record { going = cw; held = false; kind = 0; fraction = 0; speed = 800; target = origin } in
    head_bytes (record { mode = 1; reply = 0; errors = 0; pause = 0; busy = bits_of (λ c. ltb c n) 16; card = 1 })
    ++ (replicate head_rest 0 ++ gather (λ c. record_of (cond (ltb c n) (with_drive known 0 drive) (cond (eqb c 5) m known))) 16)

-- The fourth start refused; and on a full card 14 given too early: before the exit of REL 0, before busy, and before the causes of 02 §5.
abbrev pub full_at_three : List ℕ → List ℕ → ℕ → ℕ
full_at_three t line n = cond (eqb n 0 && is_some starting (order_of line) && leb 3 (bits_set (head_of t).busy)) 14 n

abbrev pub full_before : ℕ → List ℕ → List ℕ → ℕ → ℕ
full_before k t line n = cond (eqb n k && is_some starting (order_of line) && card_full (head_of t)) 14 n

pub full_turned_refused : (Numbers (renumbers full_at_three) → ⊥) × (Numbers (renumbers (full_before 0)) → ⊥)
    × (Numbers (renumbers (full_before 2)) → ⊥) × (Numbers (renumbers (full_before 9)) → ⊥)
unfolding computing_laws
full_turned_refused = (
  renumbered_other full_at_three (motors_busy 3) (bytes "SCANP3") (Go 3 (Scan cw)) 0 14 refl refl refl refl refl (omega arith) (omega arith),
  renumbered_other (full_before 0) (motors_busy 4) (bytes "REL4+0") (Go 4 (Rel (record { minus = false; digits = 0 }))) 0 14 refl refl refl refl refl (omega arith) (omega arith),
  renumbered_other (full_before 2) (motors_busy 4) (bytes "SCANP0") (Go 0 (Scan cw)) 2 14 refl refl refl refl refl (omega arith) (omega arith),
  renumbered_other (full_before 9) (motors_busy 4) (bytes "SCANP5") (Go 5 (Scan cw)) 9 14 refl refl refl refl refl (omega arith) (omega arith),
)

-- 14 given to SPC, which is no start; and on the sixteen-motor card, to what another cause refuses.
abbrev pub full_for : ℕ → List ℕ → List ℕ → ℕ → ℕ
full_for k t line n = cond (eqb n k) 14 n

pub full_elsewhere_refused : (Numbers (renumbers (full_for 13)) → ⊥) × (Numbers (renumbers (full_for 9)) → ⊥)
unfolding computing_laws
full_elsewhere_refused = (
  (λ d.
      absurd (false≢true (d.starts (motors_busy 4) (bytes "SPC4500") (replicate 32 0xaa) 14 (omega arith) (omega arith)
      (renumbered (full_for 13) (motors_busy 4) (bytes "SPC4500") (ChangeSpeed 4 500) 13 14 refl refl refl refl refl (omega arith))))),
  (λ d.
      let fact : ◌≡◌ {A = ℕ} 0 1 = d.fourteen unread_table (bytes "SCANP0") (replicate 32 0xaa)
      (renumbered (full_for 9) unread_table (bytes "SCANP0") (Go 0 (Scan cw)) 9 14 refl refl refl refl refl (omega arith)) in
      absurd (omega (arith, fact))),
)

-- `STQ?` answered on the sixteen-motor card, where it is 1; or with the number of those that are busy: R4 for R0.
abbrev pub answers_free : (Head → List ℕ) → Library
answers_free text =
    with_command
    (λ t line reply. cond (same line (bytes "STQ?")) (record { result = 512; table = t; reply = put reply 0 (text (head_of t)) }) (command_call t line reply))

pub free_everywhere_refused : Numbers (answers_free (λ h. code "R" ∷ digit_byte (4 - bits_set h.busy) ∷ [])) → ⊥
unfolding computing_laws
free_everywhere_refused n =
    let fact : ◌≡◌ {A = ℕ} 0 1 = n.formless (fresh_table 0) (bytes "STQ?") (replicate 32 0) refl refl refl in
    absurd (omega (arith, fact))

-- The same seen after fresh, by the drives that the accounts know.
pub free_shared_refused : (AllShared (answers_free (λ h. code "L" ∷ digit_byte (bits_set h.busy) ∷ [])) → ⊥)
    × (AllShared (answers_free (λ h. code "L" ∷ digit_byte (4 - bits_set h.busy) ∷ [])) → ⊥)
unfolding computing_laws
free_shared_refused = (
  (λ d.
      let told = (d lent_four []).free (bytes "STQ?") (replicate 32 0) (omega arith) refl refl in
      let fact : ◌≡◌ {A = ℕ} (code "0") (code "4") = ap (λ (a : After). get_or a.buffer 1 0) told in
      absurd (omega (arith, fact))),
  (λ d.
      let fact : ◌≡◌ {A = ℕ} 0 1 = (d lent []).formless (bytes "STQ?") (replicate 32 0) (omega arith) refl refl in
      absurd (omega (arith, fact))),
)

-- or with the letter R in local mode, after an accepted LOC.
pub free_letter_refused : AllReadsBack (answers_free (λ h. code "R" ∷ digit_byte (4 - bits_set h.busy) ∷ [])) → ⊥
unfolding computing_laws
free_letter_refused d =
    let fact : ◌≡◌ {A = ℕ} (code "R") (code "L") = (d lent_four [] (says "LOC") [] (bytes "STQ?") (replicate 32 0) (omega arith)).mode_free 0 refl refl refl refl in
    absurd (omega (arith, fact))

pub free_turned_refused : AllReplies (answers_free (λ h. code "R" ∷ digit_byte (bits_set h.busy) ∷ [])) → ⊥
unfolding computing_laws
free_turned_refused r =
    let told = (r (motors_busy 4) (bytes "STQ?") (replicate 32 0) refl (omega arith)).head_reads AskFree refl in
    let fact : ◌≡◌ {A = ℕ} (code "4") (code "0") = ap (λ (a : After). get_or a.buffer 1 0) told in
    absurd (omega (arith, fact))

-- Fresh that keeps the card that the bytes had, or takes a card of which only the low byte is 0 or 1; and a reading that turns the card.
abbrev pub fresh_as : (List ℕ → ℕ → ℕ) → Library
fresh_as card = record { fresh = λ b n. fresh_call b (card b n); command = command_call; reading = reading_call; tick = tick_call }

pub fresh_card_refused : (Numbers (fresh_as (λ b n. get_or b 6 0)) → ⊥) × (Numbers (fresh_as (λ b n. n % 256)) → ⊥)
unfolding computing_laws
fresh_card_refused = (
  (λ n.
      let fact : ◌≡◌ {A = ℕ} 0 1 = ap (λ (a : TableAfter). get_or a.table 6 0) (n.fresh_made (replicate 1088 0) 1 refl (omega arith)) in
      absurd (omega (arith, fact))),
  (λ n.
      let fact : ◌≡◌ {A = ℕ} 0 5 = ap (λ (a : TableAfter). a.result) (n.fresh_refused (replicate 1088 0) 256 (λ h. absurd (omega (arith, h.1)))) in
      absurd (omega (arith, fact))),
)

pub kept_card_refused : AllShared (fresh_as (λ b n. cond (eqb (get_or b 6 0) 0xaa) 0 n)) → ⊥
unfolding computing_laws
kept_card_refused d =
    let fact : ◌≡◌ {A = ℕ} 0 1 = (d lent_four []).card in
    absurd (omega (arith, fact))

abbrev pub turns_card : Library
turns_card =
    record { fresh = fresh_call; command = command_call; reading = λ t c n. let a = reading_call t c n in record { result = a.result; table = put a.table 6 (1 ∷ []) }; tick = tick_call }

pub turns_card_refused : Neighbours turns_card → ⊥
unfolding computing_laws
turns_card_refused n =
    let fact : ◌≡◌ {A = ℕ} 1 0 = n.card (fresh_table 0) (reading 0 0) in
    absurd (omega (arith, fact))
