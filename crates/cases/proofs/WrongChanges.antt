-- Libraries that are refused by what the demands say of the table after a call: `Changes`, `Unchanged`, `Lasting` and `LastTick`. As in
-- WrongLibraries each is ours with one call replaced, and is refused on one short sequence, by computing it. Assumes nothing.
use Prim.Native.Nat.{ℕ, zero, suc, ◌+◌, ◌-◌, ◌≤◌, ◌<◌}
use Prim.Native.String as S
use native.Mathlib.Omega.{arith}
use mathlib.Core.Path.{◌≡◌, refl, sym, ap}
use mathlib.Core.List.{List, [], ◌∷◌, ◌++◌}
use mathlib.Core.Bool.{Bool, true, false, ◌&&◌, cond, false≢true}
use lib.ListN.{replicate, get_or}
use lib.Dec.{ltb}
use borrow.Author.Tests.{ltb-true}
use Rattle.digits.specs.Bytes.{AllBytes, put}
use Rattle.digits.specs.Places.{origin}
use Rattle.text.specs.Text.{bytes, same}
use Rattle.motor.proofs.SoundLaws.{and_l, and_r}
use Rattle.line.specs.declared.Start.TheVariants.{Rel}
use Rattle.line.specs.declared.Setting.TheVariants.{Preset}
use Rattle.line.specs.declared.HeadOrder.TheVariants.{Mode, Pause}
use Rattle.line.specs.declared.Order.TheVariants.{Go, Stop, Set, ForHead}
use Rattle.line.specs.Forms.{ssend}
use Rattle.table.specs.Layout.{motor_at, fresh_table}
use Rattle.urqolina.specs.Calls.{command_call, tick_call}
use Rattle.laws.specs.Computing.{computing_laws}
use Rattle.laws.specs.Sequences.{Library, Call, command, Beginning, ran}
use Rattle.laws.specs.Deeds.{deed}
use Rattle.laws.specs.Numbers.{Changes}
use Rattle.laws.specs.Unchanged.{Unchanged}
use Rattle.laws.specs.Pulses.{Lasting, LastTick}
use Rattle.cases.proofs.Beginnings.{lent, says, ticked, ready}
use Rattle.cases.proofs.Unjudged.{unjudged}
use Rattle.cases.proofs.WrongLibraries.{with_command, with_tick, is_setting, idle, deaf_to_switches, ends_drives}

-- a table with channel 0 standing ready, and one with it scanning
abbrev standing : List ℕ
standing = ran unjudged lent ready

abbrev scanning : List ℕ
scanning = ran unjudged lent (ready ++ (says "SCANP0" ∷ []))

-- `Changes`: a setting that is answered OK and not kept, a reading that is forgotten, a tick that does nothing. PS0+5 leaves the position
-- at 0, contacts 1 are 0 after their reading, and the 800 thousandths of a tick at 800 pps are not there.
abbrev pub forgets_settings : Library
forgets_settings =
    with_command
    (λ t line reply. cond (is_setting (deed 0 t (command line reply))) (record { result = 0; table = t; reply = reply }) (command_call t line reply))

pub forgets_settings_refused : Changes forgets_settings → ⊥
unfolding computing_laws
forgets_settings_refused d =
    let left = d.orders standing (bytes "PS0+5") (replicate 32 0) (Set 0 (Preset (record { minus = false; digits = 5 }))) refl refl refl refl in
    let fact : ◌≡◌ {A = ℕ} origin (origin + 5) = ap (λ (t : List ℕ). (motor_at t 0).place) left in
    absurd (omega (arith, fact))

pub forgets_readings_refused : Changes deaf_to_switches → ⊥
unfolding computing_laws
forgets_readings_refused d =
    let left = d.readings (fresh_table 0) 0 1 refl refl in
    let fact : ◌≡◌ {A = ℕ} 0 1 = ap (λ (t : List ℕ). (motor_at t 0).wiring.contacts) left in
    absurd (omega (arith, fact))

pub idle_ticks_refused : Changes idle → ⊥
unfolding computing_laws
idle_ticks_refused d =
    let left = (d.ticks scanning (replicate 64 0) refl refl).0 in
    let fact : ◌≡◌ {A = ℕ} 0 800 = ap (λ (t : List ℕ). (motor_at t 0).drive.fraction) left in
    absurd (omega (arith, fact))

-- `Unchanged`: ours, but for one line, after which a byte of the table is another
abbrev pub touches : S.String → ℕ → ℕ → Library
touches a at n =
    with_command
    (λ t line reply.
    let r = command_call t line reply in
    record { result = r.result; table = cond (same line (bytes a)) (put r.table at (n ∷ [])) r.table; reply = r.reply })

-- Every byte of a computed table is one.
all_below : List ℕ → Bool
all_below [] = true
all_below (b ∷ s) = ltb b 256 && all_below s

all_bytes : (s : List ℕ) → all_below s ≡ true → AllBytes s
unfolding all_below
all_bytes [] e k = omega arith
all_bytes (b ∷ s) e zero = ltb-true b 256 (and_l (ltb b 256) (all_below s) e)
all_bytes (b ∷ s) e (suc k) = all_bytes s (and_r (ltb b 256) (all_below s) e) k

-- REL 0 that clears the end flags, byte 31 of record 0, which SSTP0 left at 40h; a stop of a stopped motor that sets them; and LOC and
-- PAUSE ON repeated that clear the error flags, byte 2 of the head, of a line that had no form.
abbrev halted : List ℕ
halted = ran unjudged lent (ready ++ (says "SCANP0" ∷ says "SSTP0" ∷ []))

abbrev erring : List ℕ
erring = ran unjudged lent (says "LOC" ∷ says "X" ∷ [])

abbrev waiting : List ℕ
waiting = ran unjudged lent (ready ++ (says "PAUSE ON" ∷ says "X" ∷ []))

pub touches_refused :
    (Unchanged (touches "REL0+0" 95 0) → ⊥) × (Unchanged (touches "SSTP0" 95 0x40) → ⊥) × (Unchanged (touches "LOC" 2 0) → ⊥)
    × (Unchanged (touches "PAUSE ON" 2 0) → ⊥)
unfolding computing_laws all_below
touches_refused = (
  λ u.
      let left = u.table halted (bytes "REL0+0") (replicate 32 0) (Go 0 (Rel (record { minus = false; digits = 0 }))) (all_bytes halted refl) refl refl refl in
      let fact : ◌≡◌ {A = ℕ} 0 0x40 = ap (λ (t : List ℕ). get_or t 95 0) left in
      absurd (omega (arith, fact)),
  λ u.
      let left = u.table standing (bytes "SSTP0") (replicate 32 0) (Stop 0 ssend) (all_bytes standing refl) refl refl refl in
      let fact : ◌≡◌ {A = ℕ} 0x40 0 = ap (λ (t : List ℕ). get_or t 95 0) left in
      absurd (omega (arith, fact)),
  λ u.
      let left = u.table erring (bytes "LOC") (replicate 32 0) (ForHead (Mode 0)) (all_bytes erring refl) refl refl refl in
      let fact : ◌≡◌ {A = ℕ} 0 1 = ap (λ (t : List ℕ). get_or t 2 0) left in
      absurd (omega (arith, fact)),
  λ u.
      let left = u.table waiting (bytes "PAUSE ON") (replicate 32 0) (ForHead (Pause 1)) (all_bytes waiting refl) refl refl refl in
      let fact : ◌≡◌ {A = ℕ} 0 1 = ap (λ (t : List ℕ). get_or t 2 0) left in
      absurd (omega (arith, fact)),
)

-- `Lasting`: a tick that leaves a byte in the head's zeros, so that the table is not sound, and one that calls a sound table unsound.
abbrev pub litters : Library
litters = with_tick (λ t p. let a = tick_call t p in record { result = a.result; table = put a.table 63 (1 ∷ []); pulses = a.pulses })

pub litters_refused : Lasting litters → ⊥
unfolding computing_laws
litters_refused d =
    let fact : false ≡ true = d.sound lent (ticked ∷ []) in
    absurd (false≢true fact)

abbrev pub distrusts : Library
distrusts = with_tick (λ t p. record { result = 6; table = t; pulses = p })

pub distrusts_refused : Lasting distrusts → ⊥
unfolding computing_laws
distrusts_refused d = d.never_six lent [] ticked refl

-- `LastTick` for every channel, sequence, place and calls after it
abbrev pub AllLastTick : Library → Type 0
AllLastTick l = (b : Beginning) (c : ℕ) → c ≤ 15 → (ks : List Call) (p : ℕ) (later : List Call) → LastTick l b c ks p later

-- A drive that ends with its first tick: 3 pulses CCW at 800 pps want four.
abbrev aimed : List Call
aimed = ready ++ (says "ABS0-3" ∷ [])

pub ends_early_refused : AllLastTick ends_drives → ⊥
unfolding computing_laws
ends_early_refused d =
    let few : 1 < 4 = omega arith in
    let near : 3 ≤ 2147483647 = omega arith in
    let fact : false ≡ true = (d lent 0 (omega arith) aimed (origin - 3) (ticked ∷ [])).before (record { lasts = refl; unticked = refl; aimed = refl; within = near; alone = refl }) few in
    absurd (false≢true fact)

-- And one that still drives after its last: one pulse CW at 5,000,000 pps wants one tick.
abbrev hurried : List Call
hurried = ready ++ (says "SPDM05000000" ∷ says "ABS0+1" ∷ [])

pub ends_late_refused : AllLastTick idle → ⊥
unfolding computing_laws
ends_late_refused d =
    let near : 1 ≤ 2147483647 = omega arith in
    let fact : true ≡ false =
    ((d lent 0 (omega arith) hurried (origin + 1) []).with (record { lasts = refl; unticked = refl; aimed = refl; within = near; alone = refl }) refl refl (replicate 64 0) refl).0 in
    absurd (false≢true (sym fact))
