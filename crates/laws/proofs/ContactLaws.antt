-- A channel's contacts after any sequence are what its accepted readings told, and without one it never moves. Assumes nothing.
use mathlib.Core.Path.{◌≡◌, refl, ◌∙◌}
use mathlib.Core.List.{List, [], ◌∷◌}
use mathlib.Core.Bool.{Bool, true, false}
use Prim.Native.Nat.{ℕ, ◌≤◌}
use native.Mathlib.Omega.{arith}
use Rattle.record.specs.declared.Motor.{Motor}
use Rattle.record.specs.Record.{fresh_motor}
use Rattle.motor.specs.Sound.{busy, sound_motor}
use Rattle.motor.proofs.SoundLaws.{sound_busy}
use Rattle.motor.proofs.MovingLaws.{idle_still}
use Rattle.pulses.specs.Ticks.{tick_count}
use Rattle.pulses.proofs.Laws.{stopped_count}
use Rattle.line.specs.declared.Setting.{Setting}
use Rattle.line.specs.declared.Setting.TheVariants.{Preset, SetCwLimit, SetCcwLimit, Select, SetSpeed, SetSwitches, SetMotor}
use Rattle.orders.specs.Settings.{with_setting}
use Rattle.table.specs.Layout.{motor_at, fresh_table}
use Rattle.table.specs.Sound.{sound_table}
use Rattle.table.proofs.TableLaws.{sound_motor_at}
use Rattle.table.proofs.KeptLaws.{fresh_sound}
use Rattle.laws.specs.Sequences.{Library, urqolina, Call, after, Beginning, from_fresh, ran}
use Rattle.laws.specs.Deeds.{Deed, starts, stops, speeds, sets, reads, ticks, pauses, rests, deed}
use Rattle.laws.specs.Ledger.{count_at, cw_pulses, ccw_pulses, Travel, no_travel, reset_by, travelled, travel, settled, settings}
use Rattle.laws.specs.Contacts.{Told, untold, told_by, told, Contacts}
use Rattle.laws.proofs.PartLaws.{fresh_motor_law}
use Rattle.laws.proofs.Following.{next}
use Rattle.laws.proofs.TravelLaws.{count_read, tick_count_law}
use Rattle.laws.proofs.LastingLaws.{made_fresh, ran_sound}
use Rattle.laws.proofs.DeedLaws.{paused_in}
use Rattle.laws.proofs.SettledLaws.{performed_same, settled_so}
use Rattle.laws.proofs.PulseLaws.{demand_3}

-- a motor's contacts are what was told
abbrev Agrees : Motor → Told → Type 0
Agrees m h = (m.wiring.contacts ≡ h.contacts) × (m.wiring.read ≡ h.read)

-- No setting changes them.
set_agrees : (m : Motor) (h : Told) (s : Setting) → Agrees m h → Agrees (with_setting m s) h
unfolding with_setting
set_agrees m h (Preset w) a = a
set_agrees m h (SetCwLimit w) a = a
set_agrees m h (SetCcwLimit w) a = a
set_agrees m h (Select k) a = a
set_agrees m h (SetSpeed k v) a = a
set_agrees m h (SetSwitches q r) a = a
set_agrees m h (SetMotor q) a = a

-- What a deed makes of settings that agree agrees with what it tells.
settled_agrees : (m : Motor) (h : Told) (d : Deed) → Agrees m h → Agrees (settled m d) (told_by h d)
unfolding settled told_by
settled_agrees m h (starts s) a = a
settled_agrees m h (stops flags) a = a
settled_agrees m h (speeds v) a = a
settled_agrees m h (sets s) a = set_agrees m h s a
settled_agrees m h (reads n) a = (refl, refl)
settled_agrees m h ticks a = a
settled_agrees m h (pauses k) a = a
settled_agrees m h rests a = a

-- So after any sequence, of any library.
settings_agree : (l : Library) (c : ℕ) (t : List ℕ) (m : Motor) (h : Told) (ks : List Call) → Agrees m h
    → Agrees (settings l c t m ks) (told l c t h ks)
unfolding settings told
settings_agree l c t m h [] a = a
settings_agree l c t m h (k ∷ ks) a =
    settings_agree l c (after l t k).table (settled m (deed c t k)) (told_by h (deed c t k)) ks (settled_agrees m h (deed c t k) a)

-- What is untold at the end was untold before.
untold_by : (h : Told) (d : Deed) → (told_by h d).read ≡ 0 → h.read ≡ 0
unfolding told_by
untold_by h (starts s) z = z
untold_by h (stops flags) z = z
untold_by h (speeds v) z = z
untold_by h (sets s) z = z
untold_by h (reads n) z = absurd (omega (arith, z))
untold_by h ticks z = z
untold_by h (pauses k) z = z
untold_by h rests z = z

untold_before : (l : Library) (c : ℕ) (t : List ℕ) (h : Told) (ks : List Call) → (told l c t h ks).read ≡ 0 → h.read ≡ 0
unfolding told
untold_before l c t h [] z = z
untold_before l c t h (k ∷ ks) z = untold_by h (deed c t k) (untold_before l c (after l t k).table (told_by h (deed c t k)) ks z)

-- A sound motor whose contacts are unknown stands.
unread_stands : (m : Motor) → sound_motor m ≡ true → m.wiring.read ≡ 0 → busy m ≡ false
unread_stands m o z = go (busy m) refl
  where
    go : (t : Bool) → busy m ≡ t → t ≡ false
    go true d = absurd (omega (arith, z, (sound_busy m o d).read))
    go false d = refl

unread_count : (m : Motor) → sound_motor m ≡ true → m.wiring.read ≡ 0 → tick_count m ≡ 0
unread_count m o z = stopped_count m (idle_still m (unread_stands m o z))

-- no pulse was given since the last preset
abbrev Unmoved : Travel → Type 0
Unmoved j = (j.cw ≡ 0) × (j.ccw ≡ 0)

reset_unmoved : (j : Travel) (s : Setting) → Unmoved j → Unmoved (reset_by j s)
reset_unmoved j (Preset w) u = (refl, refl)
reset_unmoved j (SetCwLimit w) u = u
reset_unmoved j (SetCcwLimit w) u = u
reset_unmoved j (Select k) u = u
reset_unmoved j (SetSpeed k v) u = u
reset_unmoved j (SetSwitches q r) u = u
reset_unmoved j (SetMotor q) u = u

travelled_unmoved : (n : ℕ) (j : Travel) (d : Deed) → (d ≡ ticks → n ≡ 0) → Unmoved j → Unmoved (travelled n j d)
unfolding travelled cw_pulses ccw_pulses
travelled_unmoved n j (starts s) z u = u
travelled_unmoved n j (stops flags) z u = u
travelled_unmoved n j (speeds v) z u = u
travelled_unmoved n j (sets s) z u = reset_unmoved j s u
travelled_unmoved n j (reads m) z u = u
travelled_unmoved n j ticks z u = rw (z refl) (omega (arith, u))
travelled_unmoved n j (pauses k) z u = u
travelled_unmoved n j rests z u = u

-- A channel that stays unread is not moved.
run_unmoved : (c : ℕ) → c ≤ 15 → (t : List ℕ) (ks : List Call) (h : Told) (j : Travel) → sound_table t ≡ true → Agrees (motor_at t c) h
    → (told urqolina c t h ks).read ≡ 0 → Unmoved j → Unmoved (travel urqolina c t j ks)
unfolding told travel
run_unmoved c on t [] h j s a z u = u
run_unmoved c on t (k ∷ ks) h j s a z u =
    let m = motor_at t c in
    let d = deed c t k in
    let v = after urqolina t k in
    let still : m.wiring.read ≡ 0 = a.1 ∙ untold_by h d (untold_before urqolina c v.table (told_by h d) ks z) in
    let same = performed_same (paused_in t) m m d (search) in
    let then : Agrees (motor_at v.table c) (told_by h d) = rw (((next t k s).follows c on).motor, same.wiring) (settled_agrees m h d a) in
    run_unmoved c on v.table ks (told_by h d) (travelled (count_at v.buffer c) j d) (next t k s).sound then z
    (travelled_unmoved (count_at v.buffer c) j d (λ e. tick_count_law t k c s on e ∙ unread_count m (sound_motor_at t c s on) still) u)

-- The request, after the calls ks.
module _ (b : Beginning) (c : ℕ) (on : c ≤ 15) (ks : List Call) where
  m : Motor
  m = motor_at (ran urqolina b ks) c

  o : sound_motor m ≡ true
  unfolding m
  o = sound_motor_at (ran urqolina b ks) c (ran_sound b ks) on

  agreed : Agrees m (told urqolina c (from_fresh urqolina b) untold ks)
  unfolding m
  agreed =
      let a : Agrees (settings urqolina c (from_fresh urqolina b) fresh_motor ks) (told urqolina c (from_fresh urqolina b) untold ks) =
      settings_agree urqolina c (from_fresh urqolina b) fresh_motor untold ks (unfold fresh_motor in (refl, refl)) in
      rw (settled_so b c on ks).wiring a

  unmoved : (told urqolina c (from_fresh urqolina b) untold ks).read ≡ 0 → Unmoved (travel urqolina c (from_fresh urqolina b) no_travel ks)
  unmoved = rw (made_fresh b) (λ z. run_unmoved c on (fresh_table b.card) ks untold no_travel (fresh_sound b.card b.known) (rw (fresh_motor_law b.card c on) (unfold fresh_motor in (refl, refl))) z (refl, refl))

  pub contacts_so : Contacts urqolina b c ks
  unfolding m
  contacts_so =
      record {
        contacts = agreed.0;
        read = agreed.1;
        none = λ z p long. rw (count_read (ran urqolina b ks) p c (ran_sound b ks) long on) (unread_count m o (agreed.1 ∙ z));
        place = λ z. omega (arith, unmoved z, (demand_3 b c on ks).position);
      }
