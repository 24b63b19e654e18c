-- Which deeds set a motor off: none but a start that does. Assumes nothing.
use mathlib.Core.Path.{◌≡◌, refl, sym, ap, ◌∙◌}
use mathlib.Core.Bool.{Bool, true, false, ◌&&◌, cond, false≢true}
use Prim.Native.Nat.{ℕ}
use lib.Dec.{eqb}
use Rattle.record.specs.declared.Motor.{Motor}
use Rattle.motor.specs.Switches.{blocked}
use Rattle.motor.specs.Sound.{busy, moving}
use Rattle.motor.proofs.MovingLaws.{moving_busy}
use Rattle.drive.specs.Drives.{lsend, released, ended_with, speed_changed, contacted, switch_read}
use Rattle.drive.proofs.Laws.{stopped_again, released_drive}
use Rattle.pulses.specs.Ticks.{tick_motor}
use Rattle.pulses.proofs.Laws.{stopped_given_none}
use Rattle.line.specs.declared.Start.{Start}
use Rattle.laws.specs.Deeds.{Deed, starts, stops, speeds, sets, reads, ticks, pauses, rests}
use Rattle.laws.specs.Ledger.{sets_off}
use Rattle.laws.proofs.DeedLaws.{performed, set_drive}
use Rattle.laws.proofs.AccountLaws.{off_stays}

-- What is busy after a reading was busy before it,
read_before : (m : Motor) (n : ℕ) → busy (switch_read m n) ≡ true → busy m ≡ true
unfolding switch_read
read_before m n = go (busy m && blocked m.drive.going (contacted m n))
  where
    go : (t : Bool) → busy (cond t (ended_with lsend (contacted m n)) (contacted m n)) ≡ true → busy m ≡ true
    go true b = absurd (false≢true b)
    go false b = b

-- and what is after a tick, before the tick.
tick_before : (m : Motor) → busy (tick_motor m).motor ≡ true → busy m ≡ true
tick_before m b = go (moving m) refl
  where
    go : (t : Bool) → moving m ≡ t → busy m ≡ true
    go true e = moving_busy m e
    go false e = let same : (tick_motor m).motor ≡ m = rw (stopped_given_none m e) in rw same at b

-- A deed that sets nothing off leaves a motor that was not busy so.
pub busy_before : (p : Bool) (m : Motor) (d : Deed) → ((s : Start) → d ≡ starts s → sets_off m s ≡ true → ⊥) → busy (performed p m d) ≡ true → busy m ≡ true
unfolding performed speed_changed
busy_before p m (starts s) idle b = go (sets_off m s) refl
  where
    go : (t : Bool) → sets_off m s ≡ t → busy m ≡ true
    go true e = absurd (idle s refl e)
    go false e = rw (off_stays p m s e) at b
busy_before p m (stops f) idle b = go (busy m) refl
  where
    go : (t : Bool) → busy m ≡ t → t ≡ true
    go true e = refl
    go false e = sym e ∙ (rw (stopped_again f m e) at b)
busy_before p m (speeds v) idle b = b
busy_before p m (sets s) idle b = rw (set_drive m s) at b
busy_before p m (reads n) idle b = read_before m n b
busy_before p m ticks idle b = tick_before m b
busy_before p m (pauses k) idle b = go (eqb k 0) b
  where
    go : (t : Bool) → busy (cond t (released m) m) ≡ true → busy m ≡ true
    go true q = rw (released_drive m) at q
    go false q = q
busy_before p m rests idle b = b

-- a deed is a start
abbrev pub is_start : Deed → Bool
is_start (starts s) = true
is_start (stops flags) = false
is_start (speeds v) = false
is_start (sets s) = false
is_start (reads n) = false
is_start ticks = false
is_start (pauses k) = false
is_start rests = false

-- So another deed leaves a motor that is not busy so.
pub stays_idle : (p : Bool) (m : Motor) (d : Deed) → is_start d ≡ false → busy m ≡ false → busy (performed p m d) ≡ false
stays_idle p m d n e = go (busy (performed p m d)) refl
  where
    go : (b : Bool) → busy (performed p m d) ≡ b → b ≡ false
    go true y = absurd (false≢true (sym e ∙ busy_before p m d (λ s q off. absurd (false≢true (sym n ∙ ap is_start q))) y))
    go false y = refl
