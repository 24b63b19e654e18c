-- Which motors move. Nothing above opens `moving` but what computes, and what a release leaves. Assumes nothing.
use Rattle.std.proofs.Common.{◌≡◌, ℕ, true, false, not, refl}
use Rattle.record.specs.declared.Motor.{Motor}
use Rattle.record.specs.Record.{with_place, with_drive, with_fraction, with_speed_in_force}
use borrow.Author.Tests.{not-true}
use Rattle.motor.specs.Sound.{busy, moving}
use Rattle.motor.proofs.SoundLaws.{and_l, and_r}

-- What moves is busy, and what is not busy does not move.
pub moving_busy : (m : Motor) → moving m ≡ true → busy m ≡ true
unfolding moving
moving_busy m e = and_l (busy m) _ e

pub idle_still : (m : Motor) → busy m ≡ false → moving m ≡ false
unfolding moving
idle_still m e = rw e

-- Whether a motor moves lies in its drive, and not in the speed in force.
pub moving_drive : (n m : Motor) → n.drive ≡ m.drive → moving n ≡ moving m
unfolding moving
moving_drive n m e = rw e

pub speed_moves : (m : Motor) (e v : ℕ) → moving (with_drive m e (with_speed_in_force m.drive v)) ≡ moving m
unfolding moving
speed_moves m e v = refl

-- A motor that is at another place with another fraction moves if it did.
pub carried_moves : (m : Motor) (p e n : ℕ) → moving (with_drive (with_place m p) e (with_fraction m.drive n)) ≡ moving m
unfolding moving
carried_moves m p e n = refl

-- What is busy moves unless it is held, and what moves is not held.
pub busy_moves : (m : Motor) → busy m ≡ true → moving m ≡ not m.drive.held
unfolding moving
busy_moves m e = rw e

pub moving_free : (m : Motor) → moving m ≡ true → m.drive.held ≡ false
unfolding moving
moving_free m e = not-true _ (and_r (busy m) _ e)
