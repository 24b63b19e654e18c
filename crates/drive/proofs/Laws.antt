-- Laws of one drive, for every motor, sound or not but where it is said. Assumes nothing.
use mathlib.Core.Path.{◌≡◌, refl, ap}
use mathlib.Core.Bool.{Bool, true, false, cond}
use Prim.Native.Nat.{ℕ}
use lib.ListN.{replicate}
use Rattle.digits.specs.Bytes.{part}
use Rattle.record.specs.declared.Drive.{Drive}
use Rattle.record.specs.declared.Motor.{Motor}
use Rattle.record.specs.Record.{record_of, with_drive, let_go, standing}
use Rattle.record.proofs.RoundTrip.{standing_zero}
use Rattle.motor.specs.Sound.{busy, moving, sound_motor}
use Rattle.motor.proofs.SoundLaws.{and_true, sound_standing}
use Rattle.drive.specs.Drives.{released, stopped}

-- A drive that is stopped leaves nothing behind, the fraction least of all; a stop on a stopped motor changes nothing.
pub stopped_stands : (flags : ℕ) (m : Motor) → busy m ≡ true → (stopped flags m).drive ≡ standing
unfolding stopped
stopped_stands flags m e = rw e

pub stopped_again : (flags : ℕ) (m : Motor) → busy m ≡ false → stopped flags m ≡ m
unfolding stopped
stopped_again flags m e = rw e

-- "Ending zeroes bytes 32..43": after a stop they are zero in the record of every sound motor, whether it drove or not.
pub stopped_none : (flags : ℕ) (m : Motor) → sound_motor m ≡ true → (stopped flags m).drive ≡ standing
stopped_none flags m s = go (busy m) refl
  where
    go : (t : Bool) → busy m ≡ t → (stopped flags m).drive ≡ standing
    go true d = stopped_stands flags m d
    go false d = rw (stopped_again flags m d) (sound_standing m s d)

pub stopped_zero : (flags : ℕ) (m : Motor) → sound_motor m ≡ true → part (record_of (stopped flags m)) 32 12 ≡ replicate 12 0
stopped_zero flags m s = standing_zero (stopped flags m) (stopped_none flags m s)

free : (d : Drive) → d.held ≡ false → d ≡ let_go d
free d e = ap (λ (h : Bool). record { going = d.going; held = h; kind = d.kind; fraction = d.fraction; speed = d.speed; target = d.target }) e

-- What is released is not held, and keeps all that it was started with; what is not held stays as it is, and so does what is released
-- again.
pub released_drive : (m : Motor) → (released m).drive ≡ let_go m.drive
unfolding released
released_drive m = go m.drive.held refl
  where
    go : (t : Bool) → m.drive.held ≡ t → (cond t (with_drive m m.ended (let_go m.drive)) m).drive ≡ let_go m.drive
    go true e = refl
    go false e = free m.drive e

pub released_free : (m : Motor) → m.drive.held ≡ false → released m ≡ m
unfolding released
released_free m e = rw e

-- A release changes that and nothing else, and so does a second one nothing.
pub released_as : (m : Motor) → released m ≡ with_drive m m.ended (let_go m.drive)
unfolding released
released_as m = go m.drive.held refl
  where
    go : (t : Bool) → m.drive.held ≡ t → cond t (with_drive m m.ended (let_go m.drive)) m ≡ with_drive m m.ended (let_go m.drive)
    go true e = refl
    go false e = ap (λ (d : Drive). with_drive m m.ended d) (free m.drive e)

pub released_again : (m : Motor) → released (released m) ≡ released m
released_again m = released_free (released m) (rw (released_drive m))

-- What is released moves where it was busy.
pub released_moves : (m : Motor) → moving (released m) ≡ busy m
unfolding moving
released_moves m = rw (released_drive m) (and_true (busy m))
