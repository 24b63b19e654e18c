-- What is written into the record of a motor is the record of the motor changed, field by field. Assumes nothing.
use mathlib.Core.Path.{◌≡◌, refl, ◌∙◌}
use mathlib.Core.List.{List, [], ◌∷◌}
use mathlib.Core.Bool.{Bool, true, false, cond}
use Prim.Native.Nat.{ℕ}
use native.Mathlib.Omega.{arith}
use lib.ListN.{length}
use lib.Dec.{eqb}
use Rattle.digits.specs.Bytes.{put, joined}
use Rattle.digits.specs.Words.{word_bytes}
use Rattle.digits.proofs.PutLaws.{put_length}
use Rattle.record.specs.declared.Drive.{Drive}
use Rattle.record.specs.declared.Motor.{Motor}
use Rattle.record.specs.Record.{place_bytes, setting_bytes, record_of, with_place, with_drive, with_fraction, let_go, standing}
use Rattle.record.specs.Progress.{flags_and_drive, progressed}

-- the motor with another fraction carried
abbrev pub carrying : Motor → ℕ → Motor
carrying m n = with_drive m m.ended (with_fraction m.drive n)

-- The position, the end flags with the drive, the direction of a drive that is held no more, and the fraction, each written by itself.
pub place_written_law : (m : Motor) (p : ℕ) → put (record_of m) 0 (place_bytes p) ≡ record_of (with_place m p)
unfolding put record_of setting_bytes joined word_bytes
place_written_law m p = refl

pub drive_written : (m : Motor) (ended : ℕ) (d : Drive) → put (record_of m) 31 (flags_and_drive ended d) ≡ record_of (with_drive m ended d)
unfolding put record_of setting_bytes joined word_bytes
drive_written m ended d = refl

pub way_written : (m : Motor) → put (record_of m) 32 (m.drive.going ∷ []) ≡ record_of (with_drive m m.ended (let_go m.drive))
unfolding put record_of setting_bytes joined word_bytes
way_written m = refl

pub fraction_written : (m : Motor) (n : ℕ) → put (record_of m) 34 (word_bytes 2 n) ≡ record_of (carrying m n)
unfolding put record_of setting_bytes joined word_bytes
fraction_written m n = refl

-- Together: of a motor whose drive has ended, and of one whose drive goes on.
pub ended_written : (m : Motor) (p ended : ℕ)
    → progressed (record_of m) (with_drive (with_place m p) ended standing) ≡ record_of (with_drive (with_place m p) ended standing)
unfolding progressed
ended_written m p ended = rw (place_written_law m p) (drive_written (with_place m p) ended standing)

pub going_written : (m : Motor) (p n : ℕ) → eqb m.drive.going 0 ≡ false
    → progressed (record_of m) (carrying (with_place m p) n) ≡ record_of (carrying (with_place m p) n)
unfolding progressed
going_written m p n d = rw (d, place_written_law m p) (fraction_written (with_place m p) n)

-- A record that is written so keeps its length.
pub drive_length : (b : List ℕ) (ended : ℕ) (d : Drive) → length b ≡ 64 → length (put b 31 (flags_and_drive ended d)) ≡ 64
unfolding joined word_bytes
drive_length b ended d e = put_length b 31 (flags_and_drive ended d) (omega arith) ∙ e

pub progressed_length : (b : List ℕ) (m : Motor) → length b ≡ 64 → length (progressed b m) ≡ 64
unfolding progressed joined word_bytes
progressed_length b m e = go (eqb m.drive.going 0)
  where
    place : length (put b 0 (place_bytes m.place)) ≡ 64
    place = put_length b 0 (place_bytes m.place) (omega arith) ∙ e

    go : (t : Bool) → length (cond t (put (put b 0 (place_bytes m.place)) 31 (flags_and_drive m.ended standing)) (put (put b 0 (place_bytes m.place)) 34 (word_bytes 2 m.drive.fraction))) ≡ 64
    go true = drive_length _ m.ended standing place
    go false = let l = place in put_length _ 34 (word_bytes 2 m.drive.fraction) (omega arith) ∙ l
