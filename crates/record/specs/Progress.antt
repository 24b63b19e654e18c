-- How a change is written into the record of a motor, by the few bytes that it changes. Nobody need believe it: what stands then is
-- the record of the motor after the change (`drive_written` in crates/record/proofs/ProgressLaws.antt, `tick_written` in
-- crates/pulses/proofs/TickRecord.antt).
use Rattle.std.specs.Prelude.{ℕ, List, ◌∷◌, cond, eqb}
use Rattle.digits.specs.Bytes.{put}
use Rattle.digits.specs.Words.{word_bytes}
use Rattle.record.specs.declared.Drive.{Drive}
use Rattle.record.specs.declared.Motor.{Motor}
use Rattle.record.specs.Record.{place_bytes, drive_bytes, standing}

-- bytes 31 to 43: the end flags and the drive
abbrev pub flags_and_drive : ℕ → Drive → List ℕ
flags_and_drive ended d = ended ∷ drive_bytes d

-- a record with the position written anew and, where the motor's drive goes on, the fraction; where it has ended, the end flags
-- and no drive. Every other byte is as it was.
unfoldable pub progressed : List ℕ → Motor → List ℕ
progressed b m =
    cond (eqb m.drive.going 0)
    (put (put b 0 (place_bytes m.place)) 31 (flags_and_drive m.ended standing))
    (put (put b 0 (place_bytes m.place)) 34 (word_bytes 2 m.drive.fraction))
