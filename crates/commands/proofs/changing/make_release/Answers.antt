-- `commands::changing::make_release` meets its contract. Assumes nothing.
use mathlib.Core.Path.{◌≡◌, sym}
use mathlib.Core.Bool.{Bool, true, false, cond, false≢true}
use Rattle.digits.specs.Bytes.{put}
use Rattle.record.specs.declared.Motor.{Motor}
use Rattle.record.specs.Record.{record_of, with_drive, let_go}
use Rattle.record.specs.Progress.{flags_and_drive}
use Rattle.record.proofs.ProgressLaws.{drive_written}
use Rattle.drive.specs.Drives.{released}
use Rattle.motor.specs.Sound.{sound_motor}
use Rattle.drive.proofs.Laws.{released_free, released_drive}
use Rattle.drive.proofs.KeptSound.{released_sound}
use Rattle.table.specs.Layout.{record_at, motor_at}
use Rattle.table.proofs.TableLaws.{motor_sound_in}
use Rattle.table.proofs.KeptLaws.{read_back, motor_back, motor_unmarked}
use Rattle.commands.proofs.changing.make_release.Goals as goal

-- What a release writes into the record of a held motor is the record of the released one.
release_written : (m : Motor) → m.drive.held ≡ true
    → put (record_of m) 31 (flags_and_drive (released m).ended (released m).drive) ≡ record_of (released m)
unfolding released
release_written m d = go m.drive.held d
  where
    go : (t : Bool) → t ≡ true → let n = cond t (with_drive m m.ended (let_go m.drive)) m in
        put (record_of m) 31 (flags_and_drive n.ended n.drive) ≡ record_of n
    go true e = drive_written m m.ended (let_go m.drive)
    go false e = absurd (false≢true e)

pub returns-then-m : goal.returns-then-m
returns-then-m c =
    let t = c.args.t.now in
    let x = c.args.x in
    let held : (motor_at t x).drive.held ≡ true = rw (← c.motor_at-m.ensures) c.if-m.true in
    let after = released (motor_at t x) in
    let sound : sound_motor (motor_at t x) ≡ true = motor_sound_in t x c.requires.1 in
    let written : put (record_at t x) 31 (flags_and_drive after.ended after.drive) ≡ record_of after =
    rw (← read_back t x c.requires.1 c.fits-t) (release_written (motor_at t x) held) in
    rw (c.put_drive.ensures, c.release.ensures, c.motor_at-m.ensures, written)
    (motor_unmarked t x after c.told-t c.requires.0 c.requires.2 (released_sound (motor_at t x) sound) (rw (released_drive (motor_at t x))))

pub returns-else-m : goal.returns-else-m
returns-else-m c =
    let t = c.args.t.now in
    let x = c.args.x in
    let free : (motor_at t x).drive.held ≡ false = rw (← c.motor_at-m.ensures) c.if-m.false in
    rw (released_free (motor_at t x) free)
    (sym (motor_back t x c.requires.1 c.fits-t c.told-t c.requires.0 c.requires.2))
