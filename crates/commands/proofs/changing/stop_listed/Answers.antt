-- `commands::changing::stop_listed` meets its contract. Assumes nothing.
use mathlib.Core.Path.{◌≡◌, sym, ◌∙◌}
use mathlib.Core.Bool.{true, false}
use Rattle.digits.specs.Bytes.{put}
use Rattle.record.specs.Record.{record_of, standing}
use Rattle.record.specs.Progress.{flags_and_drive}
use Rattle.record.proofs.ProgressLaws.{drive_written}
use Rattle.record.proofs.RoundTrip.{record_length}
use Rattle.motor.specs.Sound.{busy}
use Rattle.drive.specs.Drives.{ended_with, stopped}
use Rattle.drive.proofs.Laws.{stopped_again}
use Rattle.table.specs.Layout.{record_at, motor_at, with_motor}
use Rattle.table.proofs.SealLaws.{marked_sealed}
use Rattle.table.proofs.KeptLaws.{read_back, motor_back}
use Rattle.commands.proofs.changing.stop_listed.Goals as goal

-- What a stop writes into the record of a driving motor is the record of the stopped one, and the mark takes it out of the busy set.
pub returns-then-has : goal.returns-then-has
unfolding with_motor stopped
returns-then-has c =
    let t = c.args.t.now in
    let x = c.args.x in
    let after = ended_with c.args.flags (motor_at t x) in
    let drives : busy (motor_at t x) ≡ true = sym c.requires.listed ∙ (sym c.has.ensures ∙ c.if-has.true) in
    let written : put (record_at t x) 31 (flags_and_drive c.args.flags standing) ≡ record_of after =
    rw (← read_back t x c.requires.whole.1 c.fits-t) (drive_written (motor_at t x) c.args.flags standing) in
    rw (c.mark_at.ensures, c.put_drive.ensures, c.end_drive.ensures, drives, written)
    (marked_sealed t x (record_of after) c.told-t c.requires.whole.0 (record_length after) c.requires.whole.2)

pub returns-else-has : goal.returns-else-has
returns-else-has c =
    let t = c.args.t.now in
    let x = c.args.x in
    let stands : busy (motor_at t x) ≡ false = sym c.requires.listed ∙ (sym c.has.ensures ∙ c.if-has.false) in
    rw (stopped_again c.args.flags (motor_at t x) stands)
    (sym (motor_back t x c.requires.whole.1 c.fits-t c.told-t c.requires.whole.0 c.requires.whole.2))
