-- What a tick writes into the record of a moving motor is the record of the motor after it. Assumes nothing.
use mathlib.Core.Path.{◌≡◌, sym, ◌∙◌}
use mathlib.Core.Bool.{true, false≢true}
use borrow.Author.Tests.{not-true}
use Rattle.record.specs.declared.Motor.{Motor}
use Rattle.record.specs.Record.{record_of}
use Rattle.record.specs.Progress.{progressed}
use Rattle.record.proofs.ProgressLaws.{ended_written, going_written}
use Rattle.motor.specs.Sound.{moving}
use Rattle.motor.proofs.MovingLaws.{moving_busy}
use Rattle.drive.specs.Drives.{lsend}
use Rattle.pulses.specs.declared.Ticked.{Ticked}
use Rattle.pulses.specs.Ticks.{rest, advanced, tick_motor}
use Rattle.pulses.proofs.TickLaws.{Way, rests, arrives, ends, goes, way}

pub tick_written : (m : Motor) → moving m ≡ true → progressed (record_of m) (tick_motor m).motor ≡ record_of (tick_motor m).motor
tick_written m d = go (way m)
  where
    go : {t : Ticked} → Way m t → progressed (record_of m) t.motor ≡ record_of t.motor
    go (rests r) = absurd (false≢true (sym r ∙ d))
    go (arrives d e) = ended_written m (advanced m).place 0
    go (ends d e u) = ended_written m (advanced m).place lsend
    go (goes d e u) = going_written m (advanced m).place (rest m) (not-true _ (moving_busy m d))
