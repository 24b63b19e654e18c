-- `urqolina::ticking::drive_channel` meets its contract. Assumes nothing.
use Rattle.motor.proofs.MovingLaws.{moving_busy}
use Rattle.pulses.specs.Ticks.{tick_count}
use Rattle.pulses.proofs.TickRecord.{tick_written}
use Rattle.pulses.proofs.TickSound.{tick_sound}
use Rattle.table.specs.Layout.{motor_at}
use Rattle.table.proofs.TableLaws.{motor_sound_in}
use Rattle.table.proofs.KeptLaws.{read_back}
use Rattle.urqolina.proofs.ticking.drive_channel.Goals as goal

pub put_ticked-requires : goal.put_ticked-requires
put_ticked-requires c =
    let t = c.args.t.now in
    let x = c.args.c in
    let m = motor_at t x in
    record {
      whole = (c.requires.0, c.requires.1, moving_busy m c.requires.3);
      motor_ticked = (rw (c.tick-after.ensures, c.motor_at-m.ensures, ← read_back t x c.requires.2 c.fits-t) (tick_written m c.requires.3), rw (c.tick-after.ensures, c.motor_at-m.ensures) (tick_sound m (motor_sound_in t x c.requires.2)));
    }

pub returns : goal.returns
unfolding tick_count
returns c =
    record {
      t_after = rw (c.put_ticked.ensures, c.tick-after.ensures, c.motor_at-m.ensures);
      pulses_after = rw (c.put_at.ensures, c.count_of.ensures, c.tick-after.ensures, c.motor_at-m.ensures);
    }
