-- `urqolina::ticking::tick_channel` meets its contract: a channel that does not move is left as it is. Assumes nothing.
use mathlib.Core.Path.{◌≡◌, sym, ◌∙◌}
use mathlib.Core.Bool.{false}
use Rattle.motor.specs.Sound.{moving}
use Rattle.motor.proofs.MovingLaws.{idle_still}
use Rattle.table.specs.Layout.{motor_at}
use Rattle.table.proofs.KeptLaws.{read_back}
use Rattle.urqolina.proofs.RestLaws.{idle_table, idle_count}
use Rattle.urqolina.proofs.ticking.tick_channel.Goals.{else-listed-via-then-listed+else-is_moving_at, else-listed-via-else-listed}
use Rattle.urqolina.proofs.ticking.tick_channel.Goals as goal

pub returns-else-listed : goal.returns-else-listed
returns-else-listed c =
    let t = c.args.t.now in
    let x = c.args.c in
    let still : moving (motor_at t x) ≡ false =
    elim c.else-listed.branch [
      | else-listed-via-then-listed+else-is_moving_at w ↦ sym w.is_moving_at.ensures ∙ w.if-is_moving_at.false
      | else-listed-via-else-listed w ↦ idle_still (motor_at t x) (sym c.requires.whole.2 ∙ w.if-listed.false)
    ] in
    record {
      t_after = sym (idle_table t x c.told-t c.requires.whole.0 c.requires.whole.1 (read_back t x c.requires.ready.0 c.fits-t) still);
      pulses_after = sym (idle_count c.args.pulses.now x (motor_at t x) c.told-pulses c.requires.whole.0 c.requires.ready.1 still);
    }
