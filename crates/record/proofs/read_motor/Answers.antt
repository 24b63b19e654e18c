-- `record::read_motor` meets its contract. Assumes nothing.
use Rattle.record.specs.Record.{motor_of}
use Rattle.record.proofs.read_motor.Goals as goal

pub returns : goal.returns
unfolding motor_of
returns c = cc
