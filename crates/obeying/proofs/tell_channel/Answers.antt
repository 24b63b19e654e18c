-- `obeying::tell_channel` meets its contract. Assumes nothing.
use Rattle.commands.specs.Answers.{answer}
use Rattle.commands.specs.Changing.{changed}
use Rattle.obeying.specs.Taking.{obeyed}
use Rattle.obeying.proofs.TakingLaws.{setup_sound}
use Rattle.table.proofs.TableLaws.{sound_motor_at}
use Rattle.obeying.proofs.tell_channel.Goals as goal

pub write_question-count-requires : goal.write_question-count-requires
write_question-count-requires c =
    record {
      in_bounds = c.requires.1;
      x_bound = c.requires.2;
      setup_value = rw c.motor_at.ensures (setup_sound _ (sound_motor_at _ _ c.requires.0 c.requires.2));
    }

pub returns : goal.returns
unfolding obeyed changed answer
returns c = rw (c.result_of.ensures, c.write_question-count.ensures.wrote.count, c.write_question-count.ensures.wrote.buffer, c.motor_at.ensures, c.read_head-h.ensures)
