-- `obeying::tell_head` meets its contract. Assumes nothing.
use Rattle.commands.specs.Answers.{answer}
use Rattle.commands.specs.Changing.{changed}
use Rattle.obeying.specs.Taking.{obeyed}
use Rattle.obeying.proofs.tell_head.Goals as goal

pub returns : goal.returns
unfolding obeyed changed answer
returns c = rw (c.result_of.ensures, c.write_head_question-count.ensures.wrote.count, c.write_head_question-count.ensures.wrote.buffer, c.read_head.ensures)
