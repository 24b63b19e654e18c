-- To compute the four calls down to numbers and bytes, a statement says `unfolding computing_urqolina`: it opens every
-- definition that is otherwise shut. It says nothing itself.
use Rattle.pulses.specs.Computing.{computing_pulses}
use Rattle.line.specs.Computing.{computing_line}
use Rattle.obeying.specs.Computing.{computing_obeying}
use Rattle.urqolina.specs.Calls.{fresh_call, command_call, reading_call, tick_call}

unfoldable pub computing_urqolina : Unit {0}
unfolding computing_pulses computing_line computing_obeying fresh_call command_call reading_call tick_call
computing_urqolina = tt
