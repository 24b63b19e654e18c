-- To compute what a line does down to numbers and bytes, a statement says `unfolding computing_obeying`: it opens every
-- definition that is otherwise shut. It says nothing itself.
use Rattle.commands.specs.Computing.{computing_commands}
use Rattle.obeying.specs.Taking.{refused, obeyed, taken}

unfoldable pub computing_obeying : Unit {0}
unfolding computing_commands refused obeyed taken
computing_obeying = tt
