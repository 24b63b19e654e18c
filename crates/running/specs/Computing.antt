-- To compute what a line does and prints down to numbers and bytes, a statement says `unfolding computing_running`: it opens
-- every definition that is otherwise shut. It says nothing itself.
use Rattle.urqolina.specs.Computing.{computing_urqolina}
use Rattle.jobs.specs.Computing.{computing_jobs}
use Rattle.running.specs.Running.{sent, touched, waited, ticked, renewed, line_done}

unfoldable pub computing_running : Unit {0}
unfolding computing_urqolina computing_jobs sent touched waited ticked renewed line_done
computing_running = tt
