-- To compute a script down to numbers and bytes, a statement says `unfolding computing_script`: it opens every definition that is
-- otherwise shut. It says nothing itself.
use Rattle.running.specs.Computing.{computing_running}
use Rattle.script.specs.Output.{printed, bench}
use Rattle.script.specs.Stream.{byte_read, end_read, streamed}

unfoldable pub computing_script : Unit {0}
unfolding computing_running printed bench byte_read end_read streamed
computing_script = tt
