-- To compute what a line of a script asks for, and the texts, down to numbers and bytes, a statement says `unfolding
-- computing_jobs`: it opens every definition that is otherwise shut. It says nothing itself.
use Rattle.text.specs.Computing.{computing_text}
use Rattle.jobs.specs.Jobs.{lines_of, touch_of, wait_of, card_of, lettered, job_of}
use Rattle.jobs.specs.Texts.{command_text, nets_after, net_text, waited_text}
use Rattle.jobs.specs.Holding.{kept}

unfoldable pub computing_jobs : Unit {0}
unfolding computing_text lines_of touch_of wait_of card_of lettered job_of command_text nets_after net_text waited_text kept
computing_jobs = tt
