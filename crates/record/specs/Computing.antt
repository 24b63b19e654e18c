-- To compute a record down to numbers and bytes, a statement says `unfolding computing_record`: it opens every
-- definition that is otherwise shut. It says nothing itself.
use Rattle.digits.specs.Computing.{computing_digits}
use Rattle.record.specs.Record.{motor_of, setting_bytes, record_of, fresh_motor}
use Rattle.record.specs.Progress.{progressed}

unfoldable pub computing_record : Unit {0}
unfolding computing_digits motor_of setting_bytes record_of fresh_motor progressed
computing_record = tt
