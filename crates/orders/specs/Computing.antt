-- To compute what orders say down to numbers, a statement says `unfolding computing_orders`: it opens every definition that is
-- otherwise shut. It says nothing itself.
use Rattle.drive.specs.Computing.{computing_drive}
use Rattle.orders.specs.Values.{needs_remote, value_in_range}
use Rattle.orders.specs.Settings.{with_setting}

unfoldable pub computing_orders : Unit {0}
unfolding computing_drive needs_remote value_in_range with_setting
computing_orders = tt
