-- `commands::changing::change` meets its contract. Assumes nothing.
use Rattle.commands.proofs.ChannelLaws.{named, named_channel}
use Rattle.orders.specs.Values.{value_in_range}
use Rattle.table.proofs.TableLaws.{sound_sealed}
use Rattle.commands.proofs.changing.change.Goals as goal

pub make_start-requires : goal.make_start-requires
unfolding named value_in_range
make_start-requires c =
    let told = c.in-Go.is in
    (rw told at (named_channel _ c.requires.1), rw told at c.requires.2, sound_sealed _ c.requires.0 c.fits-t)

pub make_stop-requires : goal.make_stop-requires
unfolding named
make_stop-requires c = (c.requires.0, rw c.in-Stop.is at (named_channel _ c.requires.1))

pub make_speed-requires : goal.make_speed-requires
unfolding named value_in_range
make_speed-requires c =
    let told = c.in-ChangeSpeed.is in
    (rw told at (named_channel _ c.requires.1), rw told at c.requires.2, sound_sealed _ c.requires.0 c.fits-t)

pub make_setting-requires : goal.make_setting-requires
unfolding named value_in_range
make_setting-requires c =
    let told = c.in-Set.is in
    (rw told at (named_channel _ c.requires.1), rw told at c.requires.2, sound_sealed _ c.requires.0 c.fits-t)
