use Rattle.std.proofs.Common.{arith, length-take}
use Rattle.lists.proofs.OutLaws.{wrote_fits}
use Rattle.scanlist.proofs.main.Goals as goal

pub slice_bounds-out-end : goal.slice_bounds-out-end
slice_bounds-out-end c = wrote_fits c.write_list-k.ensures

pub slice_bounds-write_all-end : goal.slice_bounds-write_all-end
slice_bounds-write_all-end c =
    let fits = wrote_fits c.write_list-k.ensures in rw length-take (omega arith)
