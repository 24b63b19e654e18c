-- `lists::listing::write_list` meets its contract. Assumes nothing.
use Prim.Native.Nat.{◌-◌}
use Rattle.lists.proofs.ListLaws.{Going}
use Rattle.lists.proofs.listing.write_list.Given as goal

abbrev pub invariant-loop : goal.invariant-loop
invariant-loop l = Going l.list l.fn.out l.out l.n l.reached (10000 - l.counter)
