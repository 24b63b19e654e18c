-- `jobs::nets::add_counts` meets its contract. Assumes nothing.
use Rattle.std.proofs.Common.{◌≡◌, sym, add-one, arith, length, get_or}
use Rattle.digits.specs.Places.{origin}
use Rattle.std.proofs.lemmas.List.{get_or_default}
use Rattle.jobs.proofs.NetLaws.{count_at, up_to_none, up_to_all, up_to_next, up_to_more}
use Rattle.jobs.proofs.nets.add_counts.Goals as goal

pub loop-c-init : goal.loop-c-init
loop-c-init c = sym (up_to_none _ _)

pub added-requires : goal.added-requires
added-requires c =
    let a = c.args in
    let n : get_or c.loop-c.nets c.loop-c.c 0 ≡ get_or a.nets.now c.loop-c.c origin =
    rw (c.loop-c.invariant, up_to_next) (get_or_default a.nets.now c.loop-c.c 0 origin (omega arith)) in
    let p : c.place_of.result ≡ count_at a.pulses.now c.loop-c.c = rw (c.place_of.ensures, c.read_at.ensures) in
    rw (n, p) (omega (arith, c.requires.0 c.loop-c.c, c.requires.1 c.loop-c.c))

pub loop-c-preserved : goal.loop-c-preserved
loop-c-preserved c =
    let a = c.args in
    rw (c.added.ensures, c.place_of.ensures, c.read_at.ensures, c.loop-c.invariant, up_to_next, add-one c.loop-c.c)
    (up_to_more c.loop-c.c a.nets.now a.pulses.now (omega arith))

pub returns : goal.returns
returns c =
    let a = c.args in
    let e : c.loop-c.c ≡ length a.nets.now = omega arith in
    rw (c.loop-c.invariant, e) (up_to_all a.nets.now a.pulses.now)
