-- `lists::lines::write_place` meets its contract. Assumes nothing.
use native.Mathlib.Omega.{arith}
use Rattle.text.specs.Text.{bytes}
use Rattle.lists.proofs.OutLaws.{wrote_byte, place_within}
use Rattle.lists.proofs.lines.write_place.Goals as goal

pub returns : goal.returns
unfolding bytes
returns c =
    let p = c.write_signed-k in
    wrote_byte _ p.ensures p.auto.out (omega (arith, p.auto.out, p.ensures.count, place_within c.args.place))
