-- `lists::lines::write_select` meets its contract. Assumes nothing.
use native.Mathlib.Omega.{arith}
use Rattle.text.specs.Text.{bytes}
use Rattle.lists.specs.Lines.{select_text}
use Rattle.lists.proofs.OutLaws.{wrote_byte}
use Rattle.lists.proofs.lines.write_select.Goals as goal

pub returns : goal.returns
unfolding select_text bytes
returns c =
    let h = c.write_head-k in
    wrote_byte _ h.ensures h.auto.out (omega (arith, h.auto.out, h.ensures.count))
