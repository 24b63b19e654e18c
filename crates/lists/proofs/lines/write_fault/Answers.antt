-- `lists::lines::write_fault` meets its contract. Assumes nothing.
use Rattle.text.specs.Text.{bytes}
use Rattle.lists.specs.Lines.{total_text}
use Rattle.lists.proofs.OutLaws.{wrote_more, fault_parts}
use Rattle.lists.proofs.lines.write_fault.Goals as goal

pub returns : goal.returns
unfolding total_text bytes
returns c = rw (fault_parts c.args.number c.args.offset) (wrote_more c.write_then-k.ensures c.write_then-k.auto.out c.write_then.ensures c.write_then.auto.out)
