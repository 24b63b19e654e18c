-- `jobs::texts::write_waited` meets its contract. Assumes nothing.
use Rattle.std.proofs.Common.{◌++◌}
use Rattle.text.specs.Text.{Wrote}
use Rattle.jobs.specs.Texts.{plain_text, net_texts}
use Rattle.jobs.proofs.texts.write_waited.Given as goal

abbrev pub invariant-loop-c : goal.invariant-loop-c
invariant-loop-c l = Wrote l.fn.out l.out (plain_text l.outcome ++ net_texts l.nets l.c) l.n
