-- `running::send` meets its contract. Assumes nothing.
use Rattle.std.proofs.Common.{◌≡◌, ap, replicate, arith}
use Rattle.urqolina.specs.Calls.{command_call}
use Rattle.running.proofs.RunLaws.{command_within}
use Rattle.running.proofs.send.Goals as goal

pub write_command-requires : goal.write_command-requires
write_command-requires c =
    let a = c.args in
    let e : c.urqolina_command-result.result ≡ (command_call a.table.now a.line.now (replicate 32 0)).result = ap (λ r. r.result) c.urqolina_command-result.ensures in
    omega (arith, command_within a.table.now a.line.now (replicate 32 0))
