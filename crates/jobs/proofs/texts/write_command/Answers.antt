-- `jobs::texts::write_command` meets its contract. Assumes nothing.
use Prim.Native.Char.{code}
use Rattle.std.proofs.Common.{◌+◌, ◌/◌, ◌%◌, take, length-take, append_assoc, arith}
use Rattle.jobs.specs.Texts.{command_text}
use Rattle.jobs.proofs.OutLaws.{plain_within, reply_within, wrote_byte, wrote_more}
use Rattle.jobs.proofs.texts.write_command.Goals as goal

pub returns : goal.returns
unfolding command_text
returns c =
    let a = c.args in
    let short = plain_within (a.outcome % 256) in
    let few = reply_within (take (a.outcome / 256) a.reply.now) in
    let spaced = wrote_byte a.out.now _ _ (code " ") c.write_decimal-n.result (omega (arith, c.write_decimal-n.ensures.count)) c.write_decimal-n.ensures in
    rw append_assoc at (wrote_more _ _ _ _ _ (c.write_decimal-n.result + 1) _ 256 (omega arith) (omega (arith, c.write_reply.ensures.count, length-take (a.outcome / 256) a.reply.now)) spaced c.write_reply.ensures)
