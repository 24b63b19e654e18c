-- `urqolina::urqolina_command` meets its contract. Assumes nothing.
use borrow.Author.Rules.{rules}
use Rattle.line.proofs.OrderLaws.{line_made}
use Rattle.urqolina.proofs.urqolina_command.Goals as goal

pub take_line-requires : goal.take_line-requires
take_line-requires c = (search rules, c.if-reply-lt-REPLY.false, rw c.read_line.ensures (line_made c.args.line.now))
