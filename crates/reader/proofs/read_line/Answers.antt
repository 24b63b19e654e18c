-- `reader::read_line` meets its contract: the longest word finds each form and nothing else. Assumes nothing.
use Rattle.std.proofs.Common.{◌≡◌, Some, None, sym, ◌∙◌}
use Rattle.reader.specs.Finding.{word_at}
use Rattle.reader.proofs.FindingLaws.{order_found}
use Rattle.reader.proofs.read_line.Goals as goal

pub returns-in_err-w : goal.returns-in_err-w
returns-in_err-w c =
    let s = c.args.line.now in
    let told : c.word.result ≡ word_at s 0 = rw (c.word.ensures, c.open-r.ensures.0, c.open-r.ensures.1) in
    let none : c.word.result ≡ None = c.in_err-w.was in
    rw c.from_residual.ensures (rw (sym told ∙ none) at (order_found s))

pub returns : goal.returns
returns c =
    let s = c.args.line.now in
    let told : c.word.result ≡ word_at s 0 = rw (c.word.ensures, c.open-r.ensures.0, c.open-r.ensures.1) in
    let some : c.word.result ≡ Some c.in_ok-w.w = c.in_ok-w.was in
    rw (c.order.ensures, c.past.ensures.0, c.past.ensures.1, c.open-r.ensures.0) (rw (sym told ∙ some) at (order_found s))
