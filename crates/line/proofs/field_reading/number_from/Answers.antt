-- `line::field_reading::number_from` meets its contract. Assumes nothing.
use Rattle.std.proofs.Common.{arith, rules, ◌≡◌, drop, Some, None}
use Rattle.text.specs.Text.{number_at_front}
use Rattle.line.proofs.ReadLaws.{number_there}
use Rattle.line.specs.Shapes.{read_number}
use Rattle.line.proofs.field_reading.number_from.Goals as goal

pub returns-in_err-n : goal.returns-in_err-n
unfolding read_number
returns-in_err-n c = λ f.
    let n : c.number_at.result ≡ None = c.in_err-n.was in
    rw (c.from_residual.ensures, ← c.number_at.ensures, n)

pub overflow_add-result : goal.overflow_add-result
overflow_add-result c =
    let a = c.args in
    let n : number_at_front (drop a.at a.s.now) ≡ Some c.in_ok-n.n = search rules in
    omega (arith, number_there a.s.now a.at c.in_ok-n.n n)

pub returns : goal.returns
unfolding read_number
returns c = λ f.
    let n : c.number_at.result ≡ Some c.in_ok-n.n = c.in_ok-n.was in
    rw (← c.number_at.ensures, n)
