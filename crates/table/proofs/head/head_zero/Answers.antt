-- `table::head::head_zero` meets its contract. Assumes nothing.
use borrow.Author.Rules.{rules}
use borrow.Author.Tests.{tests, ne_eqb}
use Prim.Native.Nat.{◌*◌}
use lib.Dec.{eqb}
use Rattle.std.proofs.lemmas.Iterator.{YieldsList-from_range}
use Rattle.std.proofs.lemmas.Iterator.Search.{all_from_yields_List}
use Rattle.digits.specs.Bytes.{part}
use Rattle.digits.specs.Words.{word}
use Rattle.table.proofs.LoopLaws.{rest_zero}
use Rattle.table.proofs.head.head_zero.Goals as goal

pub returns-then-read_at-eq0 : goal.returns-then-read_at-eq0
returns-then-read_at-eq0 c =
    let t = c.args.t.now in
    let words = all_from_yields_List (λ k. eqb (word (part t (8 * k) 8)) 0) _ _ c.all.result c.all.ensures.ran (YieldsList-from_range 1 8 7 (search rules) (search rules)) (λ x b q k. search (rules, tests)) in
    rw (rest_zero t, ← c.read_at.ensures, c.if-read_at-eq0.true) words

pub returns-else-read_at-eq0 : goal.returns-else-read_at-eq0
returns-else-read_at-eq0 c = rw (rest_zero c.args.t.now, ← c.read_at.ensures, ne_eqb _ _ c.if-read_at-eq0.false)
