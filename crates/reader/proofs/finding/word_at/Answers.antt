-- `reader::finding::word_at` meets its contract. Assumes nothing.
use Rattle.std.proofs.Common.{arith, rules, ◌≡◌, ◌≤◌, ◌<◌, true, false, sym, ◌∙◌, length, take, drop}
use mathlib.Core.Path.{ap}
use lib.ListN.{drop_of_length-le}
use Rattle.line.proofs.ReadLaws.{rest_whole}
use Rattle.line.specs.Forms.{forms}
use Rattle.form.specs.Table.{packed, rows_with}
use Rattle.reader.specs.Finding.{some_row, marked, letter_count, longest, word_at}
use Rattle.reader.proofs.LetterLaws.{count_enough, word_here, word_shorter, packed_fewer, longest_none}
use Rattle.reader.proofs.finding.word_at.Goals as goal

pub returns-in_default : goal.returns-in_default
unfolding word_at
returns-in_default c =
    let a = c.args in
    let past : length a.s.now < a.at = search rules in
    rw (drop_of_length-le a.s.now {i = a.at} (omega (arith, past)), longest_none)

pub loop-n-init : goal.loop-n-init
loop-n-init c =
    let t = drop c.args.at c.args.s.now in
    let rest : c.in-Some.rest.now ≡ t = c.in-Some.ensures.lookup.0.2 ∙ rest_whole c.args.s.now c.args.at in
    let l = c.letters_in-all.ensures in
    (rw rest at l.2, rw (l.0, rest) (count_enough t))

pub returns-then-is_word : goal.returns-then-is_word
unfolding word_at
returns-then-is_word c =
    let l = c.loop-n in
    let a = c.args in
    let t = drop a.at a.s.now in
    let rest : c.in-Some.rest.now ≡ t = c.in-Some.ensures.lookup.0.2 ∙ rest_whole c.args.s.now c.args.at in
    let here : l.n ≤ letter_count c.in-Some.rest.now = omega (arith, c.letters_in-all.ensures.0, l.auto.n) in
    let few : l.n ≤ letter_count t = rw rest at here in
    let e : some_row (rows_with (packed (take l.n t)) forms) ≡ true = rw (← l.invariant.0, ← c.is_word.ensures) c.if-is_word.true in
    rw l.invariant.0 (word_here t a.at l.n (omega arith) few e ∙ ap (marked a.at) l.invariant.1)

pub loop-n-preserved : goal.loop-n-preserved
loop-n-preserved c =
    let l = c.loop-n in
    let a = c.args in
    let t = drop a.at a.s.now in
    let rest : c.in-Some.rest.now ≡ t = c.in-Some.ensures.lookup.0.2 ∙ rest_whole c.args.s.now c.args.at in
    let here : l.n ≤ letter_count c.in-Some.rest.now = omega (arith, c.letters_in-all.ensures.0, l.auto.n) in
    let few : l.n ≤ letter_count t = rw rest at here in
    let e : some_row (rows_with (packed (take l.n t)) forms) ≡ false = rw (← l.invariant.0, ← c.is_word.ensures) c.if-is_word.false in (
      rw l.invariant.0 (packed_fewer t l.n (omega arith) few),
      sym (word_shorter t l.n (omega arith) few e) ∙ l.invariant.1,
    )

pub returns : goal.returns
unfolding word_at longest
returns c =
    let l = c.loop-n in
    let a = c.args in
    let z : l.n ≡ 0 = omega arith in
    rw (← l.invariant.1, z)
