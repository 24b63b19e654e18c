-- `line::field_reading::switches_at` meets its contract. Assumes nothing.
use Rattle.std.proofs.Common.{rules, ◌≡◌, ◌≤◌, ◌+◌, length, sym, ◌∙◌}
use mathlib.Core.Path.{ap}
use mathlib.Core.Bool.{and-false}
use Prim.Native.Char.{code}
use borrow.Author.Tests.{eq-eqb, ne_eqb}
use Rattle.line.proofs.ReadLaws.{byte_past, some_if, none_if}
use Rattle.line.specs.Shapes.{byte_at, four_of, read_four, read_zero_three, read_fields}
use Rattle.line.proofs.field_reading.switches_at.Goals as goal

pub returns-in_err-first : goal.returns-in_err-first
unfolding read_fields read_four
returns-in_err-first c = λ f.
    let a = c.args in
    let few = none_if _ (four_of a.s.now a.at, a.at + 4) (sym c.four_at.ensures ∙ c.in_err-first.was) in
    rw (c.from_residual.ensures, few)

pub returns-in_err-get : goal.returns-in_err-get
unfolding read_fields read_four read_zero_three
returns-in_err-get c = λ f.
    let a = c.args in
    let one = some_if _ (four_of a.s.now a.at, a.at + 4) (c.in_ok-first.first, c.in_ok-first.middle) (sym c.four_at.ensures ∙ c.in_ok-first.was) in
    let middle : a.at + 4 ≡ c.in_ok-first.middle = ap (λ p. p.1) one.1 in
    let past : length a.s.now ≤ c.in_ok-first.middle = search rules in
    rw (c.from_residual-in_err-get.ensures, one.0, middle, byte_past a.s.now c.in_ok-first.middle past, and-false)

pub returns-in_err-second : goal.returns-in_err-second
unfolding read_fields read_four read_zero_three
returns-in_err-second c = λ f.
    let a = c.args in
    let m = c.in_ok-first.middle in
    let one = some_if _ (four_of a.s.now a.at, a.at + 4) (c.in_ok-first.first, m) (sym c.four_at.ensures ∙ c.in_ok-first.was) in
    let middle : a.at + 4 ≡ m = ap (λ p. p.1) one.1 in
    let few = none_if _ (four_of a.s.now m, m + 4) (sym c.four_at-then-branch-eq48.ensures ∙ c.in_err-second.was) in
    rw (c.from_residual-in_err-second.ensures, one.0, middle, few)

pub returns-in_ok-second : goal.returns-in_ok-second
unfolding read_fields read_four read_zero_three
returns-in_ok-second c = λ f.
    let a = c.args in
    let m = c.in_ok-first.middle in
    let one = some_if _ (four_of a.s.now a.at, a.at + 4) (c.in_ok-first.first, m) (sym c.four_at.ensures ∙ c.in_ok-first.was) in
    let middle : a.at + 4 ≡ m = ap (λ p. p.1) one.1 in
    let two = some_if _ (four_of a.s.now m, m + 4) (c.in_ok-second.second, c.in_ok-second.end) (sym c.four_at-then-branch-eq48.ensures ∙ c.in_ok-second.was) in
    let b : byte_at a.s.now m ≡ c.in_ok-get.field-0.now = search rules in
    let zero : byte_at a.s.now m ≡ code "0" = b ∙ c.if-branch-eq48.true in
    rw (← ap (λ p. p.0) one.1, ← ap (λ p. p.0) two.1, ← ap (λ p. p.1) two.1, one.0, middle, two.0, eq-eqb _ _ zero)

pub returns-else-branch-eq48 : goal.returns-else-branch-eq48
unfolding read_fields read_four read_zero_three
returns-else-branch-eq48 c = λ f.
    let a = c.args in
    let m = c.in_ok-first.middle in
    let one = some_if _ (four_of a.s.now a.at, a.at + 4) (c.in_ok-first.first, m) (sym c.four_at.ensures ∙ c.in_ok-first.was) in
    let middle : a.at + 4 ≡ m = ap (λ p. p.1) one.1 in
    let b : byte_at a.s.now m ≡ c.in_ok-get.field-0.now = search rules in
    let other : byte_at a.s.now m ≡ code "0" → ⊥ = rw b c.if-branch-eq48.false in
    rw (one.0, middle, ne_eqb _ _ other, and-false)
