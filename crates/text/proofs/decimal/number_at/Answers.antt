-- `text::decimal::number_at` meets its contract. Assumes nothing.
use Rattle.std.proofs.Common.{arith, ◌≡◌, ◌-◌, drop, refl, sym, ◌∙◌, true}
use lib.ListN.{get_or}
use Rattle.text.specs.Text.{is_digit, value_from}
use Rattle.text.proofs.TextLaws.{digits_more, digits_none, digits_past, worth_more, number_counted, number_long}
use Rattle.text.proofs.decimal.number_at.Goals as goal

pub loop-i-init : goal.loop-i-init
unfolding value_from
loop-i-init c =
    let at = c.args.at in
    let z : at - at ≡ 0 = omega arith in
    (omega arith, omega arith, refl, rw z (omega arith, refl))

pub returns-then-not-is_digit : goal.returns-then-not-is_digit
returns-then-not-is_digit c =
    let l = c.loop-i in
    let s = c.args.s.now in
    let none = digits_none s l.i (omega arith) (sym c.is_digit.ensures ∙ c.if-not-is_digit.true) in
    c.counted.ensures ∙ number_counted (drop c.args.at s) l.value (l.i - c.args.at) (omega (arith, none)) l.invariant.1 l.invariant.3.1

pub returns-then-i-at-eq10 : goal.returns-then-i-at-eq10
returns-then-i-at-eq10 c =
    let l = c.loop-i in
    let s = c.args.s.now in
    number_long (drop c.args.at s) (omega (arith, digits_more s l.i (omega arith) (sym c.is_digit.ensures ∙ c.if-not-is_digit.false)))

pub loop-i-preserved : goal.loop-i-preserved
loop-i-preserved c =
    let l = c.loop-i in
    let s = c.args.s.now in
    let d : is_digit (get_or s l.i 0) ≡ true = sym c.is_digit.ensures ∙ c.if-not-is_digit.false in
    (omega (arith, digits_more s l.i (omega arith) d), omega arith, refl, rw c.digit_value.ensures (worth_more s c.args.at l.i l.value (omega arith) (omega arith) d l.invariant.3))

pub returns : goal.returns
returns c =
    let l = c.loop-i in
    let s = c.args.s.now in
    let none = digits_past s l.i (omega arith) in
    rw (c.counted-2.ensures, l.invariant.2) (number_counted (drop c.args.at s) l.value (l.i - c.args.at) (omega (arith, none)) l.invariant.1 l.invariant.3.1)
