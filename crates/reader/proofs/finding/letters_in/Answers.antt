-- `reader::finding::letters_in` meets its contract. Assumes nothing.
use Rattle.std.proofs.Common.{arith, ◌≡◌, ◌≤◌, ◌<◌, true, false, refl, sym, ◌∙◌, length, take}
use Prim.Native.Nat.{suc}
use lib.ListN.{get_or}
use lib.Seq.{get_or-take, length-take-le}
use native.Mathlib.Nat.{pow-suc, pow-le-pow_right}
use native.Mathlib.Numerals.{add-one}
use Rattle.digits.specs.Words.{word}
use Rattle.form.specs.Table.{packed}
use Rattle.reader.specs.Finding.{is_letter, letters_at_front}
use Rattle.reader.proofs.LetterLaws.{letters_more, letters_end, letters_within, letter_small, packed_more}
use Rattle.reader.proofs.finding.letters_in.Goals as goal

pub loop-count-init : goal.loop-count-init
unfolding packed word
loop-count-init c = (omega arith, omega arith, refl)

pub overflow_add-letters : goal.overflow_add-letters
overflow_add-letters c =
    let l = c.loop-count in
    let s = c.args.s.now in
    let k = c.min.result in
    let long : length (take k s) ≡ k = length-take-le k s (omega (arith, c.min.ensures)) in
    let b : get_or (take k s) l.count 0 ≡ get_or s l.count 0 = get_or-take k s l.count 0 (omega (arith, long)) in
    let e : is_letter (get_or s l.count 0) ≡ true = rw b at (sym c.is_letter.ensures ∙ c.if-not-is_letter.false) in
    omega (arith, long, c.min.ensures, c.from.ensures, b, letter_small (get_or s l.count 0) e, l.invariant.1, pow-le-pow_right {n = 256} (omega arith) {i = l.count} {j = 7} (omega (arith, long, c.min.ensures)))

pub loop-count-preserved : goal.loop-count-preserved
loop-count-preserved c =
    let l = c.loop-count in
    let s = c.args.s.now in
    let k = c.min.result in
    let long : length (take k s) ≡ k = length-take-le k s (omega (arith, c.min.ensures)) in
    let b : get_or (take k s) l.count 0 ≡ get_or s l.count 0 = get_or-take k s l.count 0 (omega (arith, long)) in
    let e : is_letter (get_or s l.count 0) ≡ true = rw b at (sym c.is_letter.ensures ∙ c.if-not-is_letter.false) in
    let m : suc l.count ≤ letters_at_front s = letters_more s l.count l.invariant.0 e in
    let small : get_or s l.count 0 < 256 = letter_small (get_or s l.count 0) e in
    let in-line : l.count < length s = omega (arith, letters_within s) in (
      rw (add-one l.count) m,
      rw (add-one l.count, pow-suc 256 l.count, c.from.ensures, b) (omega (arith, l.invariant.1)),
      rw (add-one l.count, packed_more s l.count in-line, c.from.ensures, b, l.invariant.2),
    )

pub returns-then-not-is_letter : goal.returns-then-not-is_letter
returns-then-not-is_letter c =
    let l = c.loop-count in
    let s = c.args.s.now in
    let k = c.min.result in
    let long : length (take k s) ≡ k = length-take-le k s (omega (arith, c.min.ensures)) in
    let b : get_or (take k s) l.count 0 ≡ get_or s l.count 0 = get_or-take k s l.count 0 (omega (arith, long)) in
    let e : is_letter (get_or s l.count 0) ≡ false = rw b at (sym c.is_letter.ensures ∙ c.if-not-is_letter.true) in
    let m : letters_at_front s ≡ l.count = letters_end s l.count l.invariant.0 e in
    (omega (arith, long, c.min.ensures), omega (arith, letters_within s), l.invariant.2)

pub returns : goal.returns
returns c =
    let l = c.loop-count in
    let s = c.args.s.now in
    let k = c.min.result in
    let long : length (take k s) ≡ k = length-take-le k s (omega (arith, c.min.ensures)) in
    let all : l.count ≡ k = omega (arith, long) in
    rw (long, ← all) (omega (arith, c.min.ensures, letters_within s), omega (arith, letters_within s), l.invariant.2)
