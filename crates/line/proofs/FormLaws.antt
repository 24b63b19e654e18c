-- Each form is taken, and no line has two forms. Assumes nothing.
use Rattle.std.specs.Prelude.{Option, Some, None}
use mathlib.Core.Path.{◌≡◌, refl, sym, ap, ◌∙◌}
use mathlib.Core.List.{List, [], ◌∷◌, ◌++◌, map}
use mathlib.Core.Bool.{Bool, true, false, ◌&&◌, cond, and-eq-true_iff, false≢true}
use Prim.Native.Nat.{ℕ, ◌≤◌}
use native.Mathlib.Omega.{arith}
use lib.ListN.{length, take, drop}
use lib.Dec.{eqb}
use borrow.Author.Tests.{eqb-true, le-leb}
use Rattle.text.specs.Text.{same, bytes}
use Rattle.line.specs.declared.Fields.{Fields}
use Rattle.line.specs.declared.Written.{Written}
use Rattle.line.specs.declared.Field.{Field}
use Rattle.line.specs.declared.Field.TheVariants.{Channel, Signed, Unsigned, Digit, Question, FourDigits, ZeroThree, Enable, Disable, On, Off, End, Never}
use Rattle.line.specs.Shapes.{Got}
use Rattle.line.specs.declared.Order.{Order}
use Rattle.line.specs.Shapes.{no_fields, with_channel, with_written, with_first, with_second, read_fields}
use Rattle.line.specs.Forms.{Row, forms, those, complete, fields_as_row, as_row, first_of, first_form, order_of}
use Rattle.line.specs.Computing.{computing_line}
use Rattle.line.proofs.StencilLaws.{Range, fits, apart, apart_not, stencil, ends, fields_fit, letters, word_fits}

-- An example of each field, with what it is worth. That of ±d is given, since it is written with a sign or bare.
abbrev pub sample : List ℕ → Field → List ℕ
sample d Channel = bytes "B"
sample d Signed = d
sample d Unsigned = bytes "0400"
sample d Digit = bytes "3"
sample d Question = bytes "?"
sample d FourDigits = bytes "1012"
sample d ZeroThree = bytes "0110"
sample d Enable = bytes "EN"
sample d Disable = bytes "DS"
sample d On = bytes "ON"
sample d Off = bytes "OFF"
sample d End = []
sample d Never = []

abbrev pub worth : Written → Field → Fields → Fields
worth n Channel f = with_channel f 11
worth n Signed f = with_written f n.minus n.digits
worth n Unsigned f = with_written f false 400
worth n Digit f = with_written f false 3
worth n Question f = f
worth n FourDigits f = with_first f (record { a = 1; b = 0; c = 1; d = 2 })
worth n ZeroThree f = with_second f (record { a = 0; b = 1; c = 1; d = 0 })
worth n Enable f = f
worth n Disable f = f
worth n On f = f
worth n Off f = f
worth n End f = f
worth n Never f = f

abbrev pub samples : List ℕ → List Field → List ℕ
samples d [] = []
samples d (k ∷ ks) = sample d k ++ samples d ks

abbrev pub worths : Written → List Field → Fields → Fields
worths n [] f = f
worths n (k ∷ ks) f = worths n ks (worth n k f)

-- The example line of every row, ±d written so, is found as that row's order, and as no earlier row's.
abbrev pub Taken : List ℕ → Written → Type 0
Taken d n = map (λ r. order_of (r.word ++ samples d r.fields)) forms ≡ map (λ r. Some (r.order (worths n r.fields no_fields))) forms

-- Each word is taken, and ±d after it with a sign and bare.
pub each_taken : Taken (bytes "-5") (record { minus = true; digits = 5 }) × Taken (bytes "0100") (record { minus = false; digits = 100 })
unfolding computing_line
each_taken = (refl, refl)

-- a row's stencil: its word, then its fields
abbrev pub outline : Row → List (List Range)
outline r = letters r.word ++ stencil r.fields

abbrev pub order? : Option Order → Bool
order? (Some o) = true
order? None = false

-- Fields that make an order reach the end of the line.
whole_fit : (r : Row) (s : List ℕ) (at : ℕ) (o : Order) → fields_as_row r s at ≡ Some o → fits (stencil r.fields) (ends r.fields) (drop at s) ≡ true
unfolding fields_as_row
whole_fit r s at o e = go (read_fields r.fields no_fields s at) refl e
  where
    go : (t : Got) → read_fields r.fields no_fields s at ≡ t → complete r.order s t ≡ Some o → fits (stencil r.fields) (ends r.fields) (drop at s) ≡ true
    go (Some (f, to)) p e = end (eqb to (length s)) refl e
      where
        end : (t : Bool) → eqb to (length s) ≡ t → cond t (Some (r.order f)) None ≡ Some o → fits (stencil r.fields) (ends r.fields) (drop at s) ≡ true
        end true q e = fields_fit r.fields no_fields f s at (p ∙ ap (λ k. Some (f, k)) (eqb-true to (length s) q))
        end false q e = absurd (false≢true (ap order? e))
    go None p e = absurd (false≢true (ap order? e))

-- A line that has a row's form fits the row's stencil.
pub row_fits : (r : Row) (s : List ℕ) (o : Order) → as_row r s ≡ Some o → fits (outline r) (ends r.fields) s ≡ true
unfolding as_row
row_fits r s o e = go (same (take (length r.word) s) r.word) refl e
  where
    go : (t : Bool) → same (take (length r.word) s) r.word ≡ t → cond t (fields_as_row r s (length r.word)) None ≡ Some o
        → fits (outline r) (ends r.fields) s ≡ true
    go true p e = word_fits r.word s (stencil r.fields) (ends r.fields) p (whole_fit r s (length r.word) o e)
    go false p e = absurd (false≢true (ap order? e))

-- So a line that fits a stencil apart from the row's has not the row's form.
pub apart_nothing : (cs : List (List Range)) (a : Bool) (r : Row) (s : List ℕ) → apart cs a (outline r) (ends r.fields) ≡ true → fits cs a s ≡ true
    → as_row r s ≡ None
apart_nothing cs a r s h f = go (as_row r s) refl
  where
    go : (t : Option Order) → as_row r s ≡ t → as_row r s ≡ None
    go (Some o) e = absurd (false≢true (sym (apart_not cs a (outline r) (ends r.fields) s h f) ∙ row_fits r s o e))
    go None e = e

-- a row is apart from others, and rows from each other
apart_from : Row → List Row → Bool
apart_from r [] = true
apart_from r (q ∷ qs) = apart (outline r) (ends r.fields) (outline q) (ends q.fields) && apart_from r qs

pairwise : List Row → Bool
pairwise [] = true
pairwise (r ∷ rs) = apart_from r rs && pairwise rs

forms_apart : pairwise forms ≡ true
unfolding computing_line pairwise apart_from
forms_apart = refl

-- the rows whose form a line has
abbrev pub forms_of : List ℕ → List Row → List Row
forms_of s rs = those (λ r. order? (as_row r s)) rs

none_other : (r : Row) (rs : List Row) (s : List ℕ) (o : Order) → apart_from r rs ≡ true → as_row r s ≡ Some o → forms_of s rs ≡ []
unfolding those apart_from
none_other r [] s o h e = refl
none_other r (q ∷ qs) s o h e =
    let both = (and-eq-true_iff (apart (outline r) (ends r.fields) (outline q) (ends q.fields)) (apart_from r qs)).0 h in
    rw (apart_nothing (outline r) (ends r.fields) q s both.0 (row_fits r s o e)) (none_other r qs s o both.1 e)

one_of : (rs : List Row) (s : List ℕ) → pairwise rs ≡ true → length (forms_of s rs) ≤ 1
unfolding those pairwise
one_of [] s h = omega arith
one_of (r ∷ rs) s h =
    let both = (and-eq-true_iff (apart_from r rs) (pairwise rs)).0 h in
    go (as_row r s) refl both.0 (one_of rs s both.1)
  where
    go : (t : Option Order) → as_row r s ≡ t → apart_from r rs ≡ true → length (forms_of s rs) ≤ 1 → length (forms_of s (r ∷ rs)) ≤ 1
    go (Some o) e h i = rw (e, none_other r rs s o h e) (omega arith)
    go None e h i = rw e i

-- No line has two forms.
pub one_form : (s : List ℕ) → length (forms_of s forms) ≤ 1
one_form s = one_of forms s forms_apart

-- a row that is apart from several is apart from each
apart_in : (q : Row) (rs : List Row) (r : Row) (post : List Row) → apart_from q (rs ++ (r ∷ post)) ≡ true
    → apart (outline q) (ends q.fields) (outline r) (ends r.fields) ≡ true
unfolding apart_from
apart_in q [] r post k = ((and-eq-true_iff (apart (outline q) (ends q.fields) (outline r) (ends r.fields)) (apart_from q post)).0 k).0
apart_in q (p ∷ ps) r post k =
    apart_in q ps r post ((and-eq-true_iff (apart (outline q) (ends q.fields) (outline p) (ends p.fields)) (apart_from q (ps ++ (r ∷ post)))).0 k).1

-- A row before it does not take a line that has a row's form.
found_in : (pre : List Row) (r : Row) (post : List Row) (s : List ℕ) (o : Order) → pairwise (pre ++ (r ∷ post)) ≡ true → as_row r s ≡ Some o
    → first_form (pre ++ (r ∷ post)) s ≡ Some o
unfolding first_form pairwise
found_in [] r post s o h e = rw e
found_in (q ∷ qs) r post s o h e =
    let both = (and-eq-true_iff (apart_from q (qs ++ (r ∷ post))) (pairwise (qs ++ (r ∷ post)))).0 h in
    go (as_row q s) refl (apart_in q qs r post both.0) (found_in qs r post s o both.1 e)
  where
    go : (t : Option Order) → as_row q s ≡ t → apart (outline q) (ends q.fields) (outline r) (ends r.fields) ≡ true → first_form (qs ++ (r ∷ post)) s ≡ Some o
        → first_of t (first_form (qs ++ (r ∷ post)) s) ≡ Some o
    go (Some x) p a f = absurd (false≢true (sym (apart_not (outline q) (ends q.fields) (outline r) (ends r.fields) s a (row_fits q s x p)) ∙ row_fits r s o e))
    go None p a f = f

-- A line that has a row's form is that row's order.
pub row_found : (pre : List Row) (r : Row) (post : List Row) (s : List ℕ) (o : Order) → pre ++ (r ∷ post) ≡ forms → length s ≤ 80 → as_row r s ≡ Some o → order_of s ≡ Some o
unfolding order_of
row_found pre r post s o w l e =
    rw (le-leb (length s) 80 l, ← w) (found_in pre r post s o (rw w forms_apart) e)
