-- The longest word finds each form and nothing else: `order_at` after `word_at` is `order_of`. Assumes nothing.
use Rattle.std.specs.Prelude.{Option, Some, None}
use mathlib.Core.Path.{◌≡◌, refl, sym, ap, ◌∙◌}
use mathlib.Core.List.{List, [], ◌∷◌, map, append-nil, head-eq_of_cons-eq, tail-eq_of_cons-eq}
use mathlib.Core.Bool.{Bool, true, false, not, ◌||◌, cond, false≢true}
use Prim.Native.Nat.{ℕ, zero, suc, ◌+◌, ◌-◌, ◌<◌, ◌≤◌}
use native.Mathlib.Nat.{zero-add}
use native.Mathlib.Omega.{arith}
use lib.ListN.{length, take, drop}
use lib.Seq.{take_all, length-take-le}
use lib.Dec.{leb}
use borrow.Author.Tests.{leb-true, leb-false}
use Rattle.text.specs.Text.{same}
use Rattle.line.specs.declared.Order.{Order}
use Rattle.line.specs.Shapes.{Got}
use Rattle.line.specs.Shapes.{no_fields, read_fields}
use Rattle.line.specs.Forms.{Row, forms, those, complete, fields_as_row, as_row, first_of, first_form, order_of}
use Rattle.line.proofs.StencilLaws.{fits, apart, ends, letters, word_fits}
use Rattle.line.proofs.FormLaws.{outline, apart_nothing}
use Rattle.form.specs.declared.Word.{Word}
use Rattle.form.specs.Table.{packed, is_word, rows_by, rows_from, Numbers}
use Rattle.form.specs.Computing.{computing_form}
use Rattle.reader.specs.Finding.{longest, marked, word_at, whole, case_by, case_at, order_at}
use Rattle.reader.proofs.LetterLaws.{same_equal, same_itself, longest_whole}

-- what holds of every row
Every : (Row → Type 0) → List Row → Type 0
Every P [] = Unit {0}
Every P (r ∷ rs) = P r × Every P rs

every_map : {A : Type 0} (F G : Row → A) (rs : List Row) → map F rs ≡ map G rs → Every (λ r. F r ≡ G r) rs
unfolding Every
every_map F G [] e = tt
every_map F G (r ∷ rs) e = (head-eq_of_cons-eq e, every_map F G rs (tail-eq_of_cons-eq e))

-- the row of a word, with what holds of it
row_of : (P : Row → Type 0) (rs : List Row) (t : List ℕ) → Every P rs → is_word rs t ≡ true → (r : Row) × (t ≡ r.word) × P r
unfolding Every is_word
row_of P [] t h e = absurd (false≢true e)
row_of P (r ∷ rs) t h e = go (same t r.word) refl e (row_of P rs t h.1)
  where
    go : (b : Bool) → same t r.word ≡ b → (b || is_word rs t) ≡ true → (is_word rs t ≡ true → (r : Row) × (t ≡ r.word) × P r) → (r : Row) × (t ≡ r.word) × P r
    go true p e later = (r, same_equal t r.word p, h.0)
    go false p e later = later e

-- a line with nothing found later
first_nothing : (a : Option Order) → first_of a None ≡ a
first_nothing (Some o) = refl
first_nothing None = refl

-- the rows whose words have n letters at most, and those that a line may have that begins with a word
abbrev below : ℕ → List Row → List Row
below n rs = those (λ r. leb (length r.word) n) rs

abbrev like : List ℕ → List Row → List Row
like w rs = those (λ r. not (apart (letters w) false (outline r) (ends r.fields))) rs

narrow : (w s : List ℕ) (rs : List Row) → same (take (length w) s) w ≡ true → first_form rs s ≡ first_form (like w rs) s
unfolding first_form those
narrow w s [] h = refl
narrow w s (r ∷ rs) h = go (apart (letters w) false (outline r) (ends r.fields)) refl (narrow w s rs h)
  where
    begins : fits (letters w) false s ≡ true
    begins = (rw (append-nil (letters w)) at (word_fits w s [] false h refl))

    go : (t : Bool) → apart (letters w) false (outline r) (ends r.fields) ≡ t → first_form rs s ≡ first_form (like w rs) s
        → first_form (r ∷ rs) s ≡ first_form (like w (r ∷ rs)) s
    go true e i = rw (e, apart_nothing (letters w) false r s e begins) i
    go false e i = rw (e, i)

-- A row does not count where its word does not stand.
no_word : (r : Row) (s : List ℕ) → same (take (length r.word) s) r.word ≡ false → as_row r s ≡ None
unfolding as_row
no_word r s e = rw e

-- Words of one letter more add nothing where none of them stands.
shorter : (rs : List Row) (s : List ℕ) (n : ℕ) → is_word rs (take (suc n) s) ≡ false → first_form (below (suc n) rs) s ≡ first_form (below n rs) s
unfolding first_form those is_word
shorter [] s n h = refl
shorter (r ∷ rs) s n h = head (same (take (suc n) s) r.word) refl h (shorter rs s n)
  where
    -- the row itself, by the number of its letters
    by_length : (a b : Bool) → leb (length r.word) (suc n) ≡ a → leb (length r.word) n ≡ b → same (take (suc n) s) r.word ≡ false
        → first_form (below (suc n) rs) s ≡ first_form (below n rs) s → first_form (below (suc n) (r ∷ rs)) s ≡ first_form (below n (r ∷ rs)) s
    by_length true true p q e i = rw (p, q, i)
    by_length true false p q e i =
        let l : length r.word ≤ suc n = leb-true (length r.word) (suc n) p in
        let m : n < length r.word = leb-false (length r.word) n q in
        let k : length r.word ≡ suc n = omega arith in
        rw (p, q, no_word r s (rw k e)) i
    by_length false true p q e i =
        let l : length r.word ≤ n = leb-true (length r.word) n q in
        let m : suc n < length r.word = leb-false (length r.word) (suc n) p in
        absurd (omega arith)
    by_length false false p q e i = rw (p, q) i

    head : (t : Bool) → same (take (suc n) s) r.word ≡ t → (t || is_word rs (take (suc n) s)) ≡ false
        → (is_word rs (take (suc n) s) ≡ false → first_form (below (suc n) rs) s ≡ first_form (below n rs) s)
        → first_form (below (suc n) (r ∷ rs)) s ≡ first_form (below n (r ∷ rs)) s
    head true e h later = absurd (false≢true (sym h))
    head false e h later = by_length (leb (length r.word) (suc n)) (leb (length r.word) n) refl refl e (later h)

-- Words that are longer than the line do not stand.
within_line : (rs : List Row) (s : List ℕ) (n : ℕ) → length s ≤ n → first_form rs s ≡ first_form (below n rs) s
unfolding first_form those
within_line [] s n h = refl
within_line (r ∷ rs) s n h = go (leb (length r.word) n) refl (within_line rs s n h)
  where
    absent : (t : Bool) → n < length r.word → same (take (length r.word) s) r.word ≡ t → t ≡ false
    absent true l e =
        let k : length s ≡ length r.word = ap length (sym (take_all (length r.word) s (omega arith)) ∙ same_equal (take (length r.word) s) r.word e) in
        absurd (omega arith)
    absent false l e = refl

    go : (t : Bool) → leb (length r.word) n ≡ t → first_form rs s ≡ first_form (below n rs) s → first_form (r ∷ rs) s ≡ first_form (below n (r ∷ rs)) s
    go true e i = rw (e, i)
    go false e i =
        let l : n < length r.word = leb-false (length r.word) n e in
        rw (e, no_word r s (absent (same (take (length r.word) s) r.word) l refl)) i

-- A row whose word stands makes the order that the code makes of it.
row_case : (r : Row) (rs : List Row) (w s : List ℕ) → r.word ≡ w → same (take (length w) s) w ≡ true → as_row r s ≡ case_by (r ∷ rs) s (length w)
unfolding as_row fields_as_row case_by
row_case r rs w s e h = rw (e, h) (go (read_fields r.fields no_fields s (length w)))
  where
    go : (t : Got) → complete r.order s t ≡ whole (λ f. Some (r.order f)) s t
    go (Some (f, at)) = refl
    go None = refl

-- What no line has makes no order.
pub never : (s : List ℕ) (at : ℕ) → case_by [] s at ≡ None
unfolding read_fields case_by
never s at = refl

-- what the code answers for a word at the front of a line
abbrev answer : List ℕ → List ℕ → Option Order
answer s w = first_of (case_at false (packed w) s (length w)) (case_at true (packed w) s (length w))

-- One or two rows of a word that stands make the orders of its forms.
rows_answer : (rs : List Row) (w s : List ℕ) → length rs ≤ 2 → Every (λ r. r.word ≡ w) rs
    → same (take (length w) s) w ≡ true → first_form rs s ≡ first_of (case_by rs s (length w)) (case_by (drop 1 rs) s (length w))
unfolding first_form Every
rows_answer [] w s l e h = rw (never s (length w))
rows_answer (r ∷ []) w s l e h = rw (row_case r [] w s e.0 h, never s (length w))
rows_answer (r ∷ q ∷ []) w s l e h =
    rw (row_case r (q ∷ []) w s e.0 h, row_case q [] w s e.1.0 h, first_nothing (case_by (q ∷ []) s (length w)))
rows_answer (a ∷ b ∷ c ∷ rs) w s l e h = absurd (omega arith)

-- What is computed over the table, for each row's word: the rows that a line may have which begins with it, of no longer words,
-- are the rows of that word; they are one or two, the second of them by itself too.
record Alike (r : Row) : Type 0 where
  rows : like r.word (below (length r.word) forms) ≡ rows_by false (packed r.word)
  second : rows_by true (packed r.word) ≡ drop 1 (rows_by false (packed r.word))
  few : length (rows_by false (packed r.word)) ≤ 2
  words : Every (λ q. q.word ≡ r.word) (rows_by false (packed r.word))

abbrev rows_of : Row → List Row
rows_of r = rows_by false (packed r.word)

every_alike : (rs : List Row) → map (λ r. like r.word (below (length r.word) forms)) rs ≡ map rows_of rs
    → map (λ r. rows_by true (packed r.word)) rs ≡ map (λ r. drop 1 (rows_of r)) rs
    → map (λ r. leb (length (rows_of r)) 2) rs ≡ map (λ r. true) rs
    → map (λ r. map (λ q. q.word) (rows_of r)) rs ≡ map (λ r. map (λ q. r.word) (rows_of r)) rs → Every Alike rs
unfolding Every
every_alike [] a b c e = tt
every_alike (r ∷ rs) a b c e =
    let one : Alike r =
    record {
      rows = head-eq_of_cons-eq a;
      second = head-eq_of_cons-eq b;
      few = leb-true (length (rows_of r)) 2 (head-eq_of_cons-eq c);
      words = every_map (λ q. q.word) (λ q. r.word) (rows_of r) (head-eq_of_cons-eq e);
    } in
    (one, every_alike rs (tail-eq_of_cons-eq a) (tail-eq_of_cons-eq b) (tail-eq_of_cons-eq c) (tail-eq_of_cons-eq e))

forms_alike : Every Alike forms
unfolding computing_form
forms_alike = every_alike forms refl refl refl refl

-- The word of a row, where it stands and no longer one counts.
row_answer : (r : Row) (s : List ℕ) → Alike r → same (take (length r.word) s) r.word ≡ true
    → first_form (below (length r.word) forms) s ≡ answer s r.word
unfolding case_at
row_answer r s k h =
    let n = length r.word in
    narrow r.word s (below n forms) h
    ∙ (rw k.rows (rows_answer (rows_of r) r.word s k.few k.words h)
    ∙ ap (λ (rs : List Row). first_of (case_by (rows_of r) s n) (case_by rs s n)) (sym k.second))

no_case : (second : Bool) (s : List ℕ) (at : ℕ) → case_at second 0 s at ≡ None
unfolding computing_form case_by case_at
no_case false s at = refl
no_case true s at = refl

-- Without letters there is no order, whatever the place.
pub no_order : (s : List ℕ) (at : ℕ) (w : Word) → w.letters ≡ 0 → order_at s at w ≡ None
unfolding order_at
no_order s at w e = rw (e, no_case false s at, no_case true s at) (either (leb (length s) 80))
  where
    either : (t : Bool) → ◌≡◌ {A = Option Order} (cond t None None) None
    either true = refl
    either false = refl

-- Where no word stands there is no order.
none_answer : (s : List ℕ) → first_form (below 0 forms) s ≡ answer s []
unfolding computing_form case_by case_at
none_answer s = refl

-- The longest word of n letters at most decides among the rows of such words.
longest_answer : (n : ℕ) (s : List ℕ) → n ≤ length s → first_form (below n forms) s ≡ answer s (longest n s)
unfolding longest
longest_answer zero s h = none_answer s
longest_answer (suc n) s h = go (is_word forms (take (suc n) s)) refl (longest_answer n s (omega arith))
  where
    l : length (take (suc n) s) ≡ suc n
    l = length-take-le (suc n) s h

    hit : (r : Row) → take (suc n) s ≡ r.word → Alike r → first_form (below (suc n) forms) s ≡ answer s (take (suc n) s)
    hit r e k =
        let m : length r.word ≡ suc n = sym (ap length e) ∙ l in
        let b : same (take (length r.word) s) r.word ≡ true = rw (m, e) (same_itself r.word) in
        rw (e, ← m) (row_answer r s k b)

    go : (t : Bool) → is_word forms (take (suc n) s) ≡ t → first_form (below n forms) s ≡ answer s (longest n s)
        → first_form (below (suc n) forms) s ≡ answer s (cond t (take (suc n) s) (longest n s))
    go true e i =
        let f = row_of Alike forms (take (suc n) s) forms_alike e in
        hit f.0 f.1 f.2
    go false e i = shorter forms s n e ∙ i

forms_below : below 8 forms ≡ forms
unfolding computing_form
forms_below = refl

-- No word has more than eight letters, nor more than the line.
eight : (s : List ℕ) → first_form forms s ≡ answer s (longest 8 s)
eight s = go (leb (length s) 8) refl
  where
    go : (t : Bool) → leb (length s) 8 ≡ t → first_form forms s ≡ answer s (longest 8 s)
    go true e =
        let h : length s ≤ 8 = leb-true (length s) 8 e in
        let k : length s + (8 - length s) ≡ 8 = omega arith in
        within_line forms s (length s) (omega arith)
        ∙ (longest_answer (length s) s (omega arith)
        ∙ ap (answer s) (sym (longest_whole (8 - length s) s) ∙ (rw k)))
    go false e = rw (← forms_below) (longest_answer 8 s (omega (arith, leb-false (length s) 8 e)))

-- What rows make is what the first of them makes.
case_first : (rs : List Row) (s : List ℕ) (at : ℕ) → case_by (take 1 rs) s at ≡ case_by rs s at
unfolding case_by
case_first [] s at = refl
case_first (r ∷ rs) s at = refl

-- So a row by its number makes what the rows make whose first it is.
pub numbered_case : (o : Option ℕ) (rs : List Row) (s : List ℕ) (at : ℕ) → Numbers o rs → case_by (rows_from o) s at ≡ case_by rs s at
numbered_case o rs s at h = sym (case_first (rows_from o) s at) ∙ (ap (λ (q : List Row). case_by q s at) h.row ∙ case_first rs s at)

-- the order that a word makes with the fields after it, if there is a word
abbrev pub ordered : List ℕ → Option Word → Option Order
ordered s (Some w) = order_at s w.end w
ordered s None = None

-- A line is the order that its longest word makes with the fields after it, for every list of bytes, of every length.
pub order_found : (s : List ℕ) → ordered s (word_at s 0) ≡ order_of s
unfolding order_at word_at order_of computing_form
order_found s = rw (eight s) (go (longest 8 s))
  where
    either : (t : Bool) → ◌≡◌ {A = Option Order} None (cond t None None)
    either true = refl
    either false = refl

    go : (w : List ℕ) → ordered s (marked 0 w) ≡ cond (leb (length s) 80) (answer s w) None
    go [] = rw (no_case false s 0, no_case true s 0) (either (leb (length s) 80))
    go (b ∷ w) = rw (zero-add (length (b ∷ w)))
