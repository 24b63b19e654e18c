-- Laws of words and their letters: the number of a word stands for that word alone, and the longest word is found letter by
-- letter. Assumes nothing.
use Rattle.std.specs.Prelude.{Option, Some, None, is_some}
use mathlib.Core.Path.{◌≡◌, refl, sym, ap, ◌∙◌}
use mathlib.Core.List.{List, [], ◌∷◌, ◌++◌, reverse, reverse-cons, reverse-append, reverse-reverse}
use mathlib.Core.Bool.{Bool, true, false, ◌&&◌, ◌||◌, cond, and-eq-true_iff, false≢true}
use Prim.Native.Char.{code}
use Prim.Native.Nat.{ℕ, zero, suc, ◌+◌, ◌*◌, ◌-◌, ◌/◌, ◌<◌, ◌≤◌, min}
use native.Mathlib.Nat.{add-zero, add-suc, not-suc-le-zero}
use native.Mathlib.Omega.{arith}
use lib.ListN.{length, take, drop, get_or}
use lib.Seq.{take-suc, take_all, length-take-le, get_or-take}
use lib.Dec.{eqb, ltb, leb}
use borrow.Author.Tests.{eqb-true, eq-eqb, ne_eqb, lt-ltb, ltb-true, leb-true, leb-false}
use Rattle.digits.specs.Bytes.{AllBytes}
use Rattle.digits.specs.Words.{word}
use Rattle.text.specs.Text.{same}
use Rattle.digits.proofs.PartLaws.{append_bytes, cons_bytes, none_bytes}
use Rattle.line.specs.Forms.{Row, forms, those}
use Rattle.form.specs.Table.{packed, rows_with, is_word, rows_by, rows_from, is_row, row_count, Numbers}
use Rattle.form.specs.Computing.{computing_form}
use Rattle.reader.specs.Finding.{some_row, longest, is_letter, letters_at_front, marked, letter_count}

-- Two texts that are the same are equal, and a text is the same as itself.
pub same_equal : (s t : List ℕ) → same s t ≡ true → s ≡ t
unfolding same
same_equal [] [] e = refl
same_equal [] (b ∷ t) e = absurd (false≢true e)
same_equal (a ∷ s) [] e = absurd (false≢true e)
same_equal (a ∷ s) (b ∷ t) e =
    let both = (and-eq-true_iff (eqb a b) (same s t)).0 e in
    rw (eqb-true a b both.0, same_equal s t both.1)

pub same_itself : (s : List ℕ) → same s s ≡ true
unfolding same
same_itself [] = refl
same_itself (a ∷ s) = rw (eq-eqb a a refl, same_itself s)

-- the last number of a list is none but zero
topped : List ℕ → Bool
topped [] = true
topped (x ∷ []) = ltb 0 x
topped (x ∷ y ∷ s) = topped (y ∷ s)

topped_more : (x : ℕ) (s : List ℕ) → topped (x ∷ s) ≡ true → topped s ≡ true
unfolding topped
topped_more x [] h = refl
topped_more x (y ∷ s) h = h

topped_positive : (x : ℕ) (s : List ℕ) → topped (x ∷ s) ≡ true → 0 < word (x ∷ s)
unfolding topped word
topped_positive x [] h = let p : 0 < x = ltb-true 0 x h in omega arith
topped_positive x (y ∷ s) h = let p : 0 < word (y ∷ s) = topped_positive y s h in omega arith

topped_end : (s : List ℕ) (x : ℕ) → 0 < x → topped (s ++ (x ∷ [])) ≡ true
unfolding topped
topped_end [] x h = lt-ltb 0 x h
topped_end (y ∷ []) x h = lt-ltb 0 x h
topped_end (y ∷ z ∷ s) x h = topped_end (z ∷ s) x h

-- Bytes are known from the number that they stand for, where the highest is not zero.
word_one : (a b : List ℕ) → AllBytes a → AllBytes b → topped a ≡ true → topped b ≡ true → word a ≡ word b → a ≡ b
unfolding word
word_one [] [] f g s t e = refl
word_one [] (y ∷ b) f g s t e = let p : 0 < word (y ∷ b) = topped_positive y b t in absurd (omega arith)
word_one (x ∷ a) [] f g s t e = let p : 0 < word (x ∷ a) = topped_positive x a s in absurd (omega arith)
word_one (x ∷ a) (y ∷ b) f g s t e =
    let lx : x < 256 = f 0 in
    let ly : y < 256 = g 0 in
    let low : x ≡ y = omega arith in
    let high : word a ≡ word b = omega arith in
    rw (low, word_one a b (λ k. f (suc k)) (λ k. g (suc k)) (topped_more x a s) (topped_more y b t) high)

-- a text of bytes whose first is not zero
pub record Lettered (t : List ℕ) : Type 0 where
  pub bytes : AllBytes t
  pub first : 0 < get_or t 0 0

reverse_bytes : (t : List ℕ) → AllBytes t → AllBytes (reverse t)
reverse_bytes [] h = none_bytes
reverse_bytes (b ∷ t) h = rw (reverse-cons b t) (append_bytes (reverse t) (b ∷ []) (reverse_bytes t (λ k. h (suc k))) (cons_bytes b [] (h 0) none_bytes))

reverse_topped : (t : List ℕ) → 0 < get_or t 0 0 → topped (reverse t) ≡ true
reverse_topped [] h = absurd (omega arith)
reverse_topped (b ∷ t) h = rw (reverse-cons b t) (topped_end (reverse t) b h)

packed_one : (t w : List ℕ) → Lettered t → Lettered w → packed w ≡ packed t → w ≡ t
unfolding packed
packed_one t w p q e =
    sym (reverse-reverse w)
    ∙ (ap reverse (word_one (reverse w) (reverse t) (reverse_bytes w q.bytes) (reverse_bytes t p.bytes) (reverse_topped w q.first) (reverse_topped t p.first) e)
    ∙ reverse-reverse t)

-- So two words have the same letters where they have the same number.
pub packed_same : (t w : List ℕ) → Lettered t → Lettered w → eqb (packed w) (packed t) ≡ same t w
packed_same t w p q = go (same t w) refl
  where
    go : (b : Bool) → same t w ≡ b → eqb (packed w) (packed t) ≡ b
    go true e = eq-eqb (packed w) (packed t) (ap packed (sym (same_equal t w e)))
    go false e = ne_eqb (packed w) (packed t) (λ h. false≢true (sym e ∙ (rw (packed_one t w p q h) (same_itself t))))

-- each number is a byte
small : List ℕ → Bool
small [] = true
small (b ∷ t) = ltb b 256 && small t

small_bytes : (t : List ℕ) → small t ≡ true → AllBytes t
unfolding small
small_bytes [] h k = none_bytes k
small_bytes (b ∷ t) h zero = ltb-true b 256 ((and-eq-true_iff (ltb b 256) (small t)).0 h).0
small_bytes (b ∷ t) h (suc k) = small_bytes t ((and-eq-true_iff (ltb b 256) (small t)).0 h).1 k

-- every row's word is of bytes, and its first letter is not zero
lettered : List Row → Bool
lettered [] = true
lettered (r ∷ rs) = (ltb 0 (get_or r.word 0 0) && small r.word) && lettered rs

forms_lettered : lettered forms ≡ true
unfolding computing_form lettered small
forms_lettered = refl

letters_of : (r : Row) (rs : List Row) → lettered (r ∷ rs) ≡ true → Lettered r.word
unfolding lettered
letters_of r rs h =
    let here = (and-eq-true_iff (ltb 0 (get_or r.word 0 0)) (small r.word)).0 ((and-eq-true_iff (ltb 0 (get_or r.word 0 0) && small r.word) (lettered rs)).0 h).0 in
    record { bytes = small_bytes r.word here.1; first = ltb-true 0 (get_or r.word 0 0) here.0 }

letters_later : (r : Row) (rs : List Row) → lettered (r ∷ rs) ≡ true → lettered rs ≡ true
unfolding lettered
letters_later r rs h = ((and-eq-true_iff (ltb 0 (get_or r.word 0 0) && small r.word) (lettered rs)).0 h).1

-- A text is a word where its number has a row.
number_word : (rs : List Row) (t : List ℕ) → lettered rs ≡ true → Lettered t → some_row (rows_with (packed t) rs) ≡ is_word rs t
unfolding rows_with those is_word
number_word [] t h p = refl
number_word (r ∷ rs) t h p = go (same t r.word) (packed_same t r.word p (letters_of r rs h)) (number_word rs t (letters_later r rs h) p)
  where
    go : (b : Bool) → eqb (packed r.word) (packed t) ≡ b → some_row (rows_with (packed t) rs) ≡ is_word rs t → some_row (rows_with (packed t) (r ∷ rs)) ≡ (b || is_word rs t)
    go true e i = rw e
    go false e i = rw e i

pub word_number : (t : List ℕ) → Lettered t → some_row (rows_with (packed t) forms) ≡ is_word forms t
word_number t p = number_word forms t forms_lettered p

-- No text that begins with a zero byte, or is empty, is a word.
no_zero : (rs : List Row) (t : List ℕ) → lettered rs ≡ true → get_or t 0 0 ≡ 0 → is_word rs t ≡ false
unfolding is_word
no_zero [] t h z = refl
no_zero (r ∷ rs) t h z = go (same t r.word) refl (no_zero rs t (letters_later r rs h) z)
  where
    go : (b : Bool) → same t r.word ≡ b → is_word rs t ≡ false → (same t r.word || is_word rs t) ≡ false
    go true e i =
        let p : 0 < get_or r.word 0 0 = (letters_of r rs h).first in
        let q : get_or r.word 0 0 ≡ 0 = (rw (same_equal t r.word e) at z) in
        absurd (omega arith)
    go false e i = rw (e, i)

-- The number of one letter more.
pub packed_more : (s : List ℕ) (n : ℕ) → n < length s → packed (take (suc n) s) ≡ 256 * packed (take n s) + get_or s n 0
unfolding packed word
packed_more s n h = rw (take-suc s n 0 h, reverse-append (take n s) (get_or s n 0 ∷ [])) (omega arith)

-- Letters past the end of a line make no longer word.
longest_past : (n : ℕ) (s : List ℕ) → length s ≤ n → longest (suc n) s ≡ longest n s
unfolding longest
longest_past zero [] h = rw (no_zero forms [] forms_lettered refl)
longest_past zero (b ∷ s) h = absurd (omega arith)
longest_past (suc n) s h = rw (take_all (suc (suc n)) s (omega arith), take_all (suc n) s h) (go (is_word forms s))
  where
    go : (b : Bool) → cond b s (cond b s (longest n s)) ≡ cond b s (longest n s)
    go true = refl
    go false = refl

pub longest_whole : (k : ℕ) (s : List ℕ) → longest (length s + k) s ≡ longest (length s) s
longest_whole zero s = rw (add-zero (length s))
longest_whole (suc k) s = rw (add-suc (length s) k) (longest_past (length s + k) s (omega arith) ∙ longest_whole k s)

-- every letter of a text, and of every row's word, is one
only_letters : List ℕ → Bool
only_letters [] = true
only_letters (b ∷ t) = is_letter b && only_letters t

spelled : List Row → Bool
spelled [] = true
spelled (r ∷ rs) = only_letters r.word && spelled rs

forms_spelled : spelled forms ≡ true
unfolding computing_form spelled only_letters
forms_spelled = refl

-- A text of letters is no longer than the letters at the front of the line that begins with it.
front_letters : (n : ℕ) (s : List ℕ) → only_letters (take n s) ≡ true → n ≤ length s → n ≤ letters_at_front s
unfolding only_letters letters_at_front
front_letters zero s h l = omega arith
front_letters (suc n) [] h l = absurd (omega arith)
front_letters (suc n) (b ∷ s) h l =
    let both = (and-eq-true_iff (is_letter b) (only_letters (take n s))).0 h in
    let i : n ≤ letters_at_front s = front_letters n s both.1 (omega arith) in
    rw both.0 (omega arith)

word_spelled : (rs : List Row) (t : List ℕ) → spelled rs ≡ true → is_word rs t ≡ true → only_letters t ≡ true
unfolding spelled is_word
word_spelled [] t h e = absurd (false≢true e)
word_spelled (r ∷ rs) t h e =
    let both = (and-eq-true_iff (only_letters r.word) (spelled rs)).0 h in
    go (same t r.word) refl e both.0 (word_spelled rs t both.1)
  where
    go : (b : Bool) → same t r.word ≡ b → (b || is_word rs t) ≡ true → only_letters r.word ≡ true → (is_word rs t ≡ true → only_letters t ≡ true) → only_letters t ≡ true
    go true p e o later = rw (same_equal t r.word p) o
    go false p e o later = later e

-- Where the letters at the front of a line have ended, no longer text is a word.
longest_beyond : (n : ℕ) (s : List ℕ) → letters_at_front s ≤ n → longest (suc n) s ≡ longest n s
unfolding longest
longest_beyond n s h = go (leb (length s) n) refl (is_word forms (take (suc n) s)) refl
  where
    go : (a : Bool) → leb (length s) n ≡ a → (b : Bool) → is_word forms (take (suc n) s) ≡ b → longest (suc n) s ≡ longest n s
    go true p b q = longest_past n s (leb-true (length s) n p)
    go false p true q =
        let l : n < length s = leb-false (length s) n p in
        let i : suc n ≤ letters_at_front s = front_letters (suc n) s (word_spelled forms (take (suc n) s) forms_spelled q) (omega arith) in
        absurd (omega arith)
    go false p false q = rw q

longest_letters : (k : ℕ) (s : List ℕ) → longest (letters_at_front s + k) s ≡ longest (letters_at_front s) s
longest_letters zero s = rw (add-zero (letters_at_front s))
longest_letters (suc k) s = rw (add-suc (letters_at_front s) k) (longest_beyond (letters_at_front s + k) s (omega arith) ∙ longest_letters k s)

-- The letters that are looked at are enough to find the longest word.
pub count_enough : (t : List ℕ) → longest (letter_count t) t ≡ longest 8 t
count_enough t = go (leb (letters_at_front t) 8) refl
  where
    n : ℕ
    n = letters_at_front t

    go : (c : Bool) → leb n 8 ≡ c → longest (letter_count t) t ≡ longest 8 t
    go true f =
        let h : n ≤ 8 = leb-true n 8 f in
        let m : min 8 n ≡ n = omega arith in
        let w : n + (8 - n) ≡ 8 = omega arith in
        rw m (sym (longest_letters (8 - n) t) ∙ (rw w))
    go false f =
        let h : 8 < n = leb-false n 8 f in
        let m : min 8 n ≡ 8 = omega arith in
        rw m

-- Letters stand within the line, and the first of them is not zero.
pub letters_within : (s : List ℕ) → letters_at_front s ≤ length s
unfolding letters_at_front
letters_within [] = omega arith
letters_within (b ∷ s) = go (is_letter b) (letters_within s)
  where
    go : (t : Bool) → letters_at_front s ≤ length s → cond t (suc (letters_at_front s)) 0 ≤ suc (length s)
    go true h = omega arith
    go false h = omega arith

letter_above : (b : ℕ) → is_letter b ≡ true → 0 < b
letter_above zero e = absurd (false≢true e)
letter_above (suc b) e = omega arith

letters_first : (s : List ℕ) → 0 < letters_at_front s → 0 < get_or s 0 0
unfolding letters_at_front
letters_first [] h = h
letters_first (b ∷ s) h = go (is_letter b) refl h
  where
    go : (t : Bool) → is_letter b ≡ t → 0 < cond t (suc (letters_at_front s)) 0 → 0 < b
    go true e h = letter_above b e
    go false e h = absurd (not-suc-le-zero h)

-- What the number of letters looked at says of them.
pub count_within : (t : List ℕ) (n : ℕ) → n < letter_count t → (n < 8) × (n < length t) × (0 < get_or t 0 0)
count_within t n h =
    let w : letters_at_front t ≤ length t = letters_within t in
    (omega arith, omega arith, letters_first t (omega arith))

-- One letter more, or none.
pub letters_more : (s : List ℕ) (n : ℕ) → n ≤ letters_at_front s → is_letter (get_or s n 0) ≡ true → suc n ≤ letters_at_front s
unfolding letters_at_front
letters_more [] n h e = absurd (false≢true e)
letters_more (b ∷ s) zero h e = rw e (omega arith)
letters_more (b ∷ s) (suc n) h e = go (is_letter b) refl h (letters_more s n)
  where
    go : (t : Bool) → is_letter b ≡ t → suc n ≤ cond t (suc (letters_at_front s)) 0 → (n ≤ letters_at_front s → is_letter (get_or s n 0) ≡ true → suc n ≤ letters_at_front s)
        → suc (suc n) ≤ cond t (suc (letters_at_front s)) 0
    go true p h later = let i : suc n ≤ letters_at_front s = later (omega arith) e in omega arith
    go false p h later = absurd (not-suc-le-zero h)

pub letters_end : (s : List ℕ) (n : ℕ) → n ≤ letters_at_front s → is_letter (get_or s n 0) ≡ false → letters_at_front s ≡ n
unfolding letters_at_front
letters_end [] n h e = omega arith
letters_end (b ∷ s) zero h e = rw e
letters_end (b ∷ s) (suc n) h e = go (is_letter b) refl h (letters_end s n)
  where
    go : (t : Bool) → is_letter b ≡ t → suc n ≤ cond t (suc (letters_at_front s)) 0 → (n ≤ letters_at_front s → is_letter (get_or s n 0) ≡ false → letters_at_front s ≡ n)
        → cond t (suc (letters_at_front s)) 0 ≡ suc n
    go true p h later = ap suc (later (omega arith) e)
    go false p h later = absurd (not-suc-le-zero h)

-- Where the line has ended stands no word.
pub longest_none : longest 8 [] ≡ []
unfolding computing_form longest
longest_none = refl

-- The letters at the front of a line are bytes.
pub letter_small : (b : ℕ) → is_letter b ≡ true → b < 256
letter_small b e = go (leb b (code "_")) refl (eqb b (code "?")) refl (eqb b (code " ")) refl e
  where
    go : (u : Bool) → leb b (code "_") ≡ u → (q : Bool) → eqb b (code "?") ≡ q → (w : Bool) → eqb b (code " ") ≡ w → ((leb (code "A") b && u) || (q || w)) ≡ true → b < 256
    go true p q f w g h = omega (arith, leb-true b (code "_") p)
    go false p true f w g h = omega (arith, eqb-true b (code "?") f)
    go false p false f true g h = omega (arith, eqb-true b (code " ") g)
    go false p false f false g h = absurd (none (leb (code "A") b) h)
      where
        none : (v : Bool) → ((v && false) || false) ≡ true → ⊥
        none true h = false≢true h
        none false h = false≢true h

front_bytes : (n : ℕ) (s : List ℕ) → n ≤ letters_at_front s → AllBytes (take n s)
unfolding letters_at_front
front_bytes zero s h = none_bytes
front_bytes (suc n) [] h = none_bytes
front_bytes (suc n) (b ∷ s) h = go (is_letter b) refl h (front_bytes n s)
  where
    go : (t : Bool) → is_letter b ≡ t → suc n ≤ cond t (suc (letters_at_front s)) 0 → (n ≤ letters_at_front s → AllBytes (take n s)) → AllBytes (b ∷ take n s)
    go true e h later = cons_bytes b (take n s) (letter_small b e) (later (omega arith))
    go false e h later = absurd (not-suc-le-zero h)

-- Letters that are looked at are a word where their number has a row.
letters_word : (t : List ℕ) (n : ℕ) → n < letter_count t → some_row (rows_with (packed (take (suc n) t)) forms) ≡ is_word forms (take (suc n) t)
letters_word t n h =
    let i = count_within t n h in
    word_number (take (suc n) t) (record { bytes = front_bytes (suc n) t (omega arith); first = rw (get_or-take (suc n) t 0 0 (omega arith)) i.2 })

-- The letters that are left are the longest word where they are one, and else the longest is among fewer.
pub word_here : (t : List ℕ) (at n : ℕ) → 0 < n → n ≤ letter_count t → some_row (rows_with (packed (take n t)) forms) ≡ true
    → Some (record { letters = packed (take n t); end = at + n }) ≡ marked at (longest n t)
unfolding longest
word_here t at zero z h e = absurd (omega arith)
word_here [] at (suc n) z h e = absurd (omega (arith, h, letters_within []))
word_here (b ∷ t) at (suc n) z h e =
    let i = count_within (b ∷ t) n (omega arith) in
    let l : length (b ∷ take n t) ≡ suc n = length-take-le (suc n) (b ∷ t) (omega arith) in
    let w : is_word forms (take (suc n) (b ∷ t)) ≡ true = sym (letters_word (b ∷ t) n (omega arith)) ∙ e in
    rw (w, l)

pub word_shorter : (t : List ℕ) (n : ℕ) → 0 < n → n ≤ letter_count t → some_row (rows_with (packed (take n t)) forms) ≡ false → longest n t ≡ longest (n - 1) t
unfolding longest
word_shorter t zero z h e = absurd (omega arith)
word_shorter t (suc n) z h e =
    let w : is_word forms (take (suc n) t) ≡ false = sym (letters_word t n (omega arith)) ∙ e in
    let fewer : suc n - 1 ≡ n = omega arith in
    rw (w, fewer)

-- The number of one letter fewer.
pub packed_fewer : (t : List ℕ) (n : ℕ) → 0 < n → n ≤ letter_count t → packed (take n t) / 256 ≡ packed (take (n - 1) t)
packed_fewer t zero z h = absurd (omega arith)
packed_fewer t (suc n) z h =
    let i = count_within t n (omega arith) in
    let b : get_or t n 0 < 256 = rw (get_or-take (suc n) t n 0 (omega arith)) at (front_bytes (suc n) t (omega arith) n) in
    let fewer : suc n - 1 ≡ n = omega arith in
    rw (packed_more t n i.1, fewer) (omega arith)

-- Rows dropped from a list leave some where it has more.
some_left : (n : ℕ) (rs : List Row) → n < length rs → some_row (drop n rs) ≡ true
some_left n [] h = absurd (omega arith)
some_left zero (r ∷ rs) h = refl
some_left (suc n) (r ∷ rs) h = some_left n rs (omega arith)

some_first : (rs : List Row) → some_row (take 1 rs) ≡ some_row rs
some_first [] = refl
some_first (r ∷ rs) = refl

-- Letters are a word where they have a row.
pub number_row : (o : Option ℕ) (k : ℕ) → Numbers o (rows_by false k) → is_some o ≡ some_row (rows_with k forms)
unfolding rows_by row_count
number_row o k h = present o h.most ∙ sym same_row
  where
    same_row : some_row (rows_with k forms) ≡ some_row (rows_from o)
    same_row = sym (some_first (rows_with k forms)) ∙ (ap some_row (sym h.row) ∙ some_first (rows_from o))

    present : (o : Option ℕ) → is_row o ≡ true → is_some o ≡ some_row (rows_from o)
    present (Some n) e = sym (some_left n forms (ltb-true n row_count e))
    present None e = refl
