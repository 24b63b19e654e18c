-- How the row of a line is found: by the longest word that the line begins with. That this finds each form of document 01,
-- and nothing else, is proved in proofs/FindingLaws.antt: a reader who believes `order_of` need not believe this file.
use Prim.Native.Char.{code}
use Rattle.std.specs.Prelude.{ℕ, zero, suc, ◌+◌, min, List, [], ◌∷◌, Bool, true, false, ◌&&◌, ◌||◌, cond, length, take, drop, leb, eqb, Option, Some, None}
use Rattle.line.specs.declared.Fields.{Fields}
use Rattle.line.specs.declared.Order.{Order}
use Rattle.line.specs.Shapes.{Got, no_fields, read_fields}
use Rattle.line.specs.Forms.{Row, forms, first_of}
use Rattle.form.specs.Table.{packed, is_word, rows_by, fields_by, order_by}
use Rattle.form.specs.declared.Word.{Word}

-- there is a row
abbrev pub some_row : List Row → Bool
some_row [] = false
some_row (r ∷ rs) = true

-- the longest word, of n letters at most, that a line begins with
unfoldable pub longest : ℕ → List ℕ → List ℕ
longest zero s = []
longest (suc n) s = cond (is_word forms (take (suc n) s)) (take (suc n) s) (longest n s)

-- a byte that a word may have: a capital, or one of the few beside them
abbrev pub is_letter : ℕ → Bool
is_letter b = (leb (code "A") b && leb b (code "_")) || (eqb b (code "?") || eqb b (code " "))

-- how many letters stand at the front of a line
unfoldable pub letters_at_front : List ℕ → ℕ
letters_at_front [] = 0
letters_at_front (b ∷ s) = cond (is_letter b) (suc (letters_at_front s)) 0

-- how many of them are looked at, for no word has more than eight
abbrev pub letter_count : List ℕ → ℕ
letter_count s = min 8 (letters_at_front s)

-- a word and the place after it, if there are letters
abbrev pub marked : ℕ → List ℕ → Option Word
marked at [] = None
marked at (b ∷ w) = Some (record { letters = packed (b ∷ w); end = at + length (b ∷ w) })

-- the word that stands at a place of a line, if one does; none has more than eight letters
unfoldable pub word_at : List ℕ → ℕ → Option Word
word_at s at = marked at (longest 8 (drop at s))

-- what is made of fields that reach the end of the line
abbrev pub whole : (Fields → Option Order) → List ℕ → Got → Option Order
whole make s (Some (f, at)) = cond (eqb at (length s)) (make f) None
whole make s None = None

-- the order that the first of some rows makes of the fields from a place on
unfoldable pub case_by : List Row → List ℕ → ℕ → Option Order
case_by rs s at = whole (λ f. order_by rs f None) s (read_fields (fields_by rs) no_fields s at)

-- the order that a word makes, by its first form or its second, of the fields from a place on
unfoldable pub case_at : Bool → ℕ → List ℕ → ℕ → Option Order
case_at second k s at = case_by (rows_by second k) s at

-- the order that a word makes with the fields from a place on
unfoldable pub order_at : List ℕ → ℕ → Word → Option Order
order_at s at w = cond (leb (length s) 80) (first_of (case_at false w.letters s at) (case_at true w.letters s at)) None
