-- How the code holds the table of forms: by the words, each as one number, and by the rows, each by its place among them. A row
-- is found by its word's number, and a word has one form or two, as `SPDHx` and `SPDHxd`.
use Rattle.std.specs.Prelude.{◌≡◌, ℕ, List, [], ◌∷◌, reverse, Bool, true, false, ◌||◌, cond, length, take, drop, eqb, ltb, Option, Some, None}
use Rattle.text.specs.Text.{same}
use Rattle.digits.specs.Words.{word}
use Rattle.line.specs.declared.Fields.{Fields}
use Rattle.line.specs.declared.Field.{Field}
use Rattle.line.specs.declared.Field.TheVariants.{Never}
use Rattle.line.specs.declared.Order.{Order}
use Rattle.line.specs.Forms.{Row, forms, those}

-- the letters of a word as one number, the last one lowest
unfoldable pub packed : List ℕ → ℕ
packed t = word (reverse t)

-- the rows whose word has these letters
unfoldable pub rows_with : ℕ → List Row → List Row
rows_with k rs = those (λ r. eqb (packed r.word) k) rs

-- a text is the word of one of the rows
unfoldable pub is_word : List Row → List ℕ → Bool
is_word [] t = false
is_word (r ∷ rs) t = same t r.word || is_word rs t

-- the rows whose word an earlier row has
unfoldable pub repeated : List Row → List Row → List Row
repeated earlier [] = []
repeated earlier (r ∷ rs) = cond (is_word earlier r.word) (r ∷ repeated earlier rs) (repeated (r ∷ earlier) rs)

-- the rows of a word from its first form on, or from its second
unfoldable pub rows_by : Bool → ℕ → List Row
rows_by false k = rows_with k forms
rows_by true k = rows_with k (repeated [] forms)

-- the fields of the first of some rows
abbrev pub fields_by : List Row → List Field
fields_by [] = Never ∷ []
fields_by (r ∷ rs) = r.fields

-- the order of the first of some rows, or else another
abbrev pub order_by : List Row → Fields → Option Order → Option Order
order_by [] f other = other
order_by (r ∷ rs) f other = Some (r.order f)

-- as many rows as there are
unfoldable pub row_count : ℕ
row_count = length forms

-- the rows from a number on; none where there is no number
abbrev pub rows_from : Option ℕ → List Row
rows_from (Some n) = drop n forms
rows_from None = []

-- a number is one of a row
abbrev pub is_row : Option ℕ → Bool
is_row (Some n) = ltb n row_count
is_row None = true

-- o is the number of the first of some rows, counted from 0 in the order of the forms; of none there is no number
pub record Numbers (o : Option ℕ) (rs : List Row) : Type 0 where
  pub row : take 1 (rows_from o) ≡ take 1 rs
  pub most : is_row o ≡ true
