-- Laws of the table of forms, for the functions that hold it as a `match` on a word. Assumes nothing.
use mathlib.Core.Path.{◌≡◌, refl, sym, ◌∙◌}
use mathlib.Core.List.{List, [], ◌∷◌, ◌++◌, append-nil}
use mathlib.Core.Bool.{Bool, true, false, ◌&&◌, ◌||◌, cond, and-eq-true_iff, false≢true}
use mathlib.Core.Logic.{inl, inr}
use Prim.Native.Nat.{ℕ, zero, suc, ◌+◌, ◌-◌, ◌≤◌}
use native.Mathlib.Omega.{arith}
use lib.ListN.{drop, drop_of_length-le}
use lib.Dec.{eqb}
use types.Run.{OneOf}
use borrow.Author.Tests.{ne_eqb}
use Rattle.line.specs.Forms.{Row, forms, those}
use Rattle.form.specs.Table.{packed, rows_with, row_count}

-- a number is one of some
abbrev pub among : ℕ → List ℕ → Bool
among n [] = false
among n (k ∷ ks) = eqb n k || among n ks

-- the words of rows after some others, each once, the last row's first
abbrev pub keys_after : List (List ℕ) → List ℕ → List Row → List (List ℕ)
keys_after gs ks [] = gs
keys_after gs ks (r ∷ rs) = cond (among (packed r.word) ks) (keys_after gs ks rs) (keys_after ((packed r.word ∷ []) ∷ gs) (packed r.word ∷ ks) rs)

-- the words of rows, an arm each
abbrev pub keys : List Row → List (List ℕ)
keys rs = keys_after [] [] rs

-- all the numbers of some arms
abbrev pub flat : List (List ℕ) → List ℕ
flat [] = []
flat (g ∷ gs) = g ++ flat gs

-- What is known after the arms of a `match`, the last arm first: the number is none of theirs.
abbrev pub Rest : List (List ℕ) → ℕ → Type 0
Rest [] n = Unit {0}
Rest (g ∷ gs) n = Rest gs n × (OneOf g n → ⊥)

arm_none : (g ks : List ℕ) (n : ℕ) → (OneOf g n → ⊥) → among n ks ≡ false → among n (g ++ ks) ≡ false
arm_none [] ks n h a = a
arm_none (k ∷ []) ks n h a = rw (ne_eqb n k h, a)
arm_none (k ∷ j ∷ g) ks n h a = rw (ne_eqb n k (λ e. h (inl e))) (arm_none (j ∷ g) ks n (λ e. h (inr e)) a)

rest_none : (gs : List (List ℕ)) (n : ℕ) → Rest gs n → among n (flat gs) ≡ false
rest_none [] n r = refl
rest_none (g ∷ gs) n r = arm_none g (flat gs) n r.1 (rest_none gs n r.0)

-- every row's word is one of some
abbrev pub covered : List ℕ → List Row → Bool
covered ks [] = true
covered ks (r ∷ rs) = among (packed r.word) ks && covered ks rs

-- Letters that are none of the rows' words have no row among them, whatever rows come after.
no_word : (ks : List ℕ) (a b : List Row) (n : ℕ) → covered ks a ≡ true → among n ks ≡ false → rows_with n (a ++ b) ≡ rows_with n b
unfolding rows_with those
no_word ks [] b n h e = refl
no_word ks (r ∷ a) b n h e =
    let both = (and-eq-true_iff (among (packed r.word) ks) (covered ks a)).0 h in
    let other : eqb (packed r.word) n ≡ false = ne_eqb (packed r.word) n (λ q. false≢true (sym e ∙ (rw q at both.0))) in
    rw other (no_word ks a b n both.1 e)

-- So it is after the arms of the rows' words.
pub none_before : (a b : List Row) (n : ℕ) → covered (flat (keys a)) a ≡ true → Rest (keys a) n → rows_with n (a ++ b) ≡ rows_with n b
none_before a b n h r = no_word (flat (keys a)) a b n h (rest_none (keys a) n r)

pub none_with : (rs : List Row) (n : ℕ) → covered (flat (keys rs)) rs ≡ true → Rest (keys rs) n → rows_with n rs ≡ []
unfolding rows_with those
none_with rs n h r = rw append-nil at (none_before rs [] n h r)

-- Past the last row there is none.
pub no_rows : (n : ℕ) → row_count ≤ n → drop n forms ≡ []
unfolding row_count
no_rows n h = drop_of_length-le forms h

-- the numbers from one on, an arm each, the last first
abbrev pub arms_from : ℕ → ℕ → List (List ℕ)
arms_from from zero = []
arms_from from (suc k) = ((from + k) ∷ []) ∷ arms_from from k

-- After the arms of k numbers in a row, a number that is not below them is above them.
pub rest_above : (from k n : ℕ) → from ≤ n → Rest (arms_from from k) n → from + k ≤ n
rest_above from zero n h r = omega arith
rest_above from (suc k) n h r =
    let i : from + k ≤ n = rest_above from k n h r.0 in
    let other : n ≡ from + k → ⊥ = r.1 in
    omega arith

-- After an arm for each row from a number on there is no row.
pub rows_passed : (from n : ℕ) → from ≤ n → Rest (arms_from from (row_count - from)) n → drop n forms ≡ []
rows_passed from n h r =
    let i : from + (row_count - from) ≤ n = rest_above from (row_count - from) n h r in
    no_rows n (omega arith)
