-- Where a field stands, the line has not ended yet, so the place after it is within the line; and the last field ends the
-- fields. Assumes nothing.
use Rattle.std.specs.Prelude.{is_some, Some, None}
use Prim.Native.Char.{code}
use mathlib.Core.Path.{◌≡◌, refl, sym, ap, ◌∙◌}
use mathlib.Core.List.{List, [], ◌∷◌}
use mathlib.Core.Bool.{Bool, true, false, ◌&&◌, and-true, and_assoc, cond, false≢true}
use Prim.Native.Nat.{ℕ, zero, suc, ◌+◌, ◌-◌, ◌<◌, ◌≤◌}
use native.Mathlib.Omega.{arith}
use lib.Dec.{leb, eqb}
use lib.ListN.{length, take, drop, drop_of_length-le, length-drop, get_or, get_or-eq_default}
use lib.Seq.{get_or-drop, take_all}
use native.Mathlib.Nat.{add-zero}
use borrow.Author.Tests.{leb-true, leb-false, eq-eqb, ne_eqb}
use Rattle.text.specs.Text.{same, is_digit, is_hex, digits_at_front, number_at_front}
use Rattle.text.specs.declared.decimal.Digits.{Digits}
use Rattle.text.proofs.TextLaws.{between, digits_within, number_found}
use Rattle.line.specs.Shapes.{Got}
use Rattle.line.specs.Shapes.{got_if, byte_at, onward, read_question, read_letters, read_three}
use Rattle.line.specs.declared.Fields.{Fields}

-- Past the end of a line stands 0, so any other byte stands within it.
pub byte_there : (s : List ℕ) (at : ℕ) → 0 < byte_at s at → at < length s
byte_there s at h = go (leb (length s) at) refl
  where
    go : (t : Bool) → leb (length s) at ≡ t → at < length s
    go true e =
        let z : byte_at s at ≡ 0 = get_or-eq_default s 0 (leb-true (length s) at e) in
        absurd (omega arith)
    go false e = leb-false (length s) at e

pub byte_past : (s : List ℕ) (at : ℕ) → length s ≤ at → byte_at s at ≡ 0
byte_past s at h = get_or-eq_default s 0 h

-- 0 is no digit, decimal or hex.
pub digit_above : (b : ℕ) → is_digit b ≡ true → 0 < b
digit_above b e = omega (arith, (between (code "0") (code "9") b e).0)

pub hex_above : (b : ℕ) → is_hex b ≡ true → 0 < b
hex_above zero e = let z : ◌≡◌ {A = ℕ} 0 1 = cc in absurd (omega arith)
hex_above (suc b) e = omega arith

-- Digits that stand from a place on are within the line.
pub four_there : (s : List ℕ) (at : ℕ) → 4 ≤ digits_at_front (drop at s) → at + 4 ≤ length s
four_there s at h = omega (arith, digits_within (drop at s), length-drop at s)

pub number_there : (s : List ℕ) (at : ℕ) (d : Digits) → number_at_front (drop at s) ≡ Some d → at + d.count ≤ length s
number_there s at d e =
    let w = number_found (drop at s) d e in
    omega (arith, length-drop at s)

-- Nothing is read after the last field.
pub last_field : (t : Got) → t ≡ onward t (λ f to. Some (f, to))
last_field (Some (f, to)) = refl
last_field None = refl

-- The part from a place on is all that is left there.
pub rest_whole : (s : List ℕ) (at : ℕ) → take (length s - at) (drop at s) ≡ drop at s
rest_whole s at = take_all (length s - at) (drop at s) (omega (arith, length-drop at s))

-- A text of a letter at least does not stand past the end; nor does it where a byte of it is missing or another; and else it stands.
pub text_past : (s t : List ℕ) (at : ℕ) → length s ≤ at → 1 ≤ length t → same (take (length t) (drop at s)) t ≡ false
unfolding same
text_past s [] at p q = absurd (omega arith)
text_past s (b ∷ t) at p q = rw (drop_of_length-le s {i = at} p)

text_short : (t s : List ℕ) → length s < length t → same (take (length t) s) t ≡ false
unfolding same
text_short [] s h = absurd (omega arith)
text_short (b ∷ t) [] h = refl
text_short (b ∷ t) (a ∷ s) h = go (eqb a b) (text_short t s (omega arith))
  where
    go : (e : Bool) → same (take (length t) s) t ≡ false → (e && same (take (length t) s) t) ≡ false
    go true h = h
    go false h = refl

text_other : (t s : List ℕ) (k : ℕ) → k < length t → k < length s → (get_or s k 0 ≡ get_or t k 0 → ⊥) → same (take (length t) s) t ≡ false
unfolding same
text_other [] s k h l d = absurd (omega arith)
text_other (b ∷ t) [] k h l d = refl
text_other (b ∷ t) (a ∷ s) zero h l d = rw (ne_eqb a b d)
text_other (b ∷ t) (a ∷ s) (suc k) h l d = go (eqb a b) (text_other t s k (omega arith) (omega arith) d)
  where
    go : (e : Bool) → same (take (length t) s) t ≡ false → (e && same (take (length t) s) t) ≡ false
    go true h = h
    go false h = refl

text_alike : (t s : List ℕ) → length t ≤ length s → ((k : ℕ) → k < length t → get_or s k 0 ≡ get_or t k 0) → same (take (length t) s) t ≡ true
unfolding same
text_alike [] s h d = refl
text_alike (b ∷ t) [] h d = absurd (omega arith)
text_alike (b ∷ t) (a ∷ s) h d = rw (eq-eqb a b (d zero (omega arith))) (text_alike t s (omega arith) (λ k l. d (suc k) (omega arith)))

pub text_missing : (s t : List ℕ) (at k : ℕ) → k < length t → length s ≤ at + k → same (take (length t) (drop at s)) t ≡ false
text_missing s t at k h l = text_short t (drop at s) (omega (arith, length-drop at s))

pub text_within : (s t : List ℕ) (at : ℕ) → 1 ≤ length t → same (take (length t) (drop at s)) t ≡ true → at + length t ≤ length s
text_within s t at h e = go (leb (at + length t) (length s)) refl
  where
    go : (b : Bool) → leb (at + length t) (length s) ≡ b → at + length t ≤ length s
    go true q = leb-true (at + length t) (length s) q
    go false q =
        let k : length t - 1 < length t = omega arith in
        absurd (false≢true (sym (text_missing s t at (length t - 1) k (omega (arith, leb-false (at + length t) (length s) q))) ∙ e))

pub text_differs : (s t : List ℕ) (at k : ℕ) → k < length t → at + k < length s → (get_or s (at + k) 0 ≡ get_or t k 0 → ⊥)
    → same (take (length t) (drop at s)) t ≡ false
text_differs s t at k h l d = text_other t (drop at s) k h (omega (arith, length-drop at s)) (λ e. d (sym (get_or-drop at s k 0) ∙ e))

pub text_stands : (s t : List ℕ) (at : ℕ) → at + length t ≤ length s → ((k : ℕ) → k < length t → get_or s (at + k) 0 ≡ get_or t k 0)
    → same (take (length t) (drop at s)) t ≡ true
text_stands s t at h d = text_alike t (drop at s) (omega (arith, length-drop at s)) (λ k l. get_or-drop at s k 0 ∙ d k l)

-- A text of one, two or three letters stands where each of them does.
above_none : (a : ℕ) → 0 < a → eqb 0 a ≡ false
above_none a h = ne_eqb 0 a (λ e. absurd (omega (arith, e, h)))

one_stands : (a : ℕ) (t : List ℕ) → 0 < a → same (take 1 t) (a ∷ []) ≡ eqb (get_or t 0 0) a
unfolding same
one_stands a [] p = rw (above_none a p)
one_stands a (x ∷ t) p = and-true (eqb x a)

two_stand : (a b : ℕ) (t : List ℕ) → 0 < a → 0 < b → same (take 2 t) (a ∷ b ∷ []) ≡ (eqb (get_or t 0 0) a && eqb (get_or t 1 0) b)
unfolding same
two_stand a b [] p q = rw (above_none a p)
two_stand a b (x ∷ t) p q = ap (λ r. eqb x a && r) (one_stands b t q)

three_stand : (a b c : ℕ) (t : List ℕ) → 0 < a → 0 < b → 0 < c
    → same (take 3 t) (a ∷ b ∷ c ∷ []) ≡ (eqb (get_or t 0 0) a && eqb (get_or t 1 0) b && eqb (get_or t 2 0) c)
unfolding same
three_stand a b c [] p q r = rw (above_none a p)
three_stand a b c (x ∷ t) p q r = ap (λ d. eqb x a && d) (two_stand b c t q r) ∙ sym (and_assoc (eqb x a) (eqb (get_or t 0 0) b) (eqb (get_or t 1 0) c))

-- So the fields that are texts are read as one.
pub question_read : (f : Fields) (s : List ℕ) (at : ℕ) → got_if (same (take 1 (drop at s)) (code "?" ∷ [])) f (at + 1) ≡ read_question f s at
unfolding read_question
question_read f s at = rw (one_stands (code "?") (drop at s) (omega arith), get_or-drop at s 0 0, add-zero at)

pub letters_read : (a b : ℕ) (f : Fields) (s : List ℕ) (at : ℕ) → 0 < a → 0 < b
    → got_if (same (take 2 (drop at s)) (a ∷ b ∷ [])) f (at + 2) ≡ read_letters a b f s at
unfolding read_letters
letters_read a b f s at p q = rw (two_stand a b (drop at s) p q, get_or-drop at s 0 0, get_or-drop at s 1 0, add-zero at)

pub three_read : (a b c : ℕ) (f : Fields) (s : List ℕ) (at : ℕ) → 0 < a → 0 < b → 0 < c
    → got_if (same (take 3 (drop at s)) (a ∷ b ∷ c ∷ [])) f (at + 3) ≡ read_three a b c f s at
unfolding read_three
three_read a b c f s at p q r =
    rw (three_stand a b c (drop at s) p q r, get_or-drop at s 0 0, get_or-drop at s 1 0, get_or-drop at s 2 0, add-zero at)

-- Where something is there by a test, the test holds; where it is not, it does not.
pub some_if : {A : Type 0} (t : Bool) (x y : A) → cond t (Some x) None ≡ Some y → (t ≡ true) × (x ≡ y)
some_if true x y e = (refl, cc)
some_if false x y e = absurd (false≢true (ap is_some e))

pub none_if : {A : Type 0} (t : Bool) (x : A) → cond t (Some x) None ≡ None → t ≡ false
none_if true x e = absurd (false≢true (sym (ap is_some e)))
none_if false x e = refl
