-- A row's stencil: for each place of a line, the bytes that may stand there in a line of that form. Two stencils that have no
-- byte in common at some place fit no line both. Assumes nothing.
use Rattle.std.specs.Prelude.{Some, None}
use mathlib.Core.Path.{◌≡◌, refl, sym, ap, ◌∙◌}
use mathlib.Core.List.{List, [], ◌∷◌, ◌++◌, map}
use mathlib.Core.Bool.{Bool, true, false, ◌&&◌, ◌||◌, cond, and-eq-true_iff, false≢true}
use Prim.Native.Char.{code}
use Prim.Native.Nat.{ℕ, suc, ◌+◌, ◌<◌, ◌≤◌}
use native.Mathlib.Omega.{arith}
use native.Mathlib.Nat.{not-suc-le-zero}
use native.Mathlib.Numerals.{add-one}
use lib.ListN.{length, take, drop, drop_of_length-le, get_or-eq_default}
use lib.Seq.{drop-cons, drop-length}
use lib.Dec.{leb, ltb, eqb}
use borrow.Author.Tests.{eqb-true, leb-true, leb-false, le-leb, lt-leb, ltb-true}
use Rattle.text.specs.Text.{same, is_digit, is_hex, digits_at_front, value_of, number_at_front}
use Rattle.line.specs.declared.Fields.{Fields}
use Rattle.line.specs.declared.Field.{Field}
use Rattle.line.specs.declared.Field.TheVariants.{Channel, Signed, Unsigned, Digit, Question, FourDigits, ZeroThree, Enable, Disable, On, Off, End, Never}
use Rattle.line.specs.Shapes.{Got}
use Rattle.line.specs.Shapes.{got_if, byte_at, read_channel, read_number, read_signed, read_digit, read_question, read_letters, read_three, read_four, read_zero_three, read_field, onward, read_fields, numbered}

-- bytes from one to another, both among them
pub record Range : Type 0 where
  pub lo : ℕ
  pub hi : ℕ

-- a byte is of a class
abbrev pub within : List Range → ℕ → Bool
within [] b = false
within (p ∷ ps) b = cond (leb p.lo b && leb b p.hi) true (within ps b)

-- one byte alone
abbrev pub just : ℕ → List Range
just b = record { lo = b; hi = b } ∷ []

abbrev pub decimals : List Range
decimals = record { lo = code "0"; hi = code "9" } ∷ []

abbrev pub hexes : List Range
hexes = record { lo = code "0"; hi = code "9" } ∷ record { lo = code "A"; hi = code "F" } ∷ []

-- what ±d begins with: a sign, or the first digit of a bare number
abbrev pub sign_or_digit : List Range
sign_or_digit = record { lo = code "0"; hi = code "9" } ∷ record { lo = code "+"; hi = code "+" } ∷ record { lo = code "-"; hi = code "-" } ∷ []

-- a line fits a stencil; one that ends there, and one that may go on
abbrev pub fits : List (List Range) → Bool → List ℕ → Bool
fits [] false s = true
fits [] true [] = true
fits [] true (b ∷ s) = false
fits (c ∷ cs) ends [] = false
fits (c ∷ cs) ends (b ∷ s) = within c b && fits cs ends s

-- no byte is of both classes
abbrev pub clear : Range → List Range → Bool
clear p [] = true
clear p (q ∷ qs) = (ltb p.hi q.lo || ltb q.hi p.lo) && clear p qs

abbrev pub disjoint : List Range → List Range → Bool
disjoint [] d = true
disjoint (p ∷ ps) d = clear p d && disjoint ps d

-- two stencils part at some place, or one ends where the other goes on
abbrev pub apart : List (List Range) → Bool → List (List Range) → Bool → Bool
apart [] a [] b = false
apart [] a (d ∷ ds) b = a
apart (c ∷ cs) a [] b = b
apart (c ∷ cs) a (d ∷ ds) b = disjoint c d || apart cs a ds b

and_false : (t : Bool) → (t && false) ≡ false
and_false true = refl
and_false false = refl

clear_not : (p : Range) (d : List Range) (b : ℕ) → clear p d ≡ true → p.lo ≤ b → b ≤ p.hi → within d b ≡ false
clear_not p [] b h l u = refl
clear_not p (q ∷ qs) b h l u =
    let both = (and-eq-true_iff (ltb p.hi q.lo || ltb q.hi p.lo) (clear p qs)).0 h in
    rw (out (ltb p.hi q.lo) refl both.0, clear_not p qs b both.1 l u)
  where
    out : (t : Bool) → ltb p.hi q.lo ≡ t → (t || ltb q.hi p.lo) ≡ true → (leb q.lo b && leb b q.hi) ≡ false
    out true e h = let i : p.hi < q.lo = ltb-true p.hi q.lo e in rw (lt-leb q.lo b (omega arith))
    out false e h = let i : q.hi < p.lo = ltb-true q.hi p.lo h in rw (lt-leb b q.hi (omega arith)) (and_false (leb q.lo b))

disjoint_not : (c d : List Range) (b : ℕ) → disjoint c d ≡ true → within c b ≡ true → within d b ≡ false
disjoint_not [] d b h w = absurd (false≢true w)
disjoint_not (p ∷ ps) d b h w =
    let both = (and-eq-true_iff (clear p d) (disjoint ps d)).0 h in
    go (leb p.lo b && leb b p.hi) refl w both.0 (disjoint_not ps d b both.1)
  where
    go : (t : Bool) → (leb p.lo b && leb b p.hi) ≡ t → cond t true (within ps b) ≡ true → clear p d ≡ true
        → (within ps b ≡ true → within d b ≡ false) → within d b ≡ false
    go true e w k later =
        let both = (and-eq-true_iff (leb p.lo b) (leb b p.hi)).0 e in
        clear_not p d b k (leb-true p.lo b both.0) (leb-true b p.hi both.1)
    go false e w k later = later w

-- No line fits both of two stencils that part.
pub apart_not : (cs : List (List Range)) (a : Bool) (ds : List (List Range)) (b : Bool) (s : List ℕ)
    → apart cs a ds b ≡ true → fits cs a s ≡ true → fits ds b s ≡ false
apart_not [] a [] b s h f = absurd (false≢true h)
apart_not [] false (d ∷ ds) b s h f = absurd (false≢true h)
apart_not [] true (d ∷ ds) b [] h f = refl
apart_not [] true (d ∷ ds) b (x ∷ s) h f = absurd (false≢true f)
apart_not (c ∷ cs) a [] false s h f = absurd (false≢true h)
apart_not (c ∷ cs) a [] true [] h f = absurd (false≢true f)
apart_not (c ∷ cs) a [] true (x ∷ s) h f = refl
apart_not (c ∷ cs) a (d ∷ ds) b [] h f = refl
apart_not (c ∷ cs) a (d ∷ ds) b (x ∷ s) h f =
    let both = (and-eq-true_iff (within c x) (fits cs a s)).0 f in
    go (disjoint c d) refl h both.0 (λ k. apart_not cs a ds b s k both.1)
  where
    go : (t : Bool) → disjoint c d ≡ t → (t || apart cs a ds b) ≡ true → within c x ≡ true
        → (apart cs a ds b ≡ true → fits ds b s ≡ false) → (within d x && fits ds b s) ≡ false
    go true e h w later = rw (disjoint_not c d x e w)
    go false e h w later = rw (later h) (and_false (within d x))

-- the bytes of a field, place by place; of a number its first
abbrev pub classes : Field → List (List Range)
classes Channel = hexes ∷ []
classes Signed = sign_or_digit ∷ []
classes Unsigned = decimals ∷ []
classes Digit = decimals ∷ []
classes Question = just (code "?") ∷ []
classes FourDigits = decimals ∷ decimals ∷ decimals ∷ decimals ∷ []
classes ZeroThree = just (code "0") ∷ decimals ∷ decimals ∷ decimals ∷ []
classes Enable = just (code "E") ∷ just (code "N") ∷ []
classes Disable = just (code "D") ∷ just (code "S") ∷ []
classes On = just (code "O") ∷ just (code "N") ∷ []
classes Off = just (code "O") ∷ just (code "F") ∷ just (code "F") ∷ []
classes End = []
classes Never = []

-- a number may go on
abbrev pub goes_on : Field → Bool
goes_on Channel = false
goes_on Signed = true
goes_on Unsigned = true
goes_on Digit = false
goes_on Question = false
goes_on FourDigits = false
goes_on ZeroThree = false
goes_on Enable = false
goes_on Disable = false
goes_on On = false
goes_on Off = false
goes_on End = false
goes_on Never = false

-- the bytes of fields, as far as a first number
abbrev pub stencil : List Field → List (List Range)
stencil [] = []
stencil (k ∷ ks) = classes k ++ cond (goes_on k) [] (stencil ks)

abbrev pub ends : List Field → Bool
ends [] = true
ends (k ∷ ks) = cond (goes_on k) false (ends ks)

-- A byte of a class at a place, and what fits after it. Past the end stands 0, which is of no class here.
byte_fits : (c : List Range) (cs : List (List Range)) (e : Bool) (s : List ℕ) (at : ℕ) → within c 0 ≡ false
    → within c (byte_at s at) ≡ true → fits cs e (drop (at + 1) s) ≡ true → fits (c ∷ cs) e (drop at s) ≡ true
byte_fits c cs e s at z w f = go (leb (length s) at) refl
  where
    go : (t : Bool) → leb (length s) at ≡ t → fits (c ∷ cs) e (drop at s) ≡ true
    go true h = absurd (false≢true (sym z ∙ (rw (get_or-eq_default s 0 {n = at} (leb-true (length s) at h)) at w)))
    go false h = rw (drop-cons s at 0 (leb-false (length s) at h), w) (rw (add-one at) at f)

-- Digits that stand from a place on are digits, one by one.
digits_first : (s : List ℕ) (at n : ℕ) → suc n ≤ digits_at_front (drop at s) → (is_digit (byte_at s at) ≡ true) × (n ≤ digits_at_front (drop (at + 1) s))
unfolding digits_at_front
digits_first s at n h = go (leb (length s) at) refl
  where
    go : (t : Bool) → leb (length s) at ≡ t → (is_digit (byte_at s at) ≡ true) × (n ≤ digits_at_front (drop (at + 1) s))
    go true e = absurd (not-suc-le-zero (rw (drop_of_length-le s {i = at} (leb-true (length s) at e)) at h))
    go false e = one (is_digit (byte_at s at)) refl (rw (drop-cons s at 0 (leb-false (length s) at e)) at h)
      where
        one : (t : Bool) → is_digit (byte_at s at) ≡ t → suc n ≤ cond (is_digit (byte_at s at)) (suc (digits_at_front (drop (suc at) s))) 0
            → (is_digit (byte_at s at) ≡ true) × (n ≤ digits_at_front (drop (at + 1) s))
        one true e h = let i : suc n ≤ suc (digits_at_front (drop (suc at) s)) = (rw e at h) in (e, rw (add-one at) (omega arith))
        one false e h = absurd (not-suc-le-zero (rw e at h))

-- A field that is there if a test holds is there where it does, and nowhere else.
place : Got → ℕ
place (Some (f, at)) = at
place None = 0

here : Got → Bool
here (Some (f, at)) = true
here None = false

got_if_law : (t : Bool) (f g : Fields) (n to : ℕ) → got_if t f n ≡ Some (g, to) → (t ≡ true) × (n ≡ to)
unfolding place here
got_if_law true f g n to e = (refl, ap place e)
got_if_law false f g n to e = absurd (false≢true (ap here e))

-- A number begins with a digit.
number_first : (minus : Bool) (f g : Fields) (s : List ℕ) (at to : ℕ) → read_number minus f s at ≡ Some (g, to) → is_digit (byte_at s at) ≡ true
unfolding read_number number_at_front here
number_first minus f g s at to e = go (leb 1 n && leb n 10) refl e
  where
    n : ℕ
    n = digits_at_front (drop at s)

    go : (t : Bool) → (leb 1 n && leb n 10) ≡ t → numbered minus f at (cond t (Some (record { value = value_of (take n (drop at s)); count = n })) None) ≡ Some (g, to)
        → is_digit (byte_at s at) ≡ true
    go true h e = (digits_first s at 0 (leb-true 1 n ((and-eq-true_iff (leb 1 n) (leb n 10)).0 h).0)).0
    go false h e = absurd (false≢true (ap here e))

digit_within : (b : ℕ) → is_digit b ≡ true → within decimals b ≡ true
digit_within b h = rw h

hex_within : (b : ℕ) → is_hex b ≡ true → within hexes b ≡ true
hex_within b h = go (is_digit b) refl h
  where
    go : (t : Bool) → is_digit b ≡ t → (t || (leb (code "A") b && leb b (code "F"))) ≡ true → within hexes b ≡ true
    go true e h = rw e
    go false e h = rw (e, h)

-- One byte that a test finds is the class of itself.
just_fits : (k : ℕ) (cs : List (List Range)) (e : Bool) (s : List ℕ) (at : ℕ) → 0 < k → eqb (byte_at s at) k ≡ true
    → fits cs e (drop (at + 1) s) ≡ true → fits (just k ∷ cs) e (drop at s) ≡ true
just_fits k cs e s at z h f =
    let b : byte_at s at ≡ k = eqb-true (byte_at s at) k h in
    byte_fits (just k) cs e s at (rw (lt-leb k 0 z)) (rw (b, le-leb k k (omega arith))) f

three_decimals : (cs : List (List Range)) (e : Bool) (s : List ℕ) (at : ℕ) → 3 ≤ digits_at_front (drop at s)
    → fits cs e (drop (at + 3) s) ≡ true → fits (decimals ∷ decimals ∷ decimals ∷ cs) e (drop at s) ≡ true
three_decimals cs e s at h f =
    let a = digits_first s at 2 h in
    let b = digits_first s (at + 1) 1 a.1 in
    let c = digits_first s (at + 1 + 1) 0 b.1 in
    let p : at + 1 + 1 + 1 ≡ at + 3 = omega arith in
    byte_fits decimals (decimals ∷ decimals ∷ cs) e s at refl (digit_within (byte_at s at) a.0)
    (byte_fits decimals (decimals ∷ cs) e s (at + 1) refl (digit_within (byte_at s (at + 1)) b.0)
    (byte_fits decimals cs e s (at + 1 + 1) refl (digit_within (byte_at s (at + 1 + 1)) c.0) (rw p f)))

letters_fit : (a b : ℕ) (f g : Fields) (s : List ℕ) (at to : ℕ) (cs : List (List Range)) (e : Bool) → 0 < a → 0 < b
    → read_letters a b f s at ≡ Some (g, to) → fits cs e (drop to s) ≡ true → fits (just a ∷ just b ∷ cs) e (drop at s) ≡ true
unfolding read_letters
letters_fit a b f g s at to cs e p q r h =
    let t = got_if_law (eqb (byte_at s at) a && eqb (byte_at s (at + 1)) b) f g (at + 2) to r in
    let both = (and-eq-true_iff (eqb (byte_at s at) a) (eqb (byte_at s (at + 1)) b)).0 t.0 in
    let n : at + 1 + 1 ≡ to = omega (arith, t.1) in
    just_fits a (just b ∷ cs) e s at p both.0 (just_fits b cs e s (at + 1) q both.1 (rw n h))

three_fit : (a b c : ℕ) (f g : Fields) (s : List ℕ) (at to : ℕ) (cs : List (List Range)) (e : Bool) → 0 < a → 0 < b → 0 < c
    → read_three a b c f s at ≡ Some (g, to) → fits cs e (drop to s) ≡ true → fits (just a ∷ just b ∷ just c ∷ cs) e (drop at s) ≡ true
unfolding read_three
three_fit a b c f g s at to cs e p q o r h =
    let x = eqb (byte_at s at) a in
    let y = eqb (byte_at s (at + 1)) b in
    let z = eqb (byte_at s (at + 2)) c in
    let t = got_if_law (x && y && z) f g (at + 3) to r in
    let last = (and-eq-true_iff (x && y) z).0 t.0 in
    let both = (and-eq-true_iff x y).0 last.0 in
    let m : at + 2 ≡ at + 1 + 1 = omega arith in
    let n : at + 1 + 1 + 1 ≡ to = omega (arith, t.1) in
    just_fits a (just b ∷ just c ∷ cs) e s at p both.0
    (just_fits b (just c ∷ cs) e s (at + 1) q both.1 (just_fits c cs e s (at + 1 + 1) o (rw m at last.1) (rw n h)))

-- A field that is read fits its bytes; what fits after it does not matter where a number may go on.
pub field_fits : (k : Field) (f g : Fields) (s : List ℕ) (at to : ℕ) (cs : List (List Range)) (e : Bool) → read_field k f s at ≡ Some (g, to)
    → fits cs e (drop to s) ≡ true → fits (classes k ++ cond (goes_on k) [] cs) (cond (goes_on k) false e) (drop at s) ≡ true
unfolding read_channel read_signed read_digit read_question read_letters read_three read_four read_zero_three here place
field_fits Channel f g s at to cs e r h =
    let t = got_if_law (is_hex (byte_at s at)) _ g (at + 1) to r in
    byte_fits hexes cs e s at refl (hex_within (byte_at s at) t.0) (rw t.1 h)
field_fits Signed f g s at to cs e r h = plus (eqb (byte_at s at) (code "+")) refl r
  where
    begins : within sign_or_digit (byte_at s at) ≡ true → fits (sign_or_digit ∷ []) false (drop at s) ≡ true
    begins w = byte_fits sign_or_digit [] false s at refl w refl

    plus : (t : Bool) → eqb (byte_at s at) (code "+") ≡ t
        → cond t (read_number false f s (at + 1)) (cond (eqb (byte_at s at) (code "-")) (read_number true f s (at + 1)) (read_number false f s at)) ≡ Some (g, to)
        → fits (sign_or_digit ∷ []) false (drop at s) ≡ true
    plus true e r = begins (rw (eqb-true (byte_at s at) (code "+") e))
    plus false e r = minus (eqb (byte_at s at) (code "-")) refl r
      where
        minus : (t : Bool) → eqb (byte_at s at) (code "-") ≡ t → cond t (read_number true f s (at + 1)) (read_number false f s at) ≡ Some (g, to)
            → fits (sign_or_digit ∷ []) false (drop at s) ≡ true
        minus true e r = begins (rw (eqb-true (byte_at s at) (code "-") e))
        minus false e r = begins (rw (number_first _ f g s at to r))
field_fits Unsigned f g s at to cs e r h = byte_fits decimals [] false s at refl (digit_within (byte_at s at) (number_first false f g s at to r)) refl
field_fits Digit f g s at to cs e r h =
    let t = got_if_law (is_digit (byte_at s at)) _ g (at + 1) to r in
    byte_fits decimals cs e s at refl (digit_within (byte_at s at) t.0) (rw t.1 h)
field_fits Question f g s at to cs e r h =
    let t = got_if_law (eqb (byte_at s at) (code "?")) f g (at + 1) to r in
    just_fits (code "?") cs e s at (omega arith) t.0 (rw t.1 h)
field_fits FourDigits f g s at to cs e r h =
    let t = got_if_law (leb 4 (digits_at_front (drop at s))) _ g (at + 4) to r in
    let a = digits_first s at 3 (leb-true 4 (digits_at_front (drop at s)) t.0) in
    let p : at + 1 + 3 ≡ to = omega (arith, t.1) in
    byte_fits decimals (decimals ∷ decimals ∷ decimals ∷ cs) e s at refl (digit_within (byte_at s at) a.0) (three_decimals cs e s (at + 1) a.1 (rw p h))
field_fits ZeroThree f g s at to cs e r h =
    let t = got_if_law (leb 4 (digits_at_front (drop at s)) && eqb (byte_at s at) (code "0")) _ g (at + 4) to r in
    let both = (and-eq-true_iff (leb 4 (digits_at_front (drop at s))) (eqb (byte_at s at) (code "0"))).0 t.0 in
    let a = digits_first s at 3 (leb-true 4 (digits_at_front (drop at s)) both.0) in
    let p : at + 1 + 3 ≡ to = omega (arith, t.1) in
    just_fits (code "0") (decimals ∷ decimals ∷ decimals ∷ cs) e s at (omega arith) both.1 (three_decimals cs e s (at + 1) a.1 (rw p h))
field_fits Enable f g s at to cs e r h = letters_fit (code "E") (code "N") f g s at to cs e (omega arith) (omega arith) r h
field_fits Disable f g s at to cs e r h = letters_fit (code "D") (code "S") f g s at to cs e (omega arith) (omega arith) r h
field_fits On f g s at to cs e r h = letters_fit (code "O") (code "N") f g s at to cs e (omega arith) (omega arith) r h
field_fits Off f g s at to cs e r h = three_fit (code "O") (code "F") (code "F") f g s at to cs e (omega arith) (omega arith) (omega arith) r h
field_fits End f g s at to cs e r h = rw (ap place r) h
field_fits Never f g s at to cs e r h = absurd (false≢true (ap here r))

-- Fields that are read to the end of a line fit their stencil.
pub fields_fit : (ks : List Field) (f g : Fields) (s : List ℕ) (at : ℕ) → read_fields ks f s at ≡ Some (g, (length s)) → fits (stencil ks) (ends ks) (drop at s) ≡ true
unfolding read_fields here place
fields_fit [] f g s at e = rw (ap place e, drop-length s)
fields_fit (k ∷ ks) f g s at e = go (read_field k f s at) refl e (λ h to. fields_fit ks h g s to)
  where
    go : (t : Got) → read_field k f s at ≡ t → onward t (λ h to. read_fields ks h s to) ≡ Some (g, (length s))
        → ((h : Fields) (to : ℕ) → read_fields ks h s to ≡ Some (g, (length s)) → fits (stencil ks) (ends ks) (drop to s) ≡ true)
        → fits (stencil (k ∷ ks)) (ends (k ∷ ks)) (drop at s) ≡ true
    go (Some (h, to)) r e later = field_fits k f h s at to (stencil ks) (ends ks) r (later h to e)
    go None r e later = absurd (false≢true (ap here e))

-- the bytes of a word
abbrev pub letters : List ℕ → List (List Range)
letters w = map just w

-- A line that begins with a word fits its letters, and what fits after it.
pub word_fits : (w s : List ℕ) (cs : List (List Range)) (e : Bool) → same (take (length w) s) w ≡ true → fits cs e (drop (length w) s) ≡ true
    → fits (letters w ++ cs) e s ≡ true
unfolding same
word_fits [] s cs e h f = f
word_fits (k ∷ w) [] cs e h f = absurd (false≢true h)
word_fits (k ∷ w) (b ∷ s) cs e h f =
    let both = (and-eq-true_iff (eqb b k) (same (take (length w) s) w)).0 h in
    rw (eqb-true b k both.0, le-leb k k (omega arith), word_fits w s cs e both.1 f)
