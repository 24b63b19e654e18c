-- What a field without fault has. Assumes nothing.
use mathlib.Core.Path.{◌≡◌, refl, sym, ◌∙◌}
use mathlib.Core.List.{List}
use mathlib.Core.Bool.{Bool, true, false, ◌||◌, not, cond, true≢false}
use Prim.Native.Nat.{ℕ, ◌+◌, ◌-◌, ◌≤◌, ◌<◌}
use native.Mathlib.Omega.{arith}
use lib.Dec.{ltb, eqb}
use lib.ListN.{length}
use borrow.Author.Tests.{ltb-true, ltb-false, eqb-true, eq-eqb, ne_eqb, lt-ltb, le-ltb}
use Rattle.std.specs.Prelude.{None, Some, Ok}
use Rattle.steps.specs.declared.Cause.TheVariants.{CutShort, TagOrOrder, WrongLength}
use Rattle.steps.specs.Fields.{tag_at, length_at, ended, is_cut, value_size, frame_fault, framed, frame_at}

-- a field that is not cut short is there up to its last byte
pub uncut : (s : List ℕ) (at : ℕ) → is_cut s at ≡ false → at + 3 + length_at s at ≤ length s
unfolding is_cut
uncut s at e = go (ltb (length s) (at + 3)) (ltb (length s) (at + 3 + length_at s at)) refl e
  where
    go : (t u : Bool) → ltb (length s) (at + 3 + length_at s at) ≡ u → (t || u) ≡ false → at + 3 + length_at s at ≤ length s
    go true u h z = absurd (true≢false z)
    go false true h z = absurd (true≢false z)
    go false false h z = ltb-false (length s) (at + 3 + length_at s at) h

-- as the code asks it
pub cut_asked : (n at k : ℕ) → at + 3 ≤ n → ltb (n - at - 3) k ≡ (ltb n (at + 3) || ltb n (at + 3 + k))
cut_asked n at k h = rw (le-ltb n (at + 3) h) (go (ltb (n - at - 3) k) refl)
  where
    go : (t : Bool) → ltb (n - at - 3) k ≡ t → t ≡ ltb n (at + 3 + k)
    go true e = sym (lt-ltb n (at + 3 + k) (omega (arith, ltb-true (n - at - 3) k e)))
    go false e = sym (le-ltb n (at + 3 + k) (omega (arith, ltb-false (n - at - 3) k e)))

-- a field that is good has one of the two tags, and all the bytes of its value
pub good : (a b : ℕ) (s : List ℕ) (at tag : ℕ) → Ok tag ≡ frame_at a b s at
    → (tag ≡ tag_at s at) × ((eqb tag a || eqb tag b) ≡ true) × (at + 3 + value_size tag ≤ length s)
unfolding frame_fault
good a b s at tag e = go (ended s at) (is_cut s at) refl (eqb (tag_at s at) a || eqb (tag_at s at) b) refl (eqb (length_at s at) (value_size (tag_at s at))) refl e
  where
    go : (t u : Bool) → is_cut s at ≡ u → (v : Bool) → (eqb (tag_at s at) a || eqb (tag_at s at) b) ≡ v → (w : Bool) → eqb (length_at s at) (value_size (tag_at s at)) ≡ w
        → Ok tag ≡ framed (tag_at s at) at (cond t (Some TagOrOrder) (cond u (Some CutShort) (cond (not v) (Some TagOrOrder) (cond (not w) (Some WrongLength) None))))
        → (tag ≡ tag_at s at) × ((eqb tag a || eqb tag b) ≡ true) × (at + 3 + value_size tag ≤ length s)
    go true u p v q w r z = absurd cc
    go false true p v q w r z = absurd cc
    go false false p false q w r z = absurd cc
    go false false p true q false r z = absurd cc
    go false false p true q true r z =
        let same : tag ≡ tag_at s at = cc in
        (same, rw same q, rw same (omega (arith, uncut s at p, eqb-true (length_at s at) (value_size (tag_at s at)) r)))

-- the field of a channel, and that of a double
pub good_byte : (a b : ℕ) (s : List ℕ) (at tag : ℕ) → Ok tag ≡ frame_at a b s at → tag ≡ 1 → at + 4 ≤ length s
good_byte a b s at tag e t = let f = (good a b s at tag e).2 in omega (arith, rw (eq-eqb tag 1 t) at f)

pub good_double : (a b : ℕ) (s : List ℕ) (at tag : ℕ) → Ok tag ≡ frame_at a b s at → (tag ≡ 1 → ⊥) → at + 11 ≤ length s
good_double a b s at tag e t = let f = (good a b s at tag e).2 in omega (arith, rw (ne_eqb tag 1 t) at f)

-- where neither tag is 1, the field is that of a double
pub good_other : (a b : ℕ) (s : List ℕ) (at tag : ℕ) → 1 < a → 1 < b → Ok tag ≡ frame_at a b s at → at + 11 ≤ length s
good_other a b s at tag p q e = good_double a b s at tag e (λ t. go (good a b s at tag e).1 t)
  where
    go : (eqb tag a || eqb tag b) ≡ true → tag ≡ 1 → ⊥
    go h t = true≢false (sym h ∙ rw (ne_eqb tag a (λ z. omega arith), ne_eqb tag b (λ z. omega arith)))
