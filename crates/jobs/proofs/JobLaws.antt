-- What a line asks for, from the parts that the code reads. Assumes nothing.
use Prim.Native.Char.{code}
use Prim.Native.Nat.{ℕ, ◌-◌, ◌≤◌, ◌<◌}
use mathlib.Core.Path.{◌≡◌, refl, sym}
use mathlib.Core.List.{List, [], ◌∷◌}
use mathlib.Core.Bool.{Bool, true, false, ◌&&◌, not, cond}
use native.Mathlib.Omega.{arith}
use Rattle.std.proofs.Common.{Some, None}
use lib.Dec.{eqb, leb}
use lib.ListN.{length, take, drop, get_or}
use lib.Seq.{take-length}
use borrow.Author.Tests.{eqb-true, leb-true, le-leb, eq-eqb}
use Rattle.text.specs.Text.{digits_at_front, value_of, number_at_front}
use Rattle.text.specs.declared.decimal.Digits.{Digits}
use Rattle.text.proofs.TextLaws.{between}
use Rattle.jobs.specs.declared.Job.TheVariants.{Wait}
use Rattle.std.proofs.lemmas.List.{take_rest}
use Rattle.jobs.specs.Jobs.{is_ticks, job_if, wait_of, lettered, job_of}

-- A number that is read is all the digits at the front, of which there is one at least.
pub read_parts : (s : List ℕ) (d : Digits) → number_at_front s ≡ Some d → (d.value ≡ value_of (take d.count s)) × (d.count ≡ digits_at_front s) × (1 ≤ d.count)
unfolding number_at_front
read_parts s d e = go (leb 1 (digits_at_front s) && leb (digits_at_front s) 10) refl e
  where
    go : (t : Bool) → (leb 1 (digits_at_front s) && leb (digits_at_front s) 10) ≡ t
        → cond t (Some (record { value = value_of (take (digits_at_front s) s); count = digits_at_front s })) None ≡ Some d
        → (d.value ≡ value_of (take d.count s)) × (d.count ≡ digits_at_front s) × (1 ≤ d.count)
    go true p e =
        let c : d.count ≡ digits_at_front s = cc in
        let w : d.value ≡ value_of (take (digits_at_front s) s) = cc in
        (rw (c, w), c, omega (arith, (between 1 10 (digits_at_front s) p).0))
    go false p e = cc

-- A line of two bytes or more: the second is a blank, and the first is the letter.
pub job_two : (first : Bool) (s : List ℕ) → 2 ≤ length s
    → job_of first s ≡ job_if (eqb (get_or s 1 0) (code " ")) (lettered first (get_or s 0 0) (take (length s - 2) (drop 2 s)))
unfolding job_of
job_two first [] h = absurd (omega arith)
job_two first (k ∷ []) h = absurd (omega arith)
job_two first (k ∷ b ∷ s) h = rw (take_rest (k ∷ b ∷ s) 2)

-- A shorter line is none.
pub job_short : (first : Bool) (s : List ℕ) → length s < 2 → job_of first s ≡ None
unfolding job_of
job_short first [] h = refl
job_short first (k ∷ []) h = refl
job_short first (k ∷ b ∷ s) h = absurd (omega arith)

-- tests in another grouping, after one that holds
regroup : (a b : Bool) → (a && true && b) ≡ (a && b)
regroup true b = refl
regroup false b = refl

no_more : (a b : Bool) → (a && false && b) ≡ false
no_more true b = refl
no_more false b = refl

-- T n, where a number stands there
pub wait_read : (s : List ℕ) (d : Digits) → number_at_front s ≡ Some d
    → wait_of s ≡ job_if (eqb d.count (length s) && leb d.count 5 && is_ticks (get_or s 0 0) d.value) (Some (Wait d.value))
unfolding wait_of
wait_read s d e = go (eqb n (length s)) refl
  where
    v : ℕ
    v = d.value

    n : ℕ
    n = d.count

    p : (v ≡ value_of (take n s)) × (n ≡ digits_at_front s) × (1 ≤ n)
    p = read_parts s d e

    go : (t : Bool) → eqb n (length s) ≡ t
        → job_if (leb 1 (length s) && leb (length s) 5 && eqb (digits_at_front s) (length s) && is_ticks (get_or s 0 0) (value_of s)) (Some (Wait (value_of s)))
        ≡ job_if (t && leb n 5 && is_ticks (get_or s 0 0) v) (Some (Wait v))
    go true q =
        let l : length s ≡ n = sym (eqb-true n (length s) q) in
        let w : value_of s ≡ v = rw (p.0, ← l, take-length s) in
        rw (w, ← p.1, l, eq-eqb n n refl, le-leb 1 n p.2, regroup)
    go false q = rw (← p.1, q, no_more)

-- a number of few digits is read
few_read : (s : List ℕ) → 1 ≤ digits_at_front s → digits_at_front s ≤ 10
    → number_at_front s ≡ Some (record { value = value_of (take (digits_at_front s) s); count = digits_at_front s })
unfolding number_at_front
few_read s h l = rw (le-leb 1 (digits_at_front s) h, le-leb (digits_at_front s) 10 l)

-- T n, where none does
pub wait_nothing : (s : List ℕ) → number_at_front s ≡ None → wait_of s ≡ None
unfolding wait_of
wait_nothing s e = go (leb 1 (length s) && leb (length s) 5) (eqb (digits_at_front s) (length s)) refl refl
  where
    go : (t u : Bool) → (leb 1 (length s) && leb (length s) 5) ≡ t → eqb (digits_at_front s) (length s) ≡ u
        → job_if (t && u && is_ticks (get_or s 0 0) (value_of s)) (Some (Wait (value_of s))) ≡ None
    go true true p q =
        let b = between 1 5 (length s) p in
        let d : digits_at_front s ≡ length s = eqb-true (digits_at_front s) (length s) q in
        let f = few_read s (omega (arith, b.0)) (omega (arith, b.1)) in
        cc
    go true false p q = refl
    go false u p q = refl

-- What passes the last of the tests for ticks is 10000 at most.
pub ticks_within : (t : Bool) (first n : ℕ) → (t && is_ticks first n) ≡ true → n ≤ 10000
ticks_within true first n e = go (not (eqb first (code "0"))) e
  where
    go : (u : Bool) → (u && leb n 10000) ≡ true → n ≤ 10000
    go true e = leb-true n 10000 e
    go false e = cc
ticks_within false first n e = cc
