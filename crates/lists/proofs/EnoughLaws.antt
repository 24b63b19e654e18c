-- The first 325,538 bytes of a list decide what is printed: ten thousand moves have 260,000, and the field after them 65,538 at most.
-- Assumes nothing.
use mathlib.Core.Path.{◌≡◌, refl, sym, ap, ◌∙◌}
use mathlib.Core.List.{List, ◌++◌}
use mathlib.Core.Bool.{Bool, true, false}
use Prim.Native.Nat.{ℕ, zero, suc, ◌+◌, ◌*◌, ◌≤◌}
use native.Mathlib.Omega.{arith}
use lib.Dec.{leb}
use lib.IntN.{pos}
use lib.ListN.{length, take, drop, length-take, take-append-drop}
use lib.Seq.{take_all}
use lib.Ieee.{Float, binary64, of_int}
use borrow.Author.Tests.{leb-true, leb-false}
use Rattle.digits.specs.Bytes.{AllBytes, part}
use Rattle.digits.proofs.PartLaws.{part_bytes}
use Rattle.std.specs.Prelude.{Option, None, Some, Result, Ok, Err}
use Rattle.steps.specs.declared.Fault.{Fault}
use Rattle.steps.specs.declared.Step.{Step}
use Rattle.steps.specs.declared.Step.TheVariants.{Drive, Wait}
use Rattle.steps.specs.Steps.{step_at}
use Rattle.steps.proofs.FrontLaws.{step_front, beyond_front}
use Rattle.lists.specs.Lines.{opening_text, move_text, wait_text}
use Rattle.lists.specs.Listing.{as_doubles, last_text, printed_by, printed_from, printed_with, printed}

front_from : (a b : List ℕ) → AllBytes a → 325538 ≤ length a → (k : ℕ) (total : Float) (at : ℕ) → at + 26 * k ≤ 260000
    → printed_from as_doubles k (a ++ b) total at ≡ printed_from as_doubles k a total at
unfolding printed_from
front_from a b all l zero total at h = ap (last_text as_doubles total) (beyond_front a b all at (omega arith))
front_from a b all l (suc k) total at h = rw (step_front a b all at (omega arith)) (go (step_at a at) (λ t p q. front_from a b all l k t p q))
  where
    go : (s : Result (Option Step) Fault) → ((t : Float) (p : ℕ) → p + 26 * k ≤ 260000 → printed_from as_doubles k (a ++ b) t p ≡ printed_from as_doubles k a t p)
        → printed_by as_doubles (printed_from as_doubles k (a ++ b)) total at s ≡ printed_by as_doubles (printed_from as_doubles k a) total at s
    go (Ok None) rest = refl
    go (Err f) rest = refl
    go (Ok (Some (Drive m))) rest = ap (λ (x : List ℕ). move_text m ++ x) (rest total (at + 26) (omega arith))
    go (Ok (Some (Wait x n))) rest = ap (λ (y : List ℕ). wait_text n ++ y) (rest (as_doubles.more total x n) (at + 11) (omega arith))

-- What is printed for a list of bytes is what is printed for its front, if that has so many.
pub front_enough : (s : List ℕ) (n : ℕ) → AllBytes s → 325538 ≤ n → printed (take n s) ≡ printed s
unfolding printed printed_with
front_enough s n all h = go (leb (length s) n) refl
  where
    few : AllBytes (take n s)
    few = unfold part in part_bytes s 0 n all

    go : (t : Bool) → leb (length s) n ≡ t
        → opening_text ++ printed_from as_doubles 10000 (take n s) (of_int binary64 (pos 0)) 0 ≡ opening_text ++ printed_from as_doubles 10000 s (of_int binary64 (pos 0)) 0
    go true e = rw (take_all n s (leb-true (length s) n e))
    go false e =
        let whole : take n s ++ drop n s ≡ s = take-append-drop n s in
        let size : 325538 ≤ length (take n s) = rw length-take (omega (arith, leb-false (length s) n e)) in
        ap (λ (x : List ℕ). opening_text ++ x)
        (sym (front_from (take n s) (drop n s) few size 10000 (of_int binary64 (pos 0)) 0 (omega arith)) ∙ ap (λ (x : List ℕ). printed_from as_doubles 10000 x (of_int binary64 (pos 0)) 0) whole)
