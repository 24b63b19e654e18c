-- 02 §8: "the dwell total, added as doubles and proved equal to the whole-number sum". Assumes nothing.
use mathlib.Core.Path.{◌≡◌, refl, ap, ◌∙◌}
use mathlib.Core.List.{List, ◌++◌}
use Prim.Native.Nat.{ℕ, zero, suc, ◌+◌, ◌*◌, ◌≤◌}
use native.Mathlib.Omega.{arith}
use lib.IntN.{pos}
use lib.Dec.{le→leb}
use lib.Ieee.{Float, binary64, add, of_int, in_float, to_unsigned}
use lib.Ieee.Back.{unsigned_back}
use Rattle.doubles.proofs.SumLaws.{add_whole}
use Rattle.std.specs.Prelude.{Option, None, Some, Result, Ok, Err}
use Rattle.steps.specs.declared.Fault.{Fault}
use Rattle.steps.specs.declared.Step.{Step}
use Rattle.steps.specs.declared.Step.TheVariants.{Drive, Wait}
use Rattle.steps.specs.Steps.{step_at, beyond_at}
use Rattle.steps.proofs.MadeLaws.{Dwelt, Made, step_made}
use Rattle.lists.specs.Lines.{opening_text, move_text, wait_text, total_text}
use Rattle.lists.specs.Listing.{as_doubles, as_numbers, last_text, printed_by, printed_from, printed_with, printed, total_by, total_from, total_with}

-- a whole number is read back from its double
number_back : (n : ℕ) → n ≤ 100000000 → to_unsigned 32 (of_int binary64 (pos n)) ≡ n
unfolding in_float
number_back n h = (unsigned_back binary64 32 n (le→leb n 9007199254740992 (omega arith)) (omega arith)).1

-- a dwell more
pub dwell_added : (n d : ℕ) (x : Float) → n ≤ 100000000 → Dwelt x d → add binary64 (of_int binary64 (pos n)) x ≡ of_int binary64 (pos (n + d))
dwell_added n d x h m = add_whole n x (omega arith) m.0 m.1 ∙ ap (λ (i : ℕ). of_int binary64 (pos (n + i))) m.2

same_last : (n : ℕ) (e : Result Unit Fault) → n ≤ 100000000 → last_text as_doubles (of_int binary64 (pos n)) e ≡ last_text as_numbers n e
same_last n (Ok u) h = ap total_text (number_back n h)
same_last n (Err f) h = refl

same_from : (k : ℕ) (s : List ℕ) (n at : ℕ) → n + 10000 * k ≤ 100000000 → printed_from as_doubles k s (of_int binary64 (pos n)) at ≡ printed_from as_numbers k s n at
unfolding printed_from
same_from zero s n at h = same_last n (beyond_at s at) (omega arith)
same_from (suc k) s n at h = go (step_at s at) (step_made s at) (λ m b l. same_from k s m b l)
  where
    go : (t : Result (Option Step) Fault) → Made at t → ((m b : ℕ) → m + 10000 * k ≤ 100000000 → printed_from as_doubles k s (of_int binary64 (pos m)) b ≡ printed_from as_numbers k s m b)
        → printed_by as_doubles (printed_from as_doubles k s) (of_int binary64 (pos n)) at t ≡ printed_by as_numbers (printed_from as_numbers k s) n at t
    go (Ok None) m rest = same_last n (Ok tt) (omega arith)
    go (Err f) m rest = refl
    go (Ok (Some (Drive v))) m rest = ap (λ (x : List ℕ). move_text v ++ x) (rest n (at + 26) (omega arith))
    go (Ok (Some (Wait x d))) m rest = rw (dwell_added n d x (omega arith) m) (ap (λ (y : List ℕ). wait_text d ++ y) (rest (n + d) (at + 11) (omega (arith, m.4))))

-- What is printed is what it would be if the dwells were added as whole numbers, for every list.
pub total_whole : (s : List ℕ) → printed s ≡ printed_with as_numbers s
unfolding printed printed_with
total_whole s = ap (λ (x : List ℕ). opening_text ++ x) (same_from 10000 s 0 0 (omega arith))

exact_from : (k : ℕ) (s : List ℕ) (n at : ℕ) → n + 10000 * k ≤ 100000000 → total_from as_doubles k s (of_int binary64 (pos n)) at ≡ of_int binary64 (pos (total_from as_numbers k s n at))
unfolding total_from
exact_from zero s n at h = refl
exact_from (suc k) s n at h = go (step_at s at) (step_made s at) (λ m b l. exact_from k s m b l)
  where
    go : (t : Result (Option Step) Fault) → Made at t → ((m b : ℕ) → m + 10000 * k ≤ 100000000 → total_from as_doubles k s (of_int binary64 (pos m)) b ≡ of_int binary64 (pos (total_from as_numbers k s m b)))
        → total_by as_doubles (total_from as_doubles k s) (of_int binary64 (pos n)) at t ≡ of_int binary64 (pos (total_by as_numbers (total_from as_numbers k s) n at t))
    go (Ok None) m rest = refl
    go (Err f) m rest = refl
    go (Ok (Some (Drive v))) m rest = rest n (at + 26) (omega arith)
    go (Ok (Some (Wait x d))) m rest = rw (dwell_added n d x (omega arith) m) (rest (n + d) (at + 11) (omega (arith, m.4)))

-- The total as a double is the double of the whole-number sum, for every list.
pub total_exact : (s : List ℕ) → total_with as_doubles s ≡ of_int binary64 (pos (total_with as_numbers s))
unfolding total_with
total_exact s = exact_from 10000 s 0 0 (omega arith)
