-- What stands far behind a place makes no difference to the step there: a field has no more than 65,538 bytes. Assumes nothing.
use mathlib.Core.Path.{◌≡◌, refl, ap}
use mathlib.Core.List.{List, ◌++◌}
use mathlib.Core.Bool.{false}
use Prim.Native.Nat.{ℕ, ◌+◌, ◌≤◌, ◌<◌}
use native.Mathlib.Omega.{arith}
use lib.ListN.{length, drop, length-append, length-drop}
use lib.Seq.{take-append-le, drop-append-le}
use borrow.Author.Tests.{le-ltb, lt-leb}
use Rattle.digits.specs.Bytes.{AllBytes, part}
use Rattle.digits.proofs.PartLaws.{part_length, part_bytes}
use Rattle.digits.proofs.WordLaws.{word_below}
use Rattle.steps.specs.Fields.{tag_at, length_at, channel_at, is_cut, frame_fault, double_at}
use Rattle.std.specs.Prelude.{Option, Some, Result, Ok, Err}
use Rattle.steps.specs.declared.Fault.{Fault}
use Rattle.steps.specs.declared.Opening.{Opening}
use Rattle.steps.specs.declared.Opening.TheVariants.{Channel, Dwelling}
use Rattle.steps.specs.declared.Step.{Step}
use Rattle.steps.specs.Steps.{and_then, opening_at, aim_at, rate_at, move_at, step_at, beyond_at, opened_by}

module _ (a b : List ℕ) (all : AllBytes a) where
  part_front : (at k : ℕ) → at + k ≤ length a → part (a ++ b) at k ≡ part a at k
  unfolding part
  part_front at k h = rw (drop-append-le at a b (omega arith)) (take-append-le k (drop at a) b (rw length-drop (omega arith)))

  uncut : (s : List ℕ) (at : ℕ) → length a ≤ length s → length_at s at < 65536 → at + 65538 ≤ length a → is_cut s at ≡ false
  unfolding is_cut
  uncut s at l n h = rw (le-ltb (length s) (at + 3) (omega arith), le-ltb (length s) (at + 3 + length_at s at) (omega arith))

  length_front : (at : ℕ) → at + 65538 ≤ length a → length_at (a ++ b) at ≡ length_at a at
  unfolding length_at
  length_front at h = rw (part_front (at + 1) 2 (omega arith))

  short : (at : ℕ) → at + 65538 ≤ length a → length_at a at < 65536
  unfolding length_at
  short at h = word_below 2 (part a (at + 1) 2) (part_length a (at + 1) 2 (omega arith)) (part_bytes a (at + 1) 2 all)

  tag_front : (at : ℕ) → at + 65538 ≤ length a → tag_at (a ++ b) at ≡ tag_at a at
  unfolding tag_at
  tag_front at h = rw (part_front at 1 (omega arith))

  frame_front : (x y at : ℕ) → at + 65538 ≤ length a → frame_fault x y (a ++ b) at ≡ frame_fault x y a at
  unfolding frame_fault
  frame_front x y at h =
      let longer : length a ≤ length (a ++ b) = rw length-append (omega arith) in
      rw (lt-leb (length (a ++ b)) at (omega arith), lt-leb (length a) at (omega arith), uncut (a ++ b) at longer (rw (length_front at h) (short at h)) h, uncut a at (omega arith) (short at h) h, tag_front at h, length_front at h)

  double_front : (at : ℕ) → at + 65538 ≤ length a → double_at (a ++ b) at ≡ double_at a at
  unfolding double_at
  double_front at h = rw (part_front (at + 3) 8 (omega arith))

  opening_front : (at : ℕ) → at + 65538 ≤ length a → opening_at (a ++ b) at ≡ opening_at a at
  unfolding opening_at
  opening_front at h =
      let value : channel_at (a ++ b) at ≡ channel_at a at = unfold channel_at in rw (part_front (at + 3) 1 (omega arith)) in
      rw (frame_front 1 5 at h, tag_front at h, value, double_front at h)

  move_front : (at c : ℕ) → at + 65549 ≤ length a → move_at (a ++ b) at c ≡ move_at a at c
  unfolding move_at aim_at rate_at
  move_front at c h =
      rw (frame_front 2 3 at (omega arith), tag_front at (omega arith), double_front at (omega arith), frame_front 4 4 (at + 11) (omega arith), tag_front (at + 11) (omega arith), double_front (at + 11) (omega arith))

  pub step_front : (at : ℕ) → at + 65553 ≤ length a → step_at (a ++ b) at ≡ step_at a at
  unfolding step_at
  step_front at h =
      rw (lt-leb (length (a ++ b)) at (rw length-append (omega arith)), lt-leb (length a) at (omega arith), opening_front at (omega arith)) (go (opening_at a at))
    where
      go : (o : Result Opening Fault) → ◌≡◌ {A = Result (Option Step) Fault} (and_then (and_then o (opened_by (a ++ b) at)) (λ x. Ok (Some x))) (and_then (and_then o (opened_by a at)) (λ x. Ok (Some x)))
      go (Ok (Channel c)) = ap (λ (r : Result Step Fault). and_then r (λ x. Ok (Some x))) (move_front (at + 4) c (omega arith))
      go (Ok (Dwelling x n)) = refl
      go (Err f) = refl

  pub beyond_front : (at : ℕ) → at + 65538 ≤ length a → beyond_at (a ++ b) at ≡ beyond_at a at
  unfolding beyond_at
  beyond_front at h = rw (lt-leb (length (a ++ b)) at (rw length-append (omega arith)), lt-leb (length a) at (omega arith), opening_front at h)
