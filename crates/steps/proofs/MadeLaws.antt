-- What every step of a list is: a channel of sixteen, numbers in their ranges, a fault with a number of 02 §8 whose field is one of the
-- step's three. Assumes nothing.
use mathlib.Core.Path.{◌≡◌, refl, sym, ◌∙◌}
use mathlib.Core.List.{List}
use mathlib.Core.Bool.{Bool, true, false, ◌&&◌, not, cond, true≢false}
use mathlib.Core.Logic.{◌⊎◌, inl, inr}
use Prim.Native.Nat.{ℕ, ◌+◌, ◌≤◌, ◌<◌}
use native.Mathlib.Omega.{arith}
use lib.Dec.{leb, eqb}
use lib.Ieee.{Float}
use borrow.Author.Tests.{leb-true}
use Rattle.std.specs.Prelude.{Option, None, Some, Result, Ok, Err, MatchResult}
use Rattle.digits.specs.Places.{origin, cw, ccw, moved}
use Rattle.doubles.specs.Doubles.{is_whole, size_of, is_minus}
use Rattle.steps.specs.declared.SetPoint.{SetPoint}
use Rattle.steps.specs.declared.SetPoint.TheVariants.{Target, Distance, Dwell}
use Rattle.steps.specs.declared.Cause.{Cause}
use Rattle.steps.specs.declared.Cause.TheVariants.{CutShort, TagOrOrder, WrongLength, WrongChannel, NotWhole, OutOfRange, TooMany}
use Rattle.steps.specs.declared.Fault.{Fault}
use Rattle.steps.specs.declared.Opening.{Opening}
use Rattle.steps.specs.declared.Opening.TheVariants.{Channel, Dwelling}
use Rattle.steps.specs.declared.Step.{Step}
use Rattle.steps.specs.declared.Step.TheVariants.{Drive, Wait}
use Rattle.steps.specs.Numbers.{number_of, fault_at}
use Rattle.steps.specs.Fields.{tag_at, channel_at, ended, frame_fault, framed, frame_at, double_at}
use Rattle.steps.specs.Judging.{judged_as, judged_place, judged_number, judged_point, judged_speed}
use Rattle.steps.specs.Steps.{and_then, judged_at, channel_of, dwell_of, opening_at, aim_at, rate_at, is_distance, move_at, opened_by, step_at, beyond_at}

-- a dwell that is taken: its double is whole, positive, and the number; and the number is in its range
abbrev pub Dwelt : Float → ℕ → Type 0
Dwelt x n = (is_whole x ≡ true) × (is_minus x ≡ false) × (size_of x ≡ n) × (1 ≤ n) × (n ≤ 10000)

-- "Refusals, each with its field's byte offset: 20 .. 26", the field being one of those at three offsets
abbrev pub FaultIn : ℕ → ℕ → ℕ → Fault → Type 0
FaultIn a b c f = (20 ≤ number_of f.cause) × (number_of f.cause ≤ 26) × ((f.offset ≡ a) ⊎ ((f.offset ≡ b) ⊎ (f.offset ≡ c)))

-- what a fault of a step at a place is
abbrev pub Faulted : ℕ → Fault → Type 0
Faulted at f = FaultIn at (at + 4) (at + 15) f

-- what an ending at a place is
abbrev pub Ended : ℕ → Result Unit Fault → Type 0
Ended at (Ok u) = Unit
Ended at (Err f) = Faulted at f

-- what a step is
abbrev pub Stepped : Step → Type 0
Stepped (Drive m) = (m.channel < 16) × (1 ≤ m.place) × (m.place ≤ 4294967295) × (1 ≤ m.speed) × (m.speed ≤ 5000000)
Stepped (Wait x n) = Dwelt x n

-- what stands at a place
abbrev pub Made : ℕ → Result (Option Step) Fault → Type 0
Made at (Ok None) = Unit
Made at (Ok (Some x)) = Stepped x
Made at (Err f) = Faulted at f

-- ---- judging

-- what a double is refused by: "24 not finite or not whole, 25 out of range"
abbrev pub Unfit : Cause → Type 0
Unfit k = (24 ≤ number_of k) × (number_of k ≤ 25)

-- what is taken is whole and in range, and what is not has 24 or 25
abbrev pub Fit : Float → Bool → ℕ → Result ℕ Cause → Type 0
Fit x fits n j = MatchResult j (λ k. (is_whole x ≡ true) × (fits ≡ true) × (k ≡ n)) Unfit

pub fit : (x : Float) (fits : Bool) (n : ℕ) → Fit x fits n (judged_as x fits n)
fit x fits n = go (is_whole x) refl fits refl
  where
    go : (t : Bool) → is_whole x ≡ t → (u : Bool) → fits ≡ u → Fit x fits n (cond t (cond u (Ok n) (Err OutOfRange)) (Err NotWhole))
    go true e true f = (e, f, refl)
    go true e false f = (omega arith, omega arith)
    go false e u f = (omega arith, omega arith)

-- a position's place
abbrev pub Placed : Result ℕ Cause → Type 0
Placed j = MatchResult j (λ p. (1 ≤ p) × (p ≤ 4294967295)) Unfit

within : (minus : Bool) (n : ℕ) → n ≤ 2147483647 → (1 ≤ moved (cond minus ccw cw) origin n) × (moved (cond minus ccw cw) origin n ≤ 4294967295)
within true n h = (omega arith, omega arith)
within false n h = (omega arith, omega arith)

placed : (x : Float) → Placed (judged_place x)
unfolding judged_place
placed x = go (judged_as x (leb (size_of x) 2147483647) (moved (cond (is_minus x) ccw cw) origin (size_of x))) (fit x (leb (size_of x) 2147483647) (moved (cond (is_minus x) ccw cw) origin (size_of x)))
  where
    go : (j : Result ℕ Cause) → Fit x (leb (size_of x) 2147483647) (moved (cond (is_minus x) ccw cw) origin (size_of x)) j → Placed j
    go (Ok k) h = let w = within (is_minus x) (size_of x) (leb-true (size_of x) 2147483647 h.1) in rw h.2 w
    go (Err k) h = h

-- a number from 1 on
abbrev pub Counted : ℕ → Float → Result ℕ Cause → Type 0
Counted most x j = MatchResult j (λ n. (is_whole x ≡ true) × (is_minus x ≡ false) × (size_of x ≡ n) × (1 ≤ n) × (n ≤ most)) Unfit

all_three : (n most : ℕ) (minus : Bool) → (leb 1 n && not minus && leb n most) ≡ true → (minus ≡ false) × (1 ≤ n) × (n ≤ most)
all_three n most minus e = go (leb 1 n) refl minus (leb n most) refl e
  where
    go : (a : Bool) → leb 1 n ≡ a → (m b : Bool) → leb n most ≡ b → (a && not m && b) ≡ true → (m ≡ false) × (1 ≤ n) × (n ≤ most)
    go true p false true q h = (refl, leb-true 1 n p, leb-true n most q)
    go true p false false q h = absurd (true≢false (sym h))
    go true p true b q h = absurd (true≢false (sym h))
    go false p m b q h = absurd (true≢false (sym h))

pub counted : (most : ℕ) (x : Float) → Counted most x (judged_number most x)
unfolding judged_number
counted most x = go (leb 1 (size_of x) && not (is_minus x) && leb (size_of x) most) refl
  where
    by : (fits : Bool) → (leb 1 (size_of x) && not (is_minus x) && leb (size_of x) most) ≡ fits → (j : Result ℕ Cause) → Fit x fits (size_of x) j → Counted most x j
    by fits e (Ok k) h = let t = all_three (size_of x) most (is_minus x) (e ∙ h.1) in (h.0, t.0, sym h.2, rw h.2 t.1, rw h.2 t.2)
    by fits e (Err k) h = h

    go : (fits : Bool) → (leb 1 (size_of x) && not (is_minus x) && leb (size_of x) most) ≡ fits → Counted most x (judged_as x fits (size_of x))
    go fits e = by fits e (judged_as x fits (size_of x)) (fit x fits (size_of x))

-- every set-point
pub pointed : (p : SetPoint) → Placed (judged_point p)
unfolding judged_point
pointed (Target x) = placed x
pointed (Distance x) = placed x
pointed (Dwell x) = go (judged_number 10000 x) (counted 10000 x)
  where
    go : (j : Result ℕ Cause) → Counted 10000 x j → Placed j
    go (Ok k) h = (h.3, omega (arith, h.4))
    go (Err k) h = h

-- ---- faults

pub number_within : (k : Cause) → (20 ≤ number_of k) × (number_of k ≤ 26)
number_within CutShort = (omega arith, omega arith)
number_within TagOrOrder = (omega arith, omega arith)
number_within WrongLength = (omega arith, omega arith)
number_within WrongChannel = (omega arith, omega arith)
number_within NotWhole = (omega arith, omega arith)
number_within OutOfRange = (omega arith, omega arith)
number_within TooMany = (omega arith, omega arith)

-- the fields of a step
first_field : (at : ℕ) (k : Cause) → Faulted at (fault_at k at)
first_field at k = let w = number_within k in (w.0, w.1, inl refl)

second_field : (at : ℕ) (k : Cause) → Faulted at (fault_at k (at + 4))
second_field at k = let w = number_within k in (w.0, w.1, inr (inl refl))

third_field : (at : ℕ) (k : Cause) → Faulted at (fault_at k (at + 4 + 11))
third_field at k = let w = number_within k in (w.0, w.1, inr (inr (omega arith)))

module _ (Q : Fault → Type 0) where
  -- one thing after another, each of which may be refused
  one_by_one : {A B : Type 0} (P : A → Type 0) (R : B → Type 0) (r : Result A Fault) (next : A → Result B Fault) → MatchResult r P Q
      → ((x : A) → P x → MatchResult (next x) R Q) → MatchResult (and_then r next) R Q
  one_by_one P R (Ok x) next h k = k x h
  one_by_one P R (Err f) next h k = h

  judged : (P : ℕ → Type 0) (at : ℕ) (j : Result ℕ Cause) → ((k : Cause) → Q (fault_at k at)) → MatchResult j P Unfit → MatchResult (judged_at at j) P Q
  judged P at (Ok n) q h = h
  judged P at (Err k) q h = q k

  good : (a b : ℕ) (s : List ℕ) (at : ℕ) → ((k : Cause) → Q (fault_at k at)) → MatchResult (frame_at a b s at) (λ tag. Unit) Q
  good a b s at q = go (frame_fault a b s at)
    where
      go : (o : Option Cause) → MatchResult (framed (tag_at s at) at o) (λ tag. Unit) Q
      go None = tt
      go (Some k) = q k

-- ---- fields

abbrev Opened : Opening → Type 0
Opened (Channel c) = c < 16
Opened (Dwelling x n) = Dwelt x n

opened : (s : List ℕ) (at : ℕ) → MatchResult (opening_at s at) Opened (Faulted at)
unfolding opening_at
opened s at =
    one_by_one (Faulted at) (λ tag. Unit) Opened (frame_at 1 5 s at) (λ tag. cond (eqb tag 1) (channel_of (channel_at s at) at) (dwell_of (double_at s at) at))
    (good (Faulted at) 1 5 s at (first_field at)) (λ tag u. go (eqb tag 1))
  where
    channel : (t : Bool) (b : ℕ) → leb b 15 ≡ t → MatchResult (cond t (Ok (Channel b)) (Err (fault_at WrongChannel at))) Opened (Faulted at)
    channel true b e = omega (arith, leb-true b 15 e)
    channel false b e = first_field at WrongChannel

    dwell : (x : Float) → MatchResult (dwell_of x at) Opened (Faulted at)
    dwell x =
        one_by_one (Faulted at) (Dwelt x) Opened (judged_at at (judged_point (Dwell x))) (λ n. Ok (Dwelling x n))
        (judged (Faulted at) (Dwelt x) at (judged_point (Dwell x)) (first_field at) (unfold judged_point in counted 10000 x)) (λ n h. h)

    go : (u : Bool) → MatchResult (cond u (channel_of (channel_at s at) at) (dwell_of (double_at s at) at)) Opened (Faulted at)
    go true = channel (leb (channel_at s at) 15) (channel_at s at) refl
    go false = dwell (double_at s at)

aimed : (Q : Fault → Type 0) (s : List ℕ) (at : ℕ) → ((k : Cause) → Q (fault_at k at)) → MatchResult (aim_at s at) (λ p. Unit) Q
unfolding aim_at
aimed Q s at q = one_by_one Q (λ tag. Unit) (λ p. Unit) (frame_at 2 3 s at) _ (good Q 2 3 s at q) (λ tag u. tt)

rated : (Q : Fault → Type 0) (s : List ℕ) (at : ℕ) → ((k : Cause) → Q (fault_at k at)) → MatchResult (rate_at s at) (λ x. Unit) Q
unfolding rate_at
rated Q s at q = one_by_one Q (λ tag. Unit) (λ x. Unit) (frame_at 4 4 s at) _ (good Q 4 4 s at q) (λ tag u. tt)

-- ---- steps

moved_so : (s : List ℕ) (at c : ℕ) → c < 16 → MatchResult (move_at s (at + 4) c) Stepped (Faulted at)
unfolding move_at
moved_so s at c h =
    one_by_one (Faulted at) (λ p. Unit) Stepped (aim_at s (at + 4)) _ (aimed (Faulted at) s (at + 4) (second_field at))
    (λ p u. one_by_one (Faulted at) (λ n. (1 ≤ n) × (n ≤ 4294967295)) Stepped (judged_at (at + 4) (judged_point p)) _ (judged (Faulted at) (λ n. (1 ≤ n) × (n ≤ 4294967295)) (at + 4) (judged_point p) (second_field at) (pointed p))
    (λ n r. one_by_one (Faulted at) (λ x. Unit) Stepped (rate_at s (at + 4 + 11)) _ (rated (Faulted at) s (at + 4 + 11) (third_field at)) (λ x v. speed (is_distance p) n r x)))
  where
    speed : (relative : Bool) (n : ℕ) → (1 ≤ n) × (n ≤ 4294967295) → (x : Float) → MatchResult (and_then (judged_at (at + 4 + 11) (judged_speed x)) (λ v. Ok (Drive (record { channel = c; relative = relative; place = n; speed = v })))) Stepped (Faulted at)
    speed relative n r x = go (judged_speed x) (unfold judged_speed in counted 5000000 x)
      where
        go : (j : Result ℕ Cause) → Counted 5000000 x j → MatchResult (and_then (judged_at (at + 4 + 11) j) (λ v. Ok (Drive (record { channel = c; relative = relative; place = n; speed = v })))) Stepped (Faulted at)
        go (Ok v) k = (h, r.0, r.1, k.3, k.4)
        go (Err k) i = third_field at k

pub step_made : (s : List ℕ) (at : ℕ) → Made at (step_at s at)
unfolding step_at
step_made s at = go (ended s at)
  where
    by : (o : Opening) → Opened o → MatchResult (opened_by s at o) Stepped (Faulted at)
    by (Channel c) h = moved_so s at c h
    by (Dwelling x n) h = h

    made : (r : Result Step Fault) → MatchResult r Stepped (Faulted at) → Made at (and_then r (λ x. Ok (Some x)))
    made (Ok x) h = h
    made (Err f) h = h

    go : (t : Bool) → Made at (cond t (Ok None) (and_then (and_then (opening_at s at) (opened_by s at)) (λ x. Ok (Some x))))
    go true = tt
    go false =
        made (and_then (opening_at s at) (opened_by s at)) (one_by_one (Faulted at) Opened Stepped (opening_at s at) (opened_by s at) (opened s at) by)

pub beyond_made : (s : List ℕ) (at : ℕ) → Ended at (beyond_at s at)
unfolding beyond_at
beyond_made s at = go (ended s at)
  where
    by : (r : Result Opening Fault) → MatchResult r Opened (Faulted at) → Ended at (and_then r (λ o. Err (fault_at TooMany at)))
    by (Ok o) h = first_field at TooMany
    by (Err f) h = h

    go : (t : Bool) → Ended at (cond t (Ok tt) (and_then (opening_at s at) (λ o. Err (fault_at TooMany at))))
    go true = tt
    go false = by (opening_at s at) (opened s at)
