-- A list that is printed step by step. Assumes nothing.
use mathlib.Core.Path.{◌≡◌, refl, sym, ap, ◌∙◌, subst}
use mathlib.Core.List.{List, ◌++◌, append_assoc}
use mathlib.Core.Logic.{◌⊎◌, inl, inr}
use Prim.Native.Nat.{ℕ, suc, ◌+◌, ◌-◌, ◌*◌, ◌≤◌, ◌<◌}
use native.Mathlib.Omega.{arith}
use lib.IntN.{pos}
use lib.Dec.{T, le→leb}
use lib.ListN.{length, take, drop}
use lib.Ieee.{Float, binary64, of_int, of_bits, of_fields, round, units, odd, size, span, climb, in_unsigned, in_float, to_unsigned}
use lib.Ieee.Back.{unsigned_back}
use Rattle.text.specs.Text.{bytes, Wrote}
use Rattle.std.specs.Prelude.{Option, None, Some, Result, Ok, Err}
use Rattle.steps.specs.declared.Fault.{Fault}
use Rattle.steps.specs.declared.Step.{Step}
use Rattle.steps.specs.declared.Step.TheVariants.{Drive, Wait}
use Rattle.steps.specs.declared.Move.{Move}
use Rattle.steps.specs.Numbers.{number_of}
use Rattle.steps.specs.Steps.{step_at, beyond_at}
use Rattle.steps.proofs.MadeLaws.{Faulted, Ended, Made, step_made, beyond_made}
use Rattle.lists.specs.declared.listing.Reached.{Reached}
use Rattle.lists.specs.Lines.{opening_text}
use Rattle.lists.specs.Listing.{as_doubles, last_text, printed_by, printed_from, printed_with, printed}
use Rattle.lists.specs.Turns.{offset_in, text_of, reached_after}
use Rattle.lists.proofs.TotalLaws.{dwell_added}
use Rattle.lists.proofs.OutLaws.{wrote_more, total_within, move_within, wait_within, fault_within}

-- ---- what the step's writers ask for

fault_near : (at : ℕ) (f : Fault) → Faulted at f → f.offset ≤ at + 15
fault_near at f h = go h.2
  where
    go : (f.offset ≡ at) ⊎ ((f.offset ≡ at + 4) ⊎ (f.offset ≡ at + 15)) → f.offset ≤ at + 15
    go (inl e) = omega arith
    go (inr (inl e)) = omega arith
    go (inr (inr e)) = omega arith

pub refused_near : (s : List ℕ) (at : ℕ) (f : Fault) → Err f ≡ step_at s at → f.offset ≤ at + 15
refused_near s at f h = fault_near at f (subst (λ x. Made at x) (sym h) (step_made s at))

pub drive_channel : (s : List ℕ) (at : ℕ) (m : Move) → Ok (Some (Drive m)) ≡ step_at s at → m.channel < 16
drive_channel s at m h = (subst (λ x. Made at x) (sym h) (step_made s at)).0

pub beyond_near : (s : List ℕ) (at : ℕ) → offset_in (beyond_at s at) ≤ at + 15
beyond_near s at = go (beyond_at s at) (beyond_made s at)
  where
    go : (e : Result Unit Fault) → Ended at e → offset_in e ≤ at + 15
    go (Ok u) h = omega arith
    go (Err f) h = fault_near at f h

pub last_within : (total : Float) (e : Result Unit Fault) → length (last_text as_doubles total e) ≤ 22
last_within total (Ok u) = omega (arith, total_within (to_unsigned 32 total))
last_within total (Err f) = fault_within (number_of f.cause) f.offset

pub text_within : (total : Float) (s : Result (Option Step) Fault) → length (text_of total s) ≤ 44
text_within total (Ok None) = omega (arith, last_within total (Ok tt))
text_within total (Err f) = omega (arith, last_within total (Err f))
text_within total (Ok (Some (Drive m))) = move_within m
text_within total (Ok (Some (Wait x n))) = omega (arith, wait_within n)

-- ---- the total

-- a sum that is n, to which so many dwells may come
pub record Sum (left : ℕ) (total : Float) : Type 0 where
  pub n : ℕ
  pub same : total ≡ of_int binary64 (pos n)
  pub small : n + 10000 * left ≤ 100000000

zero_is : of_bits binary64 0 ≡ of_int binary64 (pos 0)
unfolding of_bits of_fields of_int round units odd size span climb
zero_is = refl

-- it is a whole number that the last line can have
pub whole_total : {left : ℕ} {total : Float} → Sum left total → T (in_unsigned binary64 32 total)
unfolding in_float
whole_total {left} {total} s =
    let few : s.n ≤ 9007199254740992 = omega (arith, s.small) in
    subst (λ (x : Float). T (in_unsigned binary64 32 x)) (sym s.same) (unsigned_back binary64 32 s.n (le→leb s.n 9007199254740992 few) (omega (arith, s.small))).0

-- ---- the loop

-- what stands after some steps: the buffer with what is printed up to there, and what is still to be printed
pub record Going (s before after : List ℕ) (n : ℕ) (r : Reached) (left : ℕ) : Type 0 where
  pub text : List ℕ
  pub wrote : Wrote before after text n
  pub rest : text ++ printed_from as_doubles left s r.total r.at ≡ printed s
  pub room : n + 44 * left + 22 ≤ length before
  pub close : r.at + 26 * left ≤ 260000
  pub sum : Sum left r.total

pub begin : (s before after : List ℕ) (n : ℕ) → Wrote before after opening_text n → 440028 ≤ length before
    → Going s before after n (record { at = 0; total = of_bits binary64 0 }) 10000
unfolding printed printed_with bytes
begin s before after n w h =
    record {
      text = opening_text;
      wrote = w;
      rest = rw zero_is;
      room = omega (arith, w.count);
      close = omega arith;
      sum = record { n = 0; same = zero_is; small = omega arith };
    }

-- one step less may come after a step
onward : (rest : Float → ℕ → List ℕ) (left : ℕ) (r q : Reached) (x : Result (Option Step) Fault) → Made r.at x → Sum (suc left) r.total → r.at + 26 * suc left ≤ 260000 → reached_after r x ≡ Some q
    → (printed_by as_doubles rest r.total r.at x ≡ text_of r.total x ++ rest q.total q.at) × Sum left q.total × (q.at + 26 * left ≤ 260000)
onward rest left r q (Ok None) m k near h = absurd cc
onward rest left r q (Err f) m k near h = absurd cc
onward rest left r q (Ok (Some (Drive m))) made k near h =
    let e : q ≡ record { at = r.at + 26; total = r.total } = cc in
    rw e (refl, record { n = k.n; same = k.same; small = omega (arith, k.small) }, omega arith)
onward rest left r q (Ok (Some (Wait x n))) made k near h =
    let e : q ≡ record { at = r.at + 11; total = as_doubles.more r.total x n } = cc in
    rw e (
      refl,
      record {
        n = k.n + n;
        same = rw k.same (dwell_added k.n n x (omega (arith, k.small)) made);
        small = omega (arith, k.small, made.4);
      },
      omega arith,
    )

pub next : {s before after part : List ℕ} {n k left : ℕ} {r q : Reached} (more : ℕ) → Going s before after n r left → length after ≡ length before → left ≡ suc more
    → reached_after r (step_at s r.at) ≡ Some q → Wrote (take (length after - n) (drop n after)) part (text_of r.total (step_at s r.at)) k
    → length part ≡ length (take (length after - n) (drop n after))
    → Going s before (take n after ++ (part ++ drop (length after - n) (drop n after))) (n + k) q more
unfolding printed_from
next {s} {before} {after} {part} {n} {k} {left} {r} {q} more g m e h w l =
    let x = step_at s r.at in
    let rest = printed_from as_doubles more s in
    let few = text_within r.total x in
    let o = onward rest more r q x (step_made s r.at) (subst (λ i. Sum i r.total) e g.sum) (omega (arith, g.close)) h in
    record {
      text = g.text ++ text_of r.total x;
      wrote = wrote_more g.wrote m w l;
      rest =
          append_assoc g.text (text_of r.total x) (rest q.total q.at)
          ∙ ap (λ y. g.text ++ y) (sym o.0)
          ∙ subst (λ i. g.text ++ printed_from as_doubles i s r.total r.at ≡ printed s) e g.rest;
      room = omega (arith, g.room, w.count);
      close = o.2;
      sum = o.1;
    }

ending : (rest : Float → ℕ → List ℕ) (r : Reached) (x : Result (Option Step) Fault) → reached_after r x ≡ None → printed_by as_doubles rest r.total r.at x ≡ text_of r.total x
ending rest r (Ok None) h = refl
ending rest r (Err f) h = refl
ending rest r (Ok (Some (Drive m))) h = absurd cc
ending rest r (Ok (Some (Wait x n))) h = absurd cc

-- a last line that stands in the place of a step
pub finish_step : {s before after part : List ℕ} {n k left : ℕ} {r : Reached} (more : ℕ) → Going s before after n r left → length after ≡ length before → left ≡ suc more
    → reached_after r (step_at s r.at) ≡ None → Wrote (take (length after - n) (drop n after)) part (text_of r.total (step_at s r.at)) k
    → length part ≡ length (take (length after - n) (drop n after))
    → Wrote before (take n after ++ (part ++ drop (length after - n) (drop n after))) (printed s) (n + k)
unfolding printed_from
finish_step {s} {before} {after} {part} {n} {k} {left} {r} more g m e h w l =
    let all : g.text ++ text_of r.total (step_at s r.at) ≡ printed s =
    ap (λ y. g.text ++ y) (sym (ending (printed_from as_doubles more s) r (step_at s r.at) h)) ∙ subst (λ i. g.text ++ printed_from as_doubles i s r.total r.at ≡ printed s) e g.rest in
    rw (← all) (wrote_more g.wrote m w l)

-- or that comes after all the steps
pub finish_last : {s before after part : List ℕ} {n k left : ℕ} {r : Reached} → Going s before after n r left → length after ≡ length before → left ≡ 0
    → Wrote (take (length after - n) (drop n after)) part (last_text as_doubles r.total (beyond_at s r.at)) k
    → length part ≡ length (take (length after - n) (drop n after))
    → Wrote before (take n after ++ (part ++ drop (length after - n) (drop n after))) (printed s) (n + k)
unfolding printed_from
finish_last {s} {before} {after} {part} {n} {k} {left} {r} g m e w l =
    let all : g.text ++ last_text as_doubles r.total (beyond_at s r.at) ≡ printed s = subst (λ i. g.text ++ printed_from as_doubles i s r.total r.at ≡ printed s) e g.rest in
    rw (← all) (wrote_more g.wrote m w l)
