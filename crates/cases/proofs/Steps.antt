-- Calls with what they must give, as a list to be computed: each step names a call and states its number, its reply or its
-- pulses. `seen` is what the definitions give, `stated` what the list says; a checked list is the equation of the two. It is
-- computed on the library that does not judge its table, since from fresh on that gives the same.
use Prim.Native.Nat.{ℕ, ◌+◌, ◌*◌, ◌-◌}
use Prim.Native.String as S
use mathlib.Core.Path.{◌≡◌, refl, ap, ◌∙◌}
use mathlib.Core.List.{List, [], ◌∷◌, ◌++◌, map}
use mathlib.Core.Bool.{true, cond}
use native.Mathlib.Omega.{arith}
use lib.ListN.{length, replicate}
use lib.Dec.{eqb}
use Rattle.digits.specs.Bytes.{part, gather}
use Rattle.digits.specs.Words.{word_bytes}
use Rattle.digits.specs.Places.{count_of}
use Rattle.text.specs.Text.{bytes}
use Rattle.table.specs.Sound.{sound_table}
use Rattle.urqolina.specs.Calls.{fresh_call, tick_call}
use Rattle.laws.specs.Sequences as Q
use Rattle.laws.proofs.Following.{next}
use Rattle.laws.proofs.LastingLaws.{ran_sound}
use Rattle.cases.proofs.Unjudged.{unjudged, same_call}

-- a call, with what it must give
pub data Step : Type 0 where
  -- a command line, the number that it gives and the reply
  says : S.String → ℕ → S.String → Step
  -- a switch reading: channel and contacts, and its number
  reads : ℕ → ℕ → ℕ → Step
  -- an accepted tick: a channel, its direction (1 CW, 2 CCW) and the pulses that it gets; no other channel gets any
  ticks : ℕ → ℕ → ℕ → Step
  -- what stands in the table at an offset
  holds : ℕ → List ℕ → Step

-- the buffers that the calls are lent: full of AAh, so that a byte left alone shows
abbrev pub lent : ℕ → List ℕ
lent n = replicate n 0xaa

-- the bytes that a fresh call makes, of the sixteen-motor card, and of the four-motor card
unfoldable pub fresh : List ℕ
fresh = (fresh_call (lent 1088) 0).table

unfoldable pub fresh_four : List ℕ
fresh_four = (fresh_call (lent 1088) 1).table

-- what a step shows: its result, and the whole buffer after it
pub record Shown : Type 0 where
  pub result : ℕ
  pub buffer : List ℕ

-- a step made on a table by a library; a step that looks at the table changes nothing
unfoldable pub after : Q.Library → List ℕ → Step → Q.After
after l t (says s n r) = Q.after l t (Q.command (bytes s) (lent 32))
after l t (reads c k n) = Q.after l t (Q.reading c k)
after l t (ticks c g n) = Q.after l t (Q.tick (lent 64))
after l t (holds at b) = record { result = 0; table = t; buffer = part t at (length b) }

-- what a library shows for a list of steps, each made on the table that the one before it left
unfoldable pub seen_by : Q.Library → List ℕ → List Step → List Shown
seen_by l t [] = []
seen_by l t (s ∷ ss) =
    let a = after l t s in
    record { result = a.result; buffer = a.buffer } ∷ seen_by l a.table ss

-- the table that it leaves
unfoldable pub left_by : Q.Library → List ℕ → List Step → List ℕ
left_by l t [] = t
left_by l t (s ∷ ss) = left_by l (after l t s).table ss

-- what ours shows from fresh on
abbrev pub seen : List Step → List Shown
seen ss = seen_by Q.urqolina fresh ss

-- and on the four-motor card
abbrev pub seen_four : List Step → List Shown
seen_four ss = seen_by Q.urqolina fresh_four ss

-- what a tick gives on a table after each of some changes of its bytes; on the one that ours leaves from fresh on
abbrev pub ticks_on : List (List ℕ → List ℕ) → List ℕ → List ℕ
ticks_on changes t = map (λ f. (tick_call (f t) (lent 64)).result) changes

unfoldable pub tried : List Step → List (List ℕ → List ℕ) → List ℕ
tried ss changes = ticks_on changes (left_by Q.urqolina fresh ss)

-- the reply that a list states, in a lent buffer: the bytes past it as they were
abbrev pub replied : ℕ → List ℕ → Shown
replied n text = record { result = n + 256 * length text; buffer = text ++ lent (32 - length text) }

-- what the list states for a step
unfoldable pub stated : Step → Shown
stated (says s n r) = replied n (bytes r)
stated (reads c k n) = record { result = n; buffer = [] }
stated (ticks c g n) = record { result = 0; buffer = gather (λ k. word_bytes 4 (cond (eqb k c) (count_of g n) 0)) 16 }
stated (holds at b) = record { result = 0; buffer = b }

-- A step on a sound table is the same with the table judged and unjudged, and leaves a sound table.
same_step : (t : List ℕ) (s : Step) → sound_table t ≡ true → after Q.urqolina t s ≡ after unjudged t s
unfolding after
same_step t (says l n r) s = same_call t (Q.command (bytes l) (lent 32)) s
same_step t (reads c k n) s = same_call t (Q.reading c k) s
same_step t (ticks c g n) s = same_call t (Q.tick (lent 64)) s
same_step t (holds at b) s = refl

step_sound : (t : List ℕ) (s : Step) → sound_table t ≡ true → sound_table (after Q.urqolina t s).table ≡ true
unfolding after
step_sound t (says l n r) s = (next t (Q.command (bytes l) (lent 32)) s).sound
step_sound t (reads c k n) s = (next t (Q.reading c k) s).sound
step_sound t (ticks c g n) s = (next t (Q.tick (lent 64)) s).sound
step_sound t (holds at b) s = s

same_seen : (t : List ℕ) (ss : List Step) → sound_table t ≡ true → seen_by Q.urqolina t ss ≡ seen_by unjudged t ss
unfolding seen_by
same_seen t [] s = refl
same_seen t (k ∷ ks) s = rw (← same_step t k s, same_seen (after Q.urqolina t k).table ks (step_sound t k s))

same_left : (t : List ℕ) (ss : List Step) → sound_table t ≡ true → left_by Q.urqolina t ss ≡ left_by unjudged t ss
unfolding left_by
same_left t [] s = refl
same_left t (k ∷ ks) s = rw (← same_step t k s) (same_left (after Q.urqolina t k).table ks (step_sound t k s))

fresh_is_sound : sound_table fresh ≡ true
unfolding fresh Q.run
fresh_is_sound = ran_sound (record { bytes = lent 1088; whole = refl; card = 0; known = omega arith }) []

four_is_sound : sound_table fresh_four ≡ true
unfolding fresh_four Q.run
four_is_sound = ran_sound (record { bytes = lent 1088; whole = refl; card = 1; known = omega arith }) []

-- So a list is checked where it is with the table unjudged; a list of lists; and what ticks give on the table that a list leaves.
pub checked : (ss : List Step) → seen_by unjudged fresh ss ≡ map stated ss → seen ss ≡ map stated ss
checked ss e = same_seen fresh ss fresh_is_sound ∙ e

pub four_checked : (ss : List Step) → seen_by unjudged fresh_four ss ≡ map stated ss → seen_four ss ≡ map stated ss
four_checked ss e = same_seen fresh_four ss four_is_sound ∙ e

pub all_checked : (cs : List (List Step)) → map (seen_by unjudged fresh) cs ≡ map (λ c. map stated c) cs → map seen cs ≡ map (λ c. map stated c) cs
all_checked cs e = go cs ∙ e
  where
    go : (cs : List (List Step)) → map seen cs ≡ map (seen_by unjudged fresh) cs
    go [] = refl
    go (c ∷ cs) = rw (same_seen fresh c fresh_is_sound, go cs)

pub tried_checked : (ss : List Step) (changes : List (List ℕ → List ℕ)) (numbers : List ℕ) → ticks_on changes (left_by unjudged fresh ss) ≡ numbers
    → tried ss changes ≡ numbers
unfolding tried
tried_checked ss changes numbers e = ap (ticks_on changes) (same_left fresh ss fresh_is_sound) ∙ e
