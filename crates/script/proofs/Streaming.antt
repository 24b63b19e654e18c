-- Reading a byte at a time prints what bench prints. Assumes nothing.
use Prim.Native.Char.{code}
use Prim.Native.Nat.{ℕ, ◌<◌}
use mathlib.Core.Path.{◌≡◌, refl, sym}
use mathlib.Core.List.{List, [], ◌∷◌, ◌++◌, append_assoc, append-nil}
use mathlib.Core.Bool.{Bool, true, false, cond}
use native.Mathlib.Omega.{arith}
use Rattle.std.proofs.Common.{Option, Some, None}
use lib.Dec.{eqb, leb, ltb}
use lib.ListN.{length, take, drop, replicate, length-drop, length-append}
use lib.Seq.{take_all, take-append-le, length-take-le}
use borrow.Author.Tests.{leb-true, leb-false, lt-leb, le-leb, lt-ltb, ne_eqb}
use Rattle.line.proofs.Laws.{too_long}
use Rattle.table.specs.Layout.{table_size}
use Rattle.urqolina.specs.Calls.{command_call, fresh_call}
use Rattle.jobs.specs.declared.Job.{Job}
use Rattle.jobs.specs.declared.Job.TheVariants.{Send, Touch, Wait, FourMotors}
use Rattle.jobs.specs.Jobs.{job_if, joined, lines_of, touch_of, wait_of, card_of, lettered, job_of}
use Rattle.jobs.specs.Holding.{held_of, kept}
use Rattle.running.specs.Running.{sent, job_done, line_done}
use Rattle.script.specs.Output.{printed, bench}
use Rattle.script.specs.Stream.{Stepped, byte_read, end_read, streamed}

-- A command line of over 80 bytes has no form, so one such line is answered as any other.
long_command : (t a b reply : List ℕ) → 80 < length a → 80 < length b → command_call t a reply ≡ command_call t b reply
unfolding command_call
long_command t a b reply h l = rw (too_long a h, too_long b l)

long_sent : (t a b : List ℕ) → 80 < length a → 80 < length b → sent t a ≡ sent t b
unfolding sent
long_sent t a b h l = rw (long_command t a b (replicate 32 0) h l)

-- A long line is none of `S x n`, `T n` and `K 1`.
long_touch : (s : List ℕ) → 80 < length s → touch_of s ≡ None
unfolding touch_of
long_touch s h = rw (ne_eqb (length s) 3 (λ e. omega arith))

long_wait : (s : List ℕ) → 80 < length s → wait_of s ≡ None
unfolding wait_of
long_wait s h = rw (le-leb 1 (length s) (omega arith), lt-leb (length s) 5 (omega arith))

long_card : (first : Bool) (s : List ℕ) → 80 < length s → card_of first s ≡ None
unfolding card_of
long_card first s h = rw (ne_eqb (length s) 1 (λ e. omega arith))

-- What stands after the letter and its blank may be cut anywhere past 80 bytes.
long_letter : (first : Bool) (k : ℕ) (a b : List ℕ) → 80 < length a → 80 < length b → lettered first k a ≡ lettered first k b
unfolding lettered
long_letter first k a b h l = rw (long_touch a h, long_touch b l, long_wait a h, long_wait b l, long_card first a h, long_card first b l)

-- So a line asks for the same as what is held of it
held_job : (first : Bool) (s : List ℕ) → job_of first (held_of s) ≡ job_of first s
unfolding job_of
held_job first [] = refl
held_job first (k ∷ []) = refl
held_job first (k ∷ b ∷ s) = go (leb (length s) 94) refl
  where
    go : (t : Bool) → leb (length s) 94 ≡ t
        → job_if (eqb b (code " ")) (lettered first k (take 94 s)) ≡ job_if (eqb b (code " ")) (lettered first k s)
    go true e = rw (take_all 94 s (leb-true (length s) 94 e))
    go false e =
        let l : length (take 94 s) ≡ 94 = length-take-le 94 s (omega (arith, leb-false (length s) 94 e)) in
        rw (long_letter first k (take 94 s) s (omega arith) (omega (arith, leb-false (length s) 94 e)))

same_done : (t s : List ℕ) (j : Option Job) → job_done t (held_of s) j ≡ job_done t s j
same_done t s (Some Send) = go (leb (length s) 96) refl
  where
    go : (u : Bool) → leb (length s) 96 ≡ u → sent t (drop 2 (take 96 s)) ≡ sent t (drop 2 s)
    go true e = rw (take_all 96 s (leb-true (length s) 96 e))
    go false e =
        let l : length (take 96 s) ≡ 96 = length-take-le 96 s (omega (arith, leb-false (length s) 96 e)) in
        long_sent t (drop 2 (take 96 s)) (drop 2 s)
        (rw length-drop (omega arith))
        (rw length-drop (omega (arith, leb-false (length s) 96 e)))
same_done t s (Some (Touch c n)) = refl
same_done t s (Some (Wait n)) = refl
same_done t s (Some FourMotors) = refl
same_done t s None = refl

-- and what is held of it is answered as the line is.
pub held_done : (first : Bool) (t s : List ℕ) → job_done t (held_of s) (job_of first (held_of s)) ≡ job_done t s (job_of first s)
held_done first t s = rw (held_job first s) (same_done t s (job_of first s))

-- What is held with one more byte is what is held of the line with that byte.
pub kept_held : (s : List ℕ) (b : ℕ) → kept (held_of s) b ≡ held_of (s ++ (b ∷ []))
unfolding kept
kept_held s b = go (leb (length s) 95) refl
  where
    go : (t : Bool) → leb (length s) 95 ≡ t
        → cond (ltb (length (take 96 s)) 96) (take 96 s ++ (b ∷ [])) (take 96 s) ≡ take 96 (s ++ (b ∷ []))
    go true e =
        let h = leb-true (length s) 95 e in
        rw (take_all 96 s (omega arith), lt-ltb (length s) 96 (omega arith), take_all 96 (s ++ (b ∷ [])) (rw length-append (omega arith)))
    go false e =
        let h = leb-false (length s) 95 e in
        rw (take-append-le 96 s (b ∷ []) (omega arith), length-take-le 96 s (omega arith))

-- The lines of an input of which some bytes of the first line have been read already.
abbrev after : List ℕ → List (List ℕ) → List (List ℕ)
after [] ls = ls
after (b ∷ s) ls = joined b (after s ls)

after_more : (s : List ℕ) (b : ℕ) (ls : List (List ℕ)) → after (s ++ (b ∷ [])) ls ≡ after s (joined b ls)
after_more [] b ls = refl
after_more (a ∷ s) b ls = rw (after_more s b ls)

after_line : (s : List ℕ) (ls : List (List ℕ)) → after s ([] ∷ ls) ≡ s ∷ ls
after_line [] ls = refl
after_line (b ∷ s) ls = rw (after_line s ls)

after_end : (b : ℕ) (s : List ℕ) → after (b ∷ s) [] ≡ (b ∷ s) ∷ []
after_end b [] = refl
after_end b (a ∷ s) = rw (after_end a s)

-- A line by itself prints as it does among others.
line_first : (first : Bool) (t s : List ℕ) (ls : List (List ℕ))
    → printed first t (s ∷ ls) ≡ (line_done first t (held_of s)).text ++ printed false (line_done first t (held_of s)).table ls
unfolding printed line_done
line_first first t s ls = rw (held_done first t s, append_assoc)

none_printed : (first : Bool) (t : List ℕ) → printed first t [] ≡ []
unfolding printed
none_printed first t = refl

-- The end of the input ends a line that has a byte, and no other.
at_end : (first : Bool) (t s : List ℕ) → end_read first t (held_of s) ≡ printed first t (after s [])
unfolding end_read
at_end first t [] = sym (none_printed first t)
at_end first t (b ∷ s) =
    rw (after_end b s, line_first first t (b ∷ s) [], none_printed false (line_done first t (held_of (b ∷ s))).table, append-nil)

-- The rest of an input, from what is held of a line, prints what the whole lines print.
from_held : (input : List ℕ) (first : Bool) (t s : List ℕ) → streamed first t (held_of s) input ≡ printed first t (after s (lines_of input))
unfolding streamed lines_of byte_read
from_held [] first t s = at_end first t s
from_held (b ∷ input) first t s = go (eqb b (code "\n")) (from_held input)
  where
    ended : Stepped
    ended = record { first = false; table = (line_done first t (held_of s)).table; held = []; text = (line_done first t (held_of s)).text }

    more : Stepped
    more = record { first = first; table = t; held = kept (held_of s) b; text = [] }

    go : (u : Bool) → ((first : Bool) (t s : List ℕ) → streamed first t (held_of s) input ≡ printed first t (after s (lines_of input)))
        → (cond u ended more).text ++ streamed (cond u ended more).first (cond u ended more).table (cond u ended more).held input
        ≡ printed first t (after s (cond u ([] ∷ lines_of input) (joined b (lines_of input))))
    go true rest = rw (after_line s (lines_of input), line_first first t s (lines_of input), ← rest false (line_done first t (held_of s)).table [])
    go false rest = rw (kept_held s b, rest first t (s ++ (b ∷ [])), after_more s b (lines_of input))

-- bench, a byte at a time: from the fresh table and nothing held, the texts of the steps one after the other are what it prints.
pub bench_streamed : (input : List ℕ) → streamed true (fresh_call (replicate table_size 0) 0).table [] input ≡ bench input
unfolding bench
bench_streamed input = from_held input true (fresh_call (replicate table_size 0) 0).table []
