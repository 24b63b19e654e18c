-- One byte more of a line that is held at the front of a buffer. Assumes nothing.
use Prim.Native.Nat.{ℕ, ◌+◌, ◌-◌, ◌≤◌, ◌<◌}
use mathlib.Core.Path.{◌≡◌, refl, sym}
use mathlib.Core.List.{List, [], ◌∷◌, ◌++◌, append_assoc}
use mathlib.Core.Bool.{Bool, true, false, cond}
use native.Mathlib.Omega.{arith}
use native.Mathlib.Nat.{zero-add}
use native.Mathlib.Numerals.{add-one}
use lib.Dec.{ltb}
use lib.ListN.{length, take, drop, set, replicate, length-append, take-append-drop}
use lib.Seq.{length-take-le, take_at, set_split}
use Rattle.std.proofs.lemmas.List.{drop-drop, drop-replicate, drop-set-lt}
use borrow.Author.Tests.{lt-ltb, le-ltb, ltb-true}
use Rattle.digits.specs.Bytes.{put}
use Rattle.text.specs.Text.{Wrote}
use Rattle.jobs.specs.Holding.{held_size, kept}

-- Where there is room, it is stored behind what is held; where there is none, nothing is.
pub kept_stored : (s : List ℕ) (n b : ℕ) → length s ≡ held_size → n < held_size → Wrote s (set s n b) (kept (take n s) b) (n + 1)
unfolding kept put
kept_stored s n b e h =
    let l : length (take n s) ≡ n = length-take-le n s (omega arith) in
    let m : length (take n s ++ (b ∷ [])) ≡ n + 1 = rw length-append (omega arith) in
    rw (l, lt-ltb n 96 h) (record { count = sym m; buffer = rw (zero-add, m, set_split s n b (omega arith), append_assoc, add-one n) })

pub kept_left : (s : List ℕ) (n b : ℕ) → length s ≡ held_size → n ≤ held_size → held_size ≤ n → Wrote s s (kept (take n s) b) n
unfolding kept put
kept_left s n b e h full =
    let l : length (take n s) ≡ n = length-take-le n s (omega arith) in
    rw (l, le-ltb n 96 full) (record { count = sym l; buffer = rw (l, zero-add) (sym (take-append-drop n s)) })

-- Behind the byte that is stored there are zeros still.
pub zeros_left : (s : List ℕ) (n b : ℕ) → n < held_size → drop n s ≡ replicate (held_size - n) 0 → drop (n + 1) (set s n b) ≡ replicate (held_size - (n + 1)) 0
zeros_left s n b h z =
    let k : held_size - n - 1 ≡ held_size - (n + 1) = omega arith in
    rw (drop-set-lt (n + 1) s n b (omega arith), ← drop-drop 1 n s, z, drop-replicate {X = ℕ} 1 (held_size - n) 0, k)

-- What is held of at most as many bytes has no more with one byte more, and stands at the front of a buffer that it is written into.
pub kept_few : (held : List ℕ) (b : ℕ) → length held ≤ held_size → length (kept held b) ≤ held_size
unfolding kept
kept_few held b h = go (ltb (length held) held_size) refl
  where
    go : (t : Bool) → ltb (length held) held_size ≡ t → length (cond t (held ++ (b ∷ [])) held) ≤ held_size
    go true e = rw length-append (omega (arith, ltb-true (length held) held_size e))
    go false e = h

pub held_front : (s held : List ℕ) → take (length held) (put s 0 held) ≡ held
unfolding put
held_front s held = rw zero-add (take_at held (drop (length held) s) (length held) refl)

-- So what a writer leaves at the front of a buffer is its text.
pub wrote_take : (t o x : List ℕ) (n : ℕ) → Wrote t o x n → take n o ≡ x
wrote_take t o x n w = rw (w.buffer, w.count) (held_front t x)
