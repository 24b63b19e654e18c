-- What is written byte by byte, or into a part that was lent, as one `put` into the whole buffer.
-- Assumes nothing.
use Rattle.std.proofs.Common.{◌≡◌, ℕ, suc, ◌+◌, ◌-◌, ◌<◌, ◌≤◌, List, [], ◌∷◌, ◌++◌, length, get_or, take, drop, set, sym, ◌∙◌, append_assoc, append-nil, add-zero, add_assoc, add-suc, suc-add, zero-add, add-one, arith, length-append, length-drop, take-append-drop, length-take, take-suc, take-take, drop-drop, take_at, take-add, drop_at}
use lib.Seq.{drop-length, sets, sets-eq, set_at, take-append-le, drop-append-le}
use Rattle.digits.specs.Bytes.{put, joined}

-- nothing is put
pub put_none : (t : List ℕ) (i : ℕ) → put t i [] ≡ t
unfolding put
put_none t i = rw add-zero (take-append-drop i t)

-- a byte written before the bytes that are put already
pub put_more : (t b : List ℕ) (i v : ℕ) → i < length t → set (put t (i + 1) b) i v ≡ put t i (v ∷ b)
unfolding put
put_more t b i v h =
    let e : length (take i t) ≡ i = rw length-take (omega arith) in
    rw (add-one i, take-suc t i 0 h, append_assoc, set_at (take i t) (get_or t i 0) (b ++ drop (suc i + length b) t) v i e, suc-add, add-suc)

-- a byte written at the front, and the rest put after it
pub put_front : (t b : List ℕ) (v : ℕ) → 0 < length t → put (set t 0 v) 1 b ≡ put t 0 (v ∷ b)
unfolding put
put_front t b v h = grind arith

-- a text put right after another
pub put_after : (t x y : List ℕ) (a : ℕ) → a + length x ≤ length t → put (put t a x) (a + length x) y ≡ put t a (x ++ y)
unfolding put
put_after t x y a h =
    let n = a + length x in
    let p = take a t ++ x in
    let e : length p ≡ n = rw (length-append, length-take) (omega arith) in
    let tail : drop (n + length y) (p ++ drop n t) ≡ drop (n + length y) t =
    rw (← drop-drop (length y) n (p ++ drop n t), drop_at p (drop n t) n e, drop-drop) in
    rw (← append_assoc (take a t) x (drop n t), take_at p (drop n t) n e, tail, length-append, add_assoc) (simp append_assoc)

-- what is put into the k bytes that were lent from `a` on, with the part back in its place
pub put_part : (t b : List ℕ) (a k i : ℕ) → a + k ≤ length t → i + length b ≤ k
    → take a t ++ (put (take k (drop a t)) i b ++ drop k (drop a t)) ≡ put t (a + i) b
unfolding put
put_part t b a k i h l =
    let m = take k (drop a t) in
    let room : i + length b ≤ length m = rw (length-take, length-drop) (omega arith) in
    let tail : drop (i + length b) m ++ drop k (drop a t) ≡ drop (a + i + length b) t =
    sym (drop-append-le (i + length b) m (drop k (drop a t)) room)
    ∙ rw (take-append-drop k (drop a t), drop-drop, add_assoc) in
    rw (append_assoc, append_assoc, tail, take-take i k (drop a t) (omega arith), take-add a i t, append_assoc)

-- the same where all the bytes from `a` on were lent
pub put_rest : (t b : List ℕ) (a : ℕ) → a + length b ≤ length t
    → take a t ++ (put (take (length t - a) (drop a t)) 0 b ++ drop (length t - a) (drop a t)) ≡ put t a b
put_rest t b a h = rw (put_part t b a (length t - a) 0 (omega arith) (omega arith), add-zero)

-- what is written over the k bytes that were lent from `at` on
pub put_lent : (s b : List ℕ) (at k : ℕ) → length b ≡ k → take at s ++ (b ++ drop (at + k - at) (drop at s)) ≡ put s at b
unfolding put
put_lent s b at k e = let n : at + k - at ≡ length b = omega arith in rw (n, drop-drop)

-- A run of stores, one byte after the other, is what is written at once.
pub stores_put : (b s : List ℕ) (at : ℕ) → at + length b ≤ length s → sets s at b ≡ put s at b
unfolding put
stores_put b s at h = sets-eq b s at h ∙ append_assoc (take at s) b (drop (at + length b) s)

-- What is written keeps the buffer's length.
pub put_length : (s : List ℕ) (at : ℕ) (b : List ℕ) → at + length b ≤ length s → length (put s at b) ≡ length s
unfolding put
put_length s at b h = simp (length-append, length-take, length-drop) (omega arith)

-- What is written over the whole buffer is all that it holds.
pub put_whole : (s b : List ℕ) → length b ≡ length s → put s 0 b ≡ b
unfolding put
put_whole s b e = rw (zero-add, e, drop-length s, append-nil)

-- runs of bytes written one after the other, from a place on
abbrev pub lay : List ℕ → ℕ → List (List ℕ) → List ℕ
lay s at [] = s
lay s at (b ∷ bs) = lay (put s at b) (at + length b) bs

-- Runs written one after the other are all written at once.
pub lay_put : (bs : List (List ℕ)) (s : List ℕ) (at : ℕ) → at + length (joined bs) ≤ length s → lay s at bs ≡ put s at (joined bs)
unfolding joined
lay_put [] s at h = sym (put_none s at)
lay_put (b ∷ bs) s at h =
    let n : length (b ++ joined bs) ≡ length b + length (joined bs) = length-append b (joined bs) in
    let l : length (put s at b) ≡ length s = put_length s at b (omega arith) in
    rw (lay_put bs (put s at b) (at + length b) (omega arith)) (put_after s b (joined bs) at (omega arith))

-- What is written over what was written before is all that counts.
pub put_over : (t x y : List ℕ) (a : ℕ) → length x ≡ length y → a + length x ≤ length t → put (put t a x) a y ≡ put t a y
unfolding put
put_over t x y a e h =
    let front : length (take a t) ≡ a = rw length-take (omega arith) in
    let rest = x ++ drop (a + length x) t in
    rw (take_at (take a t) rest a front, ← drop-drop (length y) a (take a t ++ rest), drop_at (take a t) rest a front, drop_at x (drop (a + length x) t) (length y) e, e)

-- Two writes that do not touch each other may change places.
put_apart : (t x y : List ℕ) (a m : ℕ) → let b = a + length x + m in b + length y ≤ length t → put (put t a x) b y ≡ put (put t b y) a x
unfolding put
put_apart t x y a m l =
    let n = a + length x in
    let b = n + m in
    let p = take a t ++ x in
    let mid = take m (drop n t) in
    let end = y ++ drop (b + length y) t in
    let e : length p ≡ n = rw (length-append, length-take) (omega arith) in
    let upper : take b (p ++ drop n t) ≡ p ++ mid = rw (take-add n m (p ++ drop n t), take_at p (drop n t) n e, drop_at p (drop n t) n e) in
    let tail : drop (b + length y) (p ++ drop n t) ≡ drop (b + length y) t =
    let far : b + length y ≡ n + (m + length y) = omega arith in
    rw (far, ← drop-drop (m + length y) n (p ++ drop n t), drop_at p (drop n t) n e, drop-drop) in
    let lower : take a (take b t ++ end) ≡ take a t = take-append-le a (take b t) end (rw length-take (omega arith)) ∙ take-take a b t (omega arith) in
    let rest : drop n (take b t ++ end) ≡ mid ++ end =
    rw (take-add n m t, append_assoc, drop_at (take n t) (mid ++ end) n (rw length-take (omega arith))) in
    rw (← append_assoc (take a t) x (drop n t), upper, tail, lower, rest) (simp append_assoc)

pub put_swap : (t x y : List ℕ) (a b : ℕ) → a + length x ≤ b → b + length y ≤ length t → put (put t a x) b y ≡ put (put t b y) a x
put_swap t x y a b h l = let at : b ≡ a + length x + (b - (a + length x)) = omega arith in rw at (put_apart t x y a (b - (a + length x)) (omega arith))
