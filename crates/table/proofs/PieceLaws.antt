-- Pieces of one width, one after the other, and what stands in a buffer after a write. Assumes nothing.
use mathlib.Core.Path.{◌≡◌, refl, sym, ◌∙◌}
use mathlib.Core.List.{List, [], ◌∷◌, ◌++◌, append_assoc, append-nil, flat_map}
use mathlib.Core.Bool.{Bool, true, ◌&&◌, and-true, and_assoc}
use Prim.Native.Nat.{ℕ, zero, suc, ◌+◌, ◌*◌, ◌-◌, ◌≤◌, ◌<◌}
use native.Mathlib.Nat.{mul-suc, mul-zero, add_comm, add-sub_cancel_left}
use native.Mathlib.Omega.{arith}
use lib.ListN.{length, take, drop, length-append, length-take, length-drop, take-append-drop}
use lib.Seq.{drop-drop, take_at, drop_at, take-append-le, drop-append-le}
use Rattle.digits.specs.Bytes.{part, put, pieces, every, gather}
use Rattle.motor.proofs.SoundLaws.{and_l, and_r}

-- One piece more is the piece that stands after the others.
pub pieces_more : (w k : ℕ) (s : List ℕ) → pieces w (suc k) s ≡ pieces w k s ++ (take w (drop (w * k) s) ∷ [])
unfolding pieces
pieces_more w zero s = rw mul-zero
pieces_more w (suc k) s =
    rw (pieces_more w k (drop w s), drop-drop (w * k) w s, mul-suc, add_comm (w * k) w)

-- The test at one piece more.
every_append : (f : List ℕ → Bool) (a b : List (List ℕ)) → every f (a ++ b) ≡ (every f a && every f b)
unfolding every
every_append f [] b = refl
every_append f (x ∷ a) b = rw (every_append f a b, and_assoc)

pub every_more : (f : List ℕ → Bool) (w k : ℕ) (s : List ℕ)
    → every f (pieces w (suc k) s) ≡ (every f (pieces w k s) && f (take w (drop (w * k) s)))
unfolding every
every_more f w k s = rw (pieces_more w k s, every_append f (pieces w k s) (take w (drop (w * k) s) ∷ []), and-true)

-- Where the test passes at every piece it passes at each, and the other way round.
pub every_each : (f : List ℕ → Bool) (w n : ℕ) (s : List ℕ) (k : ℕ)
    → every f (pieces w n s) ≡ true → k < n → f (take w (drop (w * k) s)) ≡ true
unfolding every pieces
every_each f w zero s k e h = absurd (omega arith)
every_each f w (suc n) s zero e h = rw mul-zero (and_l (f (take w s)) _ e)
every_each f w (suc n) s (suc k) e h =
    let tail : f (take w (drop (w * k) (drop w s))) ≡ true = every_each f w n (drop w s) k (and_r (f (take w s)) _ e) (omega arith) in
    rw (mul-suc, add_comm (w * k) w, ← drop-drop (w * k) w s) tail

pub each_every : (f : List ℕ → Bool) (w n : ℕ) (s : List ℕ)
    → ((k : ℕ) → k < n → f (take w (drop (w * k) s)) ≡ true) → every f (pieces w n s) ≡ true
unfolding every pieces
each_every f w zero s h = refl
each_every f w (suc n) s h =
    rw (every_more f w n s, each_every f w n s (λ k l. h k (omega arith)), h n (omega arith))

-- What is made of the pieces, with one piece more.
flat_append : (f : List ℕ → List ℕ) (a b : List (List ℕ)) → flat_map f (a ++ b) ≡ flat_map f a ++ flat_map f b
unfolding flat_map
flat_append f [] b = refl
flat_append f (x ∷ a) b = rw (flat_append f a b, append_assoc)

pub flat_more : (f : List ℕ → List ℕ) (w k : ℕ) (s : List ℕ)
    → flat_map f (pieces w (suc k) s) ≡ flat_map f (pieces w k s) ++ f (take w (drop (w * k) s))
unfolding flat_map
flat_more f w k s = rw (pieces_more w k s, flat_append f (pieces w k s) (take w (drop (w * k) s) ∷ []), append-nil)

-- Where each makes n bytes, k of them make n times k.
pub flat_length : (f : List ℕ → List ℕ) (w n k : ℕ) (s : List ℕ) → ((r : List ℕ) → length (f r) ≡ n)
    → length (flat_map f (pieces w k s)) ≡ n * k
unfolding flat_map pieces
flat_length f w n zero s h = rw mul-zero
flat_length f w n (suc k) s h =
    rw (flat_more f w k s, length-append, flat_length f w n k s h, h (take w (drop (w * k) s)), mul-suc)

pub gather_length : (f : ℕ → List ℕ) (n k : ℕ) → ((c : ℕ) → length (f c) ≡ n) → length (gather f k) ≡ n * k
unfolding gather
gather_length f n zero h = rw mul-zero
gather_length f n (suc k) h = rw (length-append, gather_length f n k h, h k, mul-suc)

-- A write right after a first part leaves that part, and takes the place of as many bytes of the rest.
pub put_next : (p s b : List ℕ) (n : ℕ) → length p ≡ n → put (p ++ s) n b ≡ p ++ (b ++ drop (length b) s)
unfolding put
put_next p s b n e = rw (take_at p s n e, ← drop-drop (length b) n (p ++ s), drop_at p s n e)

-- A part that was lent and written anew, back in its place.
pub put_lent : (t b : List ℕ) (a n : ℕ) → length b ≡ n → take a t ++ (b ++ drop (a + n - a) (drop a t)) ≡ put t a b
unfolding put
put_lent t b a n e = rw (add-sub_cancel_left, drop-drop, e)

-- A part written back where it stands leaves the buffer as it is.
pub put_back : (t : List ℕ) (at n : ℕ) → at + n ≤ length t → put t at (part t at n) ≡ t
unfolding put part
put_back t at n h =
    let e : length (take n (drop at t)) ≡ n = rw (length-take, length-drop) (omega arith) in
    rw (e, ← drop-drop n at t, take-append-drop n (drop at t), take-append-drop at t)

-- What is read where it was written, before it, and after it.
pub part_same : (t b : List ℕ) (at n : ℕ) → length b ≡ n → at ≤ length t → part (put t at b) at n ≡ b
unfolding part put
part_same t b at n e h =
    rw (drop_at (take at t) (b ++ drop (at + length b) t) at (rw length-take (omega arith)), take_at b (drop (at + length b) t) n e)

part_front : (p q : List ℕ) (i n : ℕ) → i + n ≤ length p → part (p ++ q) i n ≡ part p i n
unfolding part
part_front p q i n h =
    rw (drop-append-le i p q (omega arith), take-append-le n (drop i p) q (rw length-drop (omega arith)))

pub part_before : (t b : List ℕ) (at i n : ℕ) → i + n ≤ at → at ≤ length t → part (put t at b) i n ≡ part t i n
unfolding put
part_before t b at i n h l =
    let front : i + n ≤ length (take at t) = rw length-take (omega arith) in
    part_front (take at t) (b ++ drop (at + length b) t) i n front
    ∙ sym (part_front (take at t) (drop at t) i n front)
    ∙ rw (take-append-drop at t)

pub part_after : (t b : List ℕ) (at i n : ℕ) → at + length b ≤ i → at ≤ length t → part (put t at b) i n ≡ part t i n
unfolding part put
part_after t b at i n h l =
    let end = at + length b in
    let j : i ≡ end + (i - end) = omega arith in
    let tail : drop end (take at t ++ (b ++ drop end t)) ≡ drop end t =
    rw (← drop-drop (length b) at (take at t ++ (b ++ drop end t)), drop_at (take at t) (b ++ drop end t) at (rw length-take (omega arith)), drop_at b (drop end t) (length b) refl) in
    rw (j, ← drop-drop (i - end) end (take at t ++ (b ++ drop end t)), tail, drop-drop)
