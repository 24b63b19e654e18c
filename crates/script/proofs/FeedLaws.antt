-- A run of bytes, one after the other. Assumes nothing.
use Prim.Native.Char.{code}
use Prim.Native.Nat.{ℕ, ◌+◌, ◌-◌, ◌<◌, ◌≤◌}
use mathlib.Core.Path.{◌≡◌, refl}
use mathlib.Core.List.{List, [], ◌∷◌, ◌++◌, append_assoc}
use mathlib.Core.Bool.{Bool, true, false, cond}
use native.Mathlib.Nat.{zero-add}
use native.Mathlib.Numerals.{add-one}
use native.Mathlib.Omega.{arith}
use lib.Dec.{eqb}
use lib.ListN.{length, take, drop, get_or, length-append}
use lib.Seq.{drop-cons, take_at, length-take-le}
use Rattle.digits.specs.Bytes.{put}
use Rattle.digits.proofs.PutLaws.{put_after, put_part, put_rest}
use Rattle.text.specs.Text.{Wrote}
use Rattle.jobs.specs.Holding.{held_size}
use Rattle.jobs.proofs.HoldLaws.{kept_few}
use Rattle.running.specs.Running.{line_done}
use Rattle.running.proofs.RunLaws.{line_within}
use Rattle.script.specs.Stream.{Stepped, Prints, byte_read, end_read, streamed}

-- nothing is read yet
pub prints_none : (first : Bool) (t held bytes : List ℕ) → Prints first t held bytes [] first t held bytes
prints_none first t held bytes rest = refl

-- one more byte
pub prints_more : (first : Bool) (t held bytes written : List ℕ) (first₁ : Bool) (t₁ held₁ : List ℕ) (i : ℕ) → i < length bytes
    → Prints first t held bytes written first₁ t₁ held₁ (drop i bytes)
    → let r = byte_read first₁ t₁ held₁ (get_or bytes i 0) in Prints first t held bytes (written ++ r.text) r.first r.table r.held (drop (i + 1) bytes)
unfolding streamed
prints_more first t held bytes written first₁ t₁ held₁ i h f rest =
    rw (add-one i, append_assoc) (rw (drop-cons bytes i 0 h) at (f rest))

-- What a byte leaves held is never more than is held of a line.
either_held : (u : Bool) (a b : Stepped) → length a.held ≤ held_size → length b.held ≤ held_size → length (cond u a b).held ≤ held_size
either_held true a b h l = h
either_held false a b h l = l

pub held_few : (first : Bool) (t held : List ℕ) (b : ℕ) → length held ≤ held_size → length (byte_read first t held b).held ≤ held_size
unfolding byte_read
held_few first t held b h = either_held (eqb b (code "\n")) _ _ (omega arith) (kept_few held b h)

-- A byte's text takes no more than 235 bytes.
either_within : (u : Bool) (a b : Stepped) → length a.text ≤ 235 → length b.text ≤ 235 → length (cond u a b).text ≤ 235
either_within true a b h l = h
either_within false a b h l = l

pub byte_within : (first : Bool) (t held : List ℕ) (b : ℕ) → length (byte_read first t held b).text ≤ 235
unfolding byte_read
byte_within first t held b = either_within (eqb b (code "\n")) _ _ (line_within first t held) (omega arith)

-- What is written at the front of the k bytes that are lent stands at the front of the whole buffer.
pub wrote_front : (t r o x : List ℕ) (n k : ℕ) → k ≤ length t → length x ≤ k → r ≡ take k t → Wrote r o x n → Wrote t (o ++ drop k t) x n
wrote_front t r o x n k h l e w = record { count = w.count; buffer = rw (w.buffer, e) (put_part t x 0 k 0 (omega arith) (omega arith)) }

-- what is written by now, with the text that is written behind it
pub front_more : (t o x : List ℕ) (n r : ℕ) → n + r ≤ length t → Wrote (take (length t - n) (drop n t)) o x r
    → take (n + r) (take n t ++ (o ++ drop (length t - n) (drop n t))) ≡ take n t ++ x
unfolding put
front_more t o x n r h w =
    let e : length (take n t) ≡ n = length-take-le n t (omega arith) in
    rw (w.buffer, put_rest t x n (omega (arith, w.count)), w.count, ← append_assoc)
    (take_at (take n t ++ x) (drop (n + length x) t) (n + length x) (rw length-append (omega arith)))

-- At the end an empty line is none, and one that has a byte is done as any other.
pub end_none : (first : Bool) (t s : List ℕ) → length s ≡ 0 → end_read first t s ≡ []
unfolding end_read
end_none first t [] h = refl
end_none first t (b ∷ s) h = absurd (omega arith)

pub end_some : (first : Bool) (t s : List ℕ) → 0 < length s → end_read first t s ≡ (line_done first t s).text
unfolding end_read
end_some first t [] h = absurd (omega arith)
end_some first t (b ∷ s) h = refl

-- What is put after what stands at the front of a buffer stands there with it.
pub put_onward : (o₀ o w x : List ℕ) (k : ℕ) → o ≡ put o₀ 0 w → length w ≡ k → k + length x ≤ length o₀ → put o k x ≡ put o₀ 0 (w ++ x)
put_onward o₀ o w x k e m h = rw (e, ← m, ← put_after o₀ w x 0 (omega arith), zero-add)
