-- Texts that are written one after the other. Assumes nothing.
use Prim.Native.Char.{code}
use Prim.Native.Nat.{ℕ, zero, suc, ◌+◌, ◌-◌, ◌*◌, ◌<◌, ◌≤◌}
use mathlib.Core.Path.{◌≡◌, refl, sym, ◌∙◌}
use mathlib.Core.List.{List, [], ◌∷◌, ◌++◌}
use mathlib.Core.Bool.{Bool, true, false, cond}
use native.Mathlib.Nat.{zero-add}
use native.Mathlib.Numerals.{add-one}
use native.Mathlib.Omega.{arith}
use lib.Dec.{eqb}
use lib.ListN.{length, take, drop, get_or, set, length-append}
use Rattle.digits.specs.Bytes.{put, gather}
use Rattle.digits.specs.Places.{origin}
use Rattle.text.specs.Text.{Wrote, bytes, hex_digit}
use Rattle.digits.proofs.PutLaws.{put_none, stores_put, put_after, put_rest, put_length}
use Rattle.text.proofs.TextLaws.{decimal_within, signed_within}
use Rattle.jobs.specs.Texts.{plain_text, reply_text, signed_text, net_text, net_texts}

-- a byte that is stored is a text of one byte
pub set_put : (t : List ℕ) (i v : ℕ) → i < length t → set t i v ≡ put t i (v ∷ [])
set_put t i v h = stores_put (v ∷ []) t i (omega arith)

-- a text right after the one at the front
pub text_more : (t x y : List ℕ) (n : ℕ) → n ≡ length x → n ≤ length t → put (put t 0 x) n y ≡ put t 0 (x ++ y)
text_more t x y n e h =
    let p : n ≡ 0 + length x = rw zero-add e in
    rw p (put_after t x y 0 (omega arith))

-- a byte right after it
pub text_byte : (t x : List ℕ) (v n : ℕ) → n ≡ length x → n < length t → set (put t 0 x) n v ≡ put t 0 (x ++ (v ∷ []))
text_byte t x v n e h =
    let l : length (put t 0 x) ≡ length t = put_length t 0 x (omega arith) in
    rw (set_put (put t 0 x) n v (omega arith)) (text_more t x (v ∷ []) n e (omega arith))

-- The same of what a writer leaves: nothing,
pub wrote_none : (t : List ℕ) → Wrote t t [] 0
wrote_none t = record { count = refl; buffer = sym (put_none t 0) }

-- a byte more,
pub wrote_byte : (t o x : List ℕ) (v n : ℕ) → n < length t → Wrote t o x n → Wrote t (set o n v) (x ++ (v ∷ [])) (n + 1)
wrote_byte t o x v n h w =
    record { count = rw length-append (omega (arith, w.count)); buffer = rw w.buffer (text_byte t x v n w.count h) }

-- and a text more, which is written into all that is left of a buffer of m bytes.
pub wrote_more : (t o x o₁ y : List ℕ) (n r m : ℕ) → length t ≡ m → n + r ≤ m → Wrote t o x n → Wrote (take (m - n) (drop n o)) o₁ y r
    → Wrote t (take n o ++ (o₁ ++ drop (m - n) (drop n o))) (x ++ y) (n + r)
wrote_more t o x o₁ y n r m e h w v =
    let long : length o ≡ m = rw w.buffer (put_length t 0 x (omega (arith, w.count)) ∙ e) in
    record {
      count = rw length-append (omega (arith, w.count, v.count));
      buffer =
          rw (v.buffer, ← long, put_rest o y n (omega (arith, v.count)), w.buffer)
          (text_more t x y n w.count (omega arith));
    }

-- a reply that has a byte stands as it is, and either way the text has no more than one byte more
pub reply_some : (s : List ℕ) → 0 < length s → reply_text s ≡ s
reply_some [] h = absurd (omega arith)
reply_some (b ∷ s) h = refl

pub reply_within : (s : List ℕ) → length (reply_text s) ≤ 1 + length s
unfolding bytes
reply_within [] = omega arith
reply_within (b ∷ s) = omega arith

-- A number takes no more than ten bytes.
pub plain_within : (n : ℕ) → length (plain_text n) ≤ 10
plain_within n = decimal_within 1 n (omega arith)

-- A net takes no more than fourteen bytes.
pub net_within : (c net : ℕ) → length (net_text c net) ≤ 14
unfolding net_text
net_within c net = go (eqb net origin)
  where
    go : (t : Bool) → length (cond t [] (code " " ∷ hex_digit c ∷ code ":" ∷ signed_text net)) ≤ 14
    go true = omega arith
    go false = omega (arith, signed_within 1 net (omega arith))

-- So take the nets of k channels no more than 14 k.
pub nets_within : (nets : List ℕ) (k : ℕ) → length (net_texts nets k) ≤ 14 * k
unfolding gather
nets_within nets zero = omega arith
nets_within nets (suc k) = rw length-append (omega (arith, nets_within nets k, net_within k (get_or nets k origin)))

-- and with the number before them no more than ten bytes besides
pub waited_within : (n : ℕ) (nets : List ℕ) (k : ℕ) → length (plain_text n ++ net_texts nets k) ≤ 10 + 14 * k
waited_within n nets k = rw length-append (omega (arith, plain_within n, nets_within nets k))

-- one more channel
pub nets_more : (nets : List ℕ) (k : ℕ) → net_texts nets k ++ net_text k (get_or nets k origin) ≡ net_texts nets (k + 1)
unfolding gather
nets_more nets k = rw add-one

pub nets_none : (nets : List ℕ) → net_texts nets 0 ≡ []
unfolding gather
nets_none nets = refl
