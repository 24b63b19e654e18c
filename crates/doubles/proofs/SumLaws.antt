-- 02 §8: "added as doubles and proved equal to the whole-number sum". Assumes nothing.
use mathlib.Core.Path.{◌≡◌, sym, ap, ◌∙◌}
use mathlib.Core.Bool.{Bool, true, false, true≢false}
use Prim.Native.Nat.{ℕ, ◌+◌, ◌*◌, ◌/◌, ◌%◌, ◌≤◌}
use native.Mathlib.Nat.{mul-one, add-mul, mul_assoc, mul_comm, mul-pos, add-zero, div-add-mod'}
use native.Mathlib.Omega.{arith}
use lib.IntN.{ℤ, pos}
use borrow.Author.Tests.{eqb-true}
use lib.Ieee.{Float, nan, inf, fin, binary64, up, down, sum, add, of_int}
use lib.Ieee.Fits.{down_pos}
use lib.Ieee.Exact.{HasValue}
use lib.Ieee.Back.{round_whole}
use lib.Ieee.Scale.{round_same}
use Rattle.doubles.specs.Doubles.{is_whole, size_of, is_minus}

-- u / d and v / c are the whole numbers n and k: their sum over the common c * d is n + k
common : (u d v c n k : ℕ) → u ≡ n * d → v ≡ k * c → (u * c + v * d) * 1 ≡ (n + k) * (d * c)
common u d v c n k p q = rw (p, q, mul-one, add-mul) (rw (mul_assoc n d c, mul_assoc k c d, mul_comm c d))

-- a whole double is its size
pub whole_is : (s : Bool) (m : ℕ) (e : ℤ) → is_whole (fin s m e) ≡ true → m * up e ≡ size_of (fin s m e) * down e
unfolding is_whole size_of
whole_is s m e h =
    let parts : m * up e / down e * down e + m * up e % down e ≡ m * up e = div-add-mod' (m * up e) (down e) in
    let none : m * up e % down e ≡ 0 = eqb-true (m * up e % down e) 0 h in
    sym parts ∙ ap (λ (r : ℕ). m * up e / down e * down e + r) none ∙ add-zero _

-- x has the value n, y is whole: their sum is the double of n and y's size
add_value : (n : ℕ) (x y : Float) → HasValue x false n 1 → is_whole y ≡ true → is_minus y ≡ false → add binary64 x y ≡ of_int binary64 (pos (n + size_of y))
unfolding add sum of_int is_minus
add_value n nan y v w h = absurd v
add_value n (inf t) y v w h = absurd v
add_value n (fin true m e) y v w h = absurd (true≢false v.0)
add_value n (fin false m e) nan v w h = absurd (unfold is_whole in true≢false (sym w))
add_value n (fin false m e) (inf t) v w h = absurd (unfold is_whole in true≢false (sym w))
add_value n (fin false m e) (fin true k d) v w h = absurd (true≢false h)
add_value n (fin false m e) (fin false k d) v w h =
    round_same binary64 false (m * up e * down d + k * up d * down e) (down e * down d) (n + size_of (fin false k d)) 1 (mul-pos (down_pos e) (down_pos d)) (omega arith)
    (common (m * up e) (down e) (k * up d) (down d) n (size_of (fin false k d)) (sym (mul-one (m * up e)) ∙ v.1) (whole_is false k d w))

-- "added as doubles": the double of a whole number up to 2 to the 53 and a whole double that is not negative have the double of the
-- whole-number sum for their sum
pub add_whole : (n : ℕ) (y : Float) → n ≤ 9007199254740992 → is_whole y ≡ true → is_minus y ≡ false → add binary64 (of_int binary64 (pos n)) y ≡ of_int binary64 (pos (n + size_of y))
add_whole n y h w m = add_value n (of_int binary64 (pos n)) y (unfold of_int in round_whole binary64 false n h) w m
