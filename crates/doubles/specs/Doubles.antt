-- 02 §8: "A double is taken exactly when it is finite, whole and in range". A double is nan, an infinity, or `fin s m e`, which is
-- m times 2 to the e, negative where s holds; `up e / down e` is 2 to the e as a fraction.
use Rattle.std.specs.Prelude.{ℕ, ◌*◌, ◌/◌, ◌%◌, Bool, false, eqb, Float}
use Rattle.std.specs.Float.{nan, inf, fin}
use Rattle.std.specs.Float.Ieee.{up, down}

-- "finite, whole": a number that has no fraction
unfoldable pub is_whole : Float → Bool
is_whole nan = false
is_whole (inf s) = false
is_whole (fin s m e) = eqb (m * up e % down e) 0

-- how large a whole double is, its sign aside
unfoldable pub size_of : Float → ℕ
size_of nan = 0
size_of (inf s) = 0
size_of (fin s m e) = m * up e / down e

-- a double has a minus sign; -0 has one too
unfoldable pub is_minus : Float → Bool
is_minus nan = false
is_minus (inf s) = s
is_minus (fin s m e) = s
