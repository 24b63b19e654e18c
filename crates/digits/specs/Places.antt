-- Positions as places. A signed number of the table is kept as its place: the number plus 2,147,483,648, which is never
-- negative, so that room, distance and ranges are plain differences and orders. The law in proofs/Signed.antt ties a place
-- to the language's own signed reading of the same bytes.
use Rattle.std.specs.Prelude.{ℕ, ◌+◌, ◌-◌, ◌%◌, Bool, cond, ◌&&◌, ◌==◌, nat_le}

-- the place of position 0
abbrev pub origin : ℕ
origin = 2147483648

-- the place of -2,147,483,647
abbrev pub lowest : ℕ
lowest = 1

-- the place of +2,147,483,647
abbrev pub highest : ℕ
highest = 4294967295

-- "Positions run from -2,147,483,647 to +2,147,483,647 (003)."
abbrev pub is_position : ℕ → Bool
is_position p = nat_le lowest p && nat_le p highest

-- "signed ones are two's complement": the place of a four-byte word
unfoldable pub place_of : ℕ → ℕ
place_of w = (w + 2147483648) % 4294967296

-- "signed ones are two's complement": the four-byte word of a place. Both are one shift by half the range.
unfoldable pub word_of : ℕ → ℕ
word_of p = (p + 2147483648) % 4294967296

-- "0 stopped, 1 CW, 2 CCW": a direction is 1 for CW, towards the higher places
abbrev pub cw : ℕ
cw = 1

-- and 2 for CCW, towards the lower ones
abbrev pub ccw : ℕ
ccw = 2

-- "Position moves by them": n pulses on from p in a direction. Below place 0 there is nothing: the difference ends there,
-- and 0 is no position.
abbrev pub moved : ℕ → ℕ → ℕ → ℕ
moved going p n = cond (going == cw) (p + n) (p - n)

-- how many pulses q lies ahead of p in a direction; 0 where it does not lie ahead
abbrev pub ahead : ℕ → ℕ → ℕ → ℕ
ahead going p q = cond (going == cw) (q - p) (p - q)

-- "sixteen signed 32-bit counts, CW positive": the word for n pulses given in a direction
unfoldable pub count_of : ℕ → ℕ → ℕ
count_of going n = cond (going == cw) n ((4294967296 - n) % 4294967296)
