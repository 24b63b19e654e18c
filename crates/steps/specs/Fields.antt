-- 02 §8: "A list is fields of one-byte tag, two-byte length and value, low byte first". A place in the list is an offset from 0.
use Rattle.std.specs.Prelude.{ℕ, ◌+◌, List, Bool, ◌||◌, not, cond, length, leb, ltb, eqb, Option, None, Some, Result, Ok, Err, Float}
use Rattle.std.specs.Float.{binary64}
use Rattle.std.specs.Float.Ieee.{of_bits}
use Rattle.digits.specs.Bytes.{part}
use Rattle.digits.specs.Words.{word}
use Rattle.steps.specs.declared.Cause.{Cause}
use Rattle.steps.specs.declared.Cause.TheVariants.{CutShort, TagOrOrder, WrongLength}
use Rattle.steps.specs.declared.Fault.{Fault}
use Rattle.steps.specs.Numbers.{fault_at}

-- "one-byte tag": that of the field at a place
unfoldable pub tag_at : List ℕ → ℕ → ℕ
tag_at s at = word (part s at 1)

-- "two-byte length .. low byte first": how many bytes its value has, by what is written there
unfoldable pub length_at : List ℕ → ℕ → ℕ
length_at s at = word (part s (at + 1) 2)

-- "tag 1 channel (one byte)": that of the field at a place
unfoldable pub channel_at : List ℕ → ℕ → ℕ
channel_at s at = word (part s (at + 3) 1)

-- the list ends at a place
abbrev pub ended : List ℕ → ℕ → Bool
ended s at = leb (length s) at

-- "20 field cut short": fewer than three bytes are left, or fewer of the value than the length says
unfoldable pub is_cut : List ℕ → ℕ → Bool
is_cut s at = ltb (length s) (at + 3) || ltb (length s) (at + 3 + length_at s at)

-- "tag 1 channel (one byte); 2 absolute target, 3 distance, 4 speed, 5 dwell in milliseconds, each an eight-byte double"
abbrev pub value_size : ℕ → ℕ
value_size tag = cond (eqb tag 1) 1 8

-- What refuses the field at a place where tag a or b is to stand, its value aside. "a list that ends inside a step: at its end", "in one
-- field the lower number"
unfoldable pub frame_fault : ℕ → ℕ → List ℕ → ℕ → Option Cause
frame_fault a b s at =
    cond (ended s at) (Some TagOrOrder)
    (cond (is_cut s at) (Some CutShort)
    (cond (not (eqb (tag_at s at) a || eqb (tag_at s at) b)) (Some TagOrOrder)
    (cond (not (eqb (length_at s at) (value_size (tag_at s at)))) (Some WrongLength)
    None)))

-- the tag, where nothing refuses the field
abbrev pub framed : ℕ → ℕ → Option Cause → Result ℕ Fault
framed tag at None = Ok tag
framed tag at (Some k) = Err (fault_at k at)

abbrev pub frame_at : ℕ → ℕ → List ℕ → ℕ → Result ℕ Fault
frame_at a b s at = framed (tag_at s at) at (frame_fault a b s at)

-- "each an eight-byte double", "low byte first": that of the field at a place
unfoldable pub double_at : List ℕ → ℕ → Float
double_at s at = of_bits binary64 (word (part s (at + 3) 8))
