-- 02 §8: "Refusals, each with its field's byte offset".
use Rattle.std.specs.Prelude.{ℕ}
use Rattle.steps.specs.declared.Cause.{Cause}
use Rattle.steps.specs.declared.Cause.TheVariants.{CutShort, TagOrOrder, WrongLength, WrongChannel, NotWhole, OutOfRange, TooMany}
use Rattle.steps.specs.declared.Fault.{Fault}

-- "20 field cut short"
abbrev pub cut_short : ℕ
cut_short = 20

-- "21 tag or order (a list that ends inside a step: at its end)"
abbrev pub tag_or_order : ℕ
tag_or_order = 21

-- "22 length"
abbrev pub wrong_length : ℕ
wrong_length = 22

-- "23 channel"
abbrev pub wrong_channel : ℕ
wrong_channel = 23

-- "24 not finite or not whole"
abbrev pub not_whole : ℕ
not_whole = 24

-- "25 out of range"
abbrev pub out_of_range : ℕ
out_of_range = 25

-- "26 a step after the 10,000th"
abbrev pub too_many : ℕ
too_many = 26

-- the number of a cause
abbrev pub number_of : Cause → ℕ
number_of CutShort = cut_short
number_of TagOrOrder = tag_or_order
number_of WrongLength = wrong_length
number_of WrongChannel = wrong_channel
number_of NotWhole = not_whole
number_of OutOfRange = out_of_range
number_of TooMany = too_many

-- a cause "with its field's byte offset"
abbrev pub fault_at : Cause → ℕ → Fault
fault_at cause at = record { cause = cause; offset = at }
