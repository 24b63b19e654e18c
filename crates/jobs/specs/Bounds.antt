-- How long the texts get and how far the nets go, which the code goes by: its buffers and numbers have an end.
use Rattle.std.specs.Prelude.{ℕ, ◌+◌, ◌*◌, ◌≤◌, List, get_or}
use Rattle.digits.specs.Bytes.{part}
use Rattle.digits.specs.Words.{word}
use Rattle.digits.specs.Places.{origin, place_of}

-- the bytes of the buffer that a text is written in: the longest, of ten digits and sixteen nets of fourteen bytes each, has 234
abbrev pub out_size : ℕ
out_size = 256

-- a place lies within b pulses of the origin
abbrev pub Near : ℕ → ℕ → Type 0
Near b p = (origin ≤ p + b) × (p ≤ origin + b)

-- every channel's net does
abbrev pub NetsWithin : ℕ → List ℕ → Type 0
NetsWithin b nets = (c : ℕ) → Near b (get_or nets c origin)

-- the place of every count of a pulse buffer does
abbrev pub CountsWithin : ℕ → List ℕ → Type 0
CountsWithin b pulses = (c : ℕ) → Near b (place_of (word (part pulses (4 * c) 4)))

-- "5,000 pulses can fall in one" tick, and no more
abbrev pub most_count : ℕ
most_count = 5000

-- "1..10000 ticks"
abbrev pub most_ticks : ℕ
most_ticks = 10000

-- before the last of 10000 ticks, the 9999 others have given no more than this
abbrev pub most_net : ℕ
most_net = 49995000
