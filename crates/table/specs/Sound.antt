-- Document 01, "The table": "A table is *sound* when every field is in its range, every byte given as zero is zero", and each
-- record's own rules hold.
use Rattle.std.specs.Prelude.{ℕ, List, Bool, ◌&&◌, length, eqb, leb}
use Rattle.digits.specs.Bytes.{part, every, all_zero}
use Rattle.digits.specs.Words.{bits_set}
use Rattle.motor.specs.Sound.{sound_under}
use Rattle.table.specs.declared.head.Head.{Head}
use Rattle.table.specs.Layout.{table_size, head_of, paused, most_busy, head_used, head_rest, busy_set, records}

-- "mode (0 local, 1 remote)", "all-reply (0 off, 1 on)", "error flags 0..15"; 02 §3: "head byte 3 is 1, else 0"; 02 §7: "the card (0
-- sixteen, 1 four)", and "with five busy a four-motor table is not sound"
unfoldable pub head_in_range : Head → Bool
head_in_range h =
    leb h.mode 1 && leb h.reply 1 && leb h.errors 15 && leb h.pause 1 && leb h.card 1 && leb (bits_set h.busy) (most_busy h.card)

-- the fields of the head are in their ranges; "the rest zero"
unfoldable pub sound_head : List ℕ → Bool
sound_head t = head_in_range (head_of t) && all_zero (part t head_used head_rest)

-- "A table is *sound* when ..": its length, its head and all of its records; 02 §3: "a held record is sound only under pause"; 02 §6:
-- "Soundness asks that it is true" of the busy set, "a wrong set is 6"
unfoldable pub sound_table : List ℕ → Bool
sound_table t =
    eqb (length t) table_size && sound_head t && every (sound_under (paused (head_of t))) (records t) && eqb (head_of t).busy (busy_set t)
