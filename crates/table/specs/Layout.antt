-- Document 01, "The table: 1,088 bytes".
use Rattle.std.specs.Prelude.{ℕ, ◌+◌, ◌*◌, ◌-◌, ◌/◌, ◌%◌, Bool, cond, take, drop, replicate, eqb, leb}
use mathlib.Core.List.{List, [], ◌∷◌, ◌++◌, flat_map}
use Rattle.digits.specs.Bytes.{part, put, pieces, gather}
use Rattle.digits.specs.Words.{word, bits_of, bits_set}
use Rattle.record.specs.declared.Motor.{Motor}
use Rattle.record.specs.Record.{motor_of, record_of, fresh_motor}
use Rattle.motor.specs.Sound.{busy}
use Rattle.table.specs.declared.head.Head.{Head}

-- "1,088 bytes"
abbrev pub table_size : ℕ
table_size = 1088

-- "byte 0 mode (0 local, 1 remote), byte 1 all-reply (0 off, 1 on), byte 2 error flags 0..15"; 02 §3: "While on (head byte 3 is 1, else
-- 0)"; 02 §6: "Keep it in head bytes 4-5"; 02 §7: "Head byte 6 picks the card (0 sixteen, 1 four)": the head that a table holds
unfoldable pub head_of : List ℕ → Head
head_of t =
    record { mode = word (part t 0 1); reply = word (part t 1 1); errors = word (part t 2 1); pause = word (part t 3 1); busy = word (part t 4 2); card = word (part t 6 1) }

-- "Numbers are little-endian": the busy set as it is written, in two bytes
abbrev pub set_bytes : ℕ → List ℕ
set_bytes n = n % 256 ∷ n / 256 ∷ []

-- the fields of the head as they are written
abbrev pub head_bytes : Head → List ℕ
head_bytes h = h.mode ∷ h.reply ∷ h.errors ∷ h.pause ∷ set_bytes h.busy ++ (h.card ∷ [])

-- pause is on
abbrev pub paused : Head → Bool
paused h = eqb h.pause 1

-- the most motors that may be busy on a card: 02 §7: "the PM16C-04XD, which runs at most four motors", else all sixteen
abbrev pub most_busy : ℕ → ℕ
most_busy card = cond (eqb card 1) 4 16

-- 02 §7: "the number of set bits in the busy word decides whether a start is taken": as many are busy as may be
unfoldable pub card_full : Head → Bool
card_full h = leb (most_busy h.card) (bits_set h.busy)

-- how many bytes they take, and how many are left; "the rest zero"
abbrev pub head_used : ℕ
head_used = 7

abbrev pub head_rest : ℕ
head_rest = 64 - head_used

-- the table with another head, and every other byte as it was
unfoldable pub with_head : List ℕ → Head → List ℕ
with_head t h = put t 0 (head_bytes h)

-- the head with another mode
abbrev pub with_mode : Head → ℕ → Head
with_mode h n = record h { mode = n }

-- the head with another all-reply
abbrev pub with_reply : Head → ℕ → Head
with_reply h n = record h { reply = n }

-- the head with other error flags
abbrev pub with_errors : Head → ℕ → Head
with_errors h n = record h { errors = n }

-- the head with pause on or off
abbrev pub with_pause : Head → ℕ → Head
with_pause h n = record h { pause = n }

-- the head with another busy set
abbrev pub with_busy : Head → ℕ → Head
with_busy h n = record h { busy = n }

-- "the record of channel c starts at 64 + 64c"
abbrev pub record_start : ℕ → ℕ
record_start c = 64 + 64 * c

-- the record of channel c, 64 bytes
abbrev pub record_at : List ℕ → ℕ → List ℕ
record_at t c = part t (record_start c) 64

-- the motor of channel c
unfoldable pub motor_at : List ℕ → ℕ → Motor
motor_at t c = motor_of (record_at t c)

-- 02 §6: "bit c for channel c, held drives included": the set of the busy channels
unfoldable pub busy_set : List ℕ → ℕ
busy_set t = bits_of (λ c. busy (motor_at t c)) 16

-- 02 §6: "Keep it in head bytes 4-5": the table with that set in its head, and every other byte as it was. Every change of a record ends
-- with it, so that the set is kept in the same call
unfoldable pub sealed : List ℕ → List ℕ
sealed t = put t 4 (set_bytes (busy_set t))

-- the table with other bytes in the place of channel c's record, and every other byte as it was
abbrev pub with_record : List ℕ → ℕ → List ℕ → List ℕ
with_record t c b = put t (record_start c) b

-- the table with channel c's record written anew, and the set of the busy channels in its head
unfoldable pub with_motor : List ℕ → ℕ → Motor → List ℕ
with_motor t c m = sealed (with_record t c (record_of m))

-- "A head of 64 bytes, then sixteen records of 64"
abbrev pub records : List ℕ → List (List ℕ)
records t = pieces 64 16 (drop 64 t)

-- the table with each of the sixteen motors changed, and the set of the busy channels in its head
unfoldable pub with_motors : List ℕ → (Motor → Motor) → List ℕ
with_motors t f = sealed (take 64 t ++ flat_map (λ r. record_of (f (motor_of r))) (records t))

-- "Fresh: local, all-reply off, no error flags", and no motor busy; 02 §7: the card is "set when the table is made fresh"
abbrev pub fresh_head : ℕ → Head
fresh_head card = record { mode = 0; reply = 0; errors = 0; pause = 0; busy = 0; card = card }

-- the fresh table of a card: that head, "the rest zero", and sixteen fresh motors
unfoldable pub fresh_table : ℕ → List ℕ
fresh_table card = head_bytes (fresh_head card) ++ (replicate head_rest 0 ++ gather (λ c. record_of fresh_motor) 16)
