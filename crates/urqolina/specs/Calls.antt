-- The four calls, each a function from all its inputs to all that it leaves: the result, the table, and the reply or the pulse
-- buffer. The inputs are any lists and any numbers. What a line does on a sound table is `taken` of obeying/specs/Taking.antt.
use Rattle.std.specs.Prelude.{Ok, Err}
use Rattle.std.specs.Prelude.{ℕ, Bool, ◌&&◌, cond, length, eqb, leb}
use mathlib.Core.List.{List, flat_map}
use Rattle.digits.specs.Words.{word_bytes}
use Rattle.drive.specs.Numbers.{Verdict}
use Rattle.drive.specs.declared.Refusal.TheVariants.{WrongSize, NotSound}
use Rattle.drive.specs.Numbers.{number_of}
use Rattle.record.specs.Record.{motor_of}
use Rattle.drive.specs.Drives.{switch_read}
use Rattle.pulses.specs.Ticks.{tick_motor, tick_count}
use Rattle.table.specs.Layout.{table_size, records, motor_at, with_motor, with_motors, fresh_table}
use Rattle.table.specs.Sound.{sound_table}
use Rattle.obeying.specs.Taking.{accepted, CommandAfter, order_in, taken}

-- "Order: 5, 6, ..": the sizes first, then the table
abbrev pub refusal : Bool → List ℕ → Verdict
refusal sizes_right t = cond sizes_right (cond (sound_table t) (Ok tt) (Err NotSound)) (Err WrongSize)

-- what a fresh call and a reading leave
pub record TableAfter : Type 0 where
  pub result : ℕ
  pub table : List ℕ

-- the fresh call: "fresh gives only 0 or 5". 02 §7: the card is "set when the table is made fresh", and "a card number over 1 at fresh is
-- 5"
unfoldable pub fresh_call : List ℕ → ℕ → TableAfter
fresh_call t card =
    cond (eqb (length t) table_size && leb card 1)
    (record { result = number_of (Ok tt); table = fresh_table card })
    (record { result = number_of (Err WrongSize); table = t })

-- the command call: "table not 1,088 bytes, reply buffer under 32" is 5; "5 and 6 change nothing anywhere"
unfoldable pub command_call : List ℕ → List ℕ → List ℕ → CommandAfter
command_call t line reply =
    let v = refusal (eqb (length t) table_size && leb 32 (length reply)) t in
    cond (accepted v)
    (taken t (order_in t line) reply)
    (record { result = number_of v; table = t; reply = reply })

-- the reading call: "table not 1,088 bytes, .. channel over 15, contacts over 7" is 5
unfoldable pub reading_call : List ℕ → ℕ → ℕ → TableAfter
reading_call t c n =
    let v = refusal (eqb (length t) table_size && leb c 15 && leb n 7) t in
    cond (accepted v)
    (record { result = number_of (Ok tt); table = with_motor t c (switch_read (motor_at t c) n) })
    (record { result = number_of v; table = t })

-- what a tick leaves
pub record TickAfter : Type 0 where
  pub result : ℕ
  pub table : List ℕ
  pub pulses : List ℕ

-- "The pulse buffer is 64 bytes: sixteen signed 32-bit counts, CW positive, 0 for a stopped motor."
abbrev pub counts : List ℕ → List ℕ
counts t = flat_map (λ r. word_bytes 4 (tick_count (motor_of r))) (records t)

-- the tick call: "table not 1,088 bytes, .. pulse buffer not 64" is 5; one tick "for each driving channel"
unfoldable pub tick_call : List ℕ → List ℕ → TickAfter
tick_call t pulses =
    let v = refusal (eqb (length t) table_size && eqb (length pulses) 64) t in
    cond (accepted v)
    (record { result = number_of (Ok tt); table = with_motors t (λ m. (tick_motor m).motor); pulses = counts t })
    (record { result = number_of v; table = t; pulses = pulses })
