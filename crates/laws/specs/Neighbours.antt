-- Demand 2, what a call leaves byte for byte.
use Rattle.std.specs.Prelude.{Option, Some, None}
use Rattle.std.specs.Prelude.{◌≡◌, List, [], ◌∷◌, Bool, true, false, ◌&&◌, eqb, ℕ, ◌%◌, ◌≤◌}
use Rattle.digits.specs.Bytes.{AllBytes, part, put}
use Rattle.digits.specs.Words.{is_set}
use Rattle.motor.specs.Sound.{busy, moving}
use Rattle.line.specs.declared.Start.{Start}
use Rattle.line.specs.declared.Order.{Order}
use Rattle.line.specs.declared.Order.TheVariants.{Go, Stop, StopAll, ChangeSpeed, Set, Ask, AskHead, ForHead}
use Rattle.line.specs.Forms.{order_of}
use Rattle.table.specs.Layout.{head_of, record_at, motor_at}
use Rattle.laws.specs.Sequences.{Library, Call, after}
use Rattle.laws.specs.Deeds.{starts, stops, pauses, rests, names, deed_of, deed}
use Rattle.laws.specs.Ledger.{sets_off}
use Rattle.laws.specs.Numbers.{is_command}

-- an order of the head: LOC, REM, ALL_REP EN and DS, ERRC and ERRCe, PAUSE ON and OFF
unfoldable pub of_head : Order → Bool
of_head (Go x s) = false
of_head (Stop x flags) = false
of_head (StopAll flags) = false
of_head (ChangeSpeed x v) = false
of_head (Set x s) = false
of_head (Ask x q) = false
of_head (AskHead q) = false
of_head (ForHead h) = true

-- 02 §6: "bit c for channel c": a channel is in the busy set that the head of a table holds
abbrev pub listed : ℕ → List ℕ → Bool
listed c t = is_set c (head_of t).busy

-- the head is left but for that set, in "head bytes 4-5"
abbrev pub HeadLeft : List ℕ → List ℕ → Type 0
HeadLeft t u = (part u 0 4 ≡ part t 0 4) × (part u 6 58 ≡ part t 6 58)

-- Demand 2, what a call leaves byte for byte, on any table whatever it holds
pub record Neighbours (l : Library) : Type 0 where
  -- "A command naming channel x leaves the other fifteen records byte for byte"
  pub others : (t line reply : List ℕ) (o : Order) (x d : ℕ) → order_of line ≡ Some o → names x o ≡ true → (d ≡ x → ⊥)
      → record_at (l.command t line reply).table d ≡ record_at t d
  -- "here only ASSTP and AESTP, which name none, reach several", and by 02 §3 PAUSE OFF: a line that is nothing to a channel leaves its
  -- record
  pub unreached : (t line reply : List ℕ) (o : Order) (d : ℕ) → order_of line ≡ Some o → deed_of d o ≡ rests
      → record_at (l.command t line reply).table d ≡ record_at t d
  -- ASSTP, AESTP, and "a stop on a stopped motor", leave a record that stands stopped; the table is bytes, as memory is
  pub stopped : (t line reply : List ℕ) (o : Order) (flags d : ℕ) → AllBytes t → d ≤ 15 → order_of line ≡ Some o → deed_of d o ≡ stops flags
      → busy (motor_at t d) ≡ false → record_at (l.command t line reply).table d ≡ record_at t d
  -- PAUSE ON leaves all sixteen, and PAUSE OFF those that are not held
  pub pausing : (t line reply : List ℕ) (o : Order) (k d : ℕ) → AllBytes t → d ≤ 15 → order_of line ≡ Some o → deed_of d o ≡ pauses k
      → (eqb k 0 && (motor_at t d).drive.held) ≡ false → record_at (l.command t line reply).table d ≡ record_at t d
  -- and an accepted PAUSE OFF changes of every record byte 32 alone: what it tells then is the direction
  pub releasing : (t line reply : List ℕ) (o : Order) (d : ℕ) → AllBytes t → d ≤ 15 → order_of line ≡ Some o → deed_of d o ≡ pauses 0
      → (l.command t line reply).result % 256 ≡ 0 → record_at (l.command t line reply).table d ≡ put (record_at t d) 32 ((motor_at t d).drive.going ∷ [])
  -- a tick leaves that of a motor that does not move: one that stands, or is held
  pub unticked : (t p : List ℕ) (d : ℕ) → AllBytes t → d ≤ 15 → moving (motor_at t d) ≡ false → record_at (l.tick t p).table d ≡ record_at t d
  -- a switch reading leaves every record but its channel's
  pub readings : (t : List ℕ) (c n d : ℕ) → (d ≡ c → ⊥) → record_at (l.reading t c n).table d ≡ record_at t d
  -- an accepted order that is not of the head leaves the head but for the busy set, and so do readings and ticks
  pub head : (t line reply : List ℕ) (o : Order) → order_of line ≡ Some o → of_head o ≡ false → (l.command t line reply).result % 256 ≡ 0
      → HeadLeft t (l.command t line reply).table
  pub head_left : (t : List ℕ) (k : Call) → is_command k ≡ false → HeadLeft t (after l t k).table
  -- 02 §7: the card is "set when the table is made fresh", and no call writes it
  pub card : (t : List ℕ) (k : Call) → (head_of (after l t k).table).card ≡ (head_of t).card
  -- an order of the head leaves the busy set
  pub head_set : (t line reply : List ℕ) (o : Order) → order_of line ≡ Some o → of_head o ≡ true
      → (head_of (l.command t line reply).table).busy ≡ (head_of t).busy
  -- in it a command that names a channel changes no other channel's bit, nor does a reading
  pub other_bits : (t line reply : List ℕ) (o : Order) (x d : ℕ) → d ≤ 15 → order_of line ≡ Some o → names x o ≡ true → (d ≡ x → ⊥)
      → listed d (l.command t line reply).table ≡ listed d t
  pub read_bits : (t : List ℕ) (c n d : ℕ) → d ≤ 15 → (d ≡ c → ⊥) → listed d (l.reading t c n).table ≡ listed d t
  -- only an accepted start that sets its channel off puts it into the set, so REL 0 and ABS to the present position do not
  pub raised : (t : List ℕ) (k : Call) (d : ℕ) → d ≤ 15 → ((s : Start) → deed d t k ≡ starts s → sets_off (motor_at t d) s ≡ true → ⊥)
      → listed d (after l t k).table ≡ true → listed d t ≡ true
  -- and a channel is taken out of it only where its drive ends
  pub cleared : (t : List ℕ) (k : Call) (d : ℕ) → d ≤ 15 → listed d t ≡ true → listed d (after l t k).table ≡ false
      → (busy (motor_at t d) ≡ true) × (busy (motor_at (after l t k).table d) ≡ false)
