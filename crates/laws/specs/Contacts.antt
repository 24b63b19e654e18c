-- Document 02, §2, over any sequence of calls after a fresh one: "Contacts must be unknown until the channel's first accepted
-- reading." What is told is seen from outside: which readings are accepted, and with which contacts.
use Rattle.std.specs.Prelude.{◌≡◌, List, [], ◌∷◌, ℕ, length}
use Rattle.laws.specs.Sequences.{Library, Call, after, Beginning, from_fresh}
use Rattle.laws.specs.Deeds.{Deed, starts, stops, speeds, sets, reads, ticks, pauses, rests, deed}
use Rattle.laws.specs.Ledger.{count_at}
use Rattle.laws.specs.Pulses.{table_now, motor_now, travel_now}

-- what the accepted readings of a channel have told: contacts, and 1 in byte 44 if there was one; "0 unknown, with contacts 0; 1 read"
pub record Told : Type 0 where
  pub contacts : ℕ
  pub read : ℕ

-- nothing yet, as fresh leaves it
abbrev pub untold : Told
untold = record { contacts = 0; read = 0 }

-- a reading tells its contacts, whatever they are; no command, no tick and no end of a drive is anything to what was told
unfoldable pub told_by : Told → Deed → Told
told_by h (starts s) = h
told_by h (stops flags) = h
told_by h (speeds v) = h
told_by h (sets s) = h
told_by h (reads n) = record { contacts = n; read = 1 }
told_by h ticks = h
told_by h (pauses k) = h
told_by h rests = h

-- what is told of channel c after a sequence of calls on a table
unfoldable pub told : Library → ℕ → List ℕ → Told → List Call → Told
told l c t h [] = h
told l c t h (k ∷ ks) = told l c (after l t k).table (told_by h (deed c t k)) ks

-- Of channel c after the beginning b and the calls ks.
module _ (l : Library) (b : Beginning) (c : ℕ) (ks : List Call) where
  abbrev pub told_now : Told
  told_now = told l c (from_fresh l b) untold ks

  pub record Contacts : Type 0 where
    -- "0 unknown, with contacts 0; 1 read": fresh's until the first accepted reading, and from then on the last one's, and 1
    pub contacts : (motor_now l b c ks).wiring.contacts ≡ told_now.contacts
    pub read : (motor_now l b c ks).wiring.read ≡ told_now.read
    -- "a start on an unread channel is 4", 9 by 02 §5: without an accepted reading a channel gets no pulse
    pub none : told_now.read ≡ 0 → (p : List ℕ) → length p ≡ 64 → count_at (l.tick (table_now l b c ks) p).pulses c ≡ 0
    -- and its position is its last accepted preset, or zero
    pub place : told_now.read ≡ 0 → (motor_now l b c ks).place ≡ (travel_now l b c ks).preset
