-- Document 01, "Switches and room".
use Rattle.std.specs.Prelude.{ℕ, ◌+◌, min, max, Bool, cond, not, ◌&&◌, ◌||◌, ◌==◌}
use Rattle.digits.specs.Words.{is_set}
use Rattle.digits.specs.Places.{lowest, highest, ahead, cw}
use Rattle.record.specs.declared.Wiring.{Wiring}
use Rattle.record.specs.declared.Motor.{Motor}

-- "bit 0 CW, bit 1 CCW, bit 2 HP": switches are numbered by their bits; this is the switch that a direction runs into
abbrev pub switch_of : ℕ → ℕ
switch_of going = cond (going == cw) 0 1

-- "D = 1": D is the first of DYYY0yyy, bit 7 of the byte
abbrev pub digital : Wiring → Bool
digital w = is_set 7 w.setls

-- "Polarity and enable digits stand in the order HP, CCW, CW; enable 1 = on": YYY, bits 6 to 4 of the byte
abbrev pub enabled : ℕ → Wiring → Bool
enabled s w = is_set (4 + s) w.setls

-- "polarity 1 = N.C., 0 = N.O. (000, 003)": yyy, bits 2 to 0 of the byte
abbrev pub normally_closed : ℕ → Wiring → Bool
normally_closed s w = is_set s w.setls

-- "contacts, closed = 1"
abbrev pub closed : ℕ → Wiring → Bool
closed s w = is_set s w.contacts

-- 02 §2: "Contacts must be unknown until the channel's first accepted reading"; "0 unknown"
abbrev pub unread : Wiring → Bool
unread w = w.read == 0

-- "A switch is *active* when its contact is closed and N.O., or open and N.C."
unfoldable pub active : ℕ → Wiring → Bool
active s w = (closed s w && not (normally_closed s w)) || (not (closed s w) && normally_closed s w)

-- "active enabled switch in its direction"
unfoldable pub blocked : ℕ → Motor → Bool
blocked going m = enabled (switch_of going) m.wiring && active (switch_of going) m.wiring

-- 02 §5: "the end of the range", in a direction: "+2,147,483,647" CW, "-2,147,483,647" CCW
abbrev pub range_end : ℕ → ℕ
range_end going = cond (going == cw) highest lowest

-- the last place that a motor may reach: "the smaller of +2,147,483,647 and, if D = 1, the CW digital limit", or "the
-- larger of -2,147,483,647 and, if D = 1, the CCW digital limit". "Limits may cross; each direction looks only at its own."
unfoldable pub edge : ℕ → Motor → ℕ
edge going m =
    cond (going == cw)
    (cond (digital m.wiring) (min highest m.limits.cw) highest)
    (cond (digital m.wiring) (max lowest m.limits.ccw) lowest)

-- "CW room is the smaller of .. less the position. CCW room is the position less the larger of ..": none where the motor
-- stands at the edge or past it
unfoldable pub room : ℕ → Motor → ℕ
room going m = ahead going m.place (edge going m)
