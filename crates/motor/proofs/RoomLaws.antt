-- Laws of places and rooms, each said once over the direction. Assumes nothing.
use Rattle.std.proofs.Common.{◌≡◌, ℕ, ◌+◌, ◌-◌, ◌<◌, ◌≤◌, Bool, true, false, cond, not, ◌&&◌, ◌||◌, eqb, leb, arith}
use Rattle.digits.specs.Places.{is_position, moved, ahead, cw}
use Rattle.record.specs.declared.Motor.{Motor}
use Rattle.record.specs.Record.{with_place}
use Rattle.motor.specs.Switches.{digital, range_end, edge, room}
use Rattle.motor.specs.Sound.{limits_in_range}
use Rattle.motor.proofs.SoundLaws.{InRange, position_bounds}

-- No pulse leaves a motor where it is, and a pulses and then b are a + b.
pub moved_none : (going p : ℕ) → moved going p 0 ≡ p
moved_none going p = grind arith

pub moved_twice : (going p a b : ℕ) → moved going (moved going p a) b ≡ moved going p (a + b)
moved_twice going p a b = grind arith

-- n pulses on, a place lies n pulses less ahead.
pub ahead_moved : (going p q n : ℕ) → ahead going (moved going p n) q ≡ ahead going p q - n
ahead_moved going p q n = grind arith

-- As many pulses as a place lies ahead lead there.
pub moved_ahead : (going p q : ℕ) → 1 ≤ ahead going p q → moved going p (ahead going p q) ≡ q
moved_ahead going p q = grind arith

-- n pulses on, a motor has n pulses less of room.
pub room_moved :
    (going : ℕ) (m : Motor) (n : ℕ) → room going (with_place m (moved going m.place n)) ≡ room going m - n
unfolding room edge
room_moved going m n = ahead_moved going m.place (edge going m) n

-- At the end of the range there is no room, whatever the limit.
pub room_at_end : (going : ℕ) (m : Motor) → m.place ≡ range_end going → room going m ≡ 0
unfolding room edge
room_at_end going m = grind arith

-- A motor has a pulse of room where the end of the range lies ahead and, if D = 1, the digital limit.
pub room_ahead : (going : ℕ) (m : Motor)
    → leb 1 (room going m)
    ≡ (leb 1 (ahead going m.place (range_end going))
    && (leb 1 (ahead going m.place (cond (eqb going cw) m.limits.cw m.limits.ccw)) || not (digital m.wiring)))
unfolding room edge
room_ahead going m = grind arith

-- The edge of a motor with its fields in range is a position.
pub edge_position : (going : ℕ) (m : Motor) → InRange m → is_position (edge going m) ≡ true
unfolding edge limits_in_range
edge_position going m r = grind arith

-- "Position moves by them": n pulses on, no further than a position q that lies ahead, is a position.
pub moved_position :
    (going p q n : ℕ) → is_position p ≡ true → is_position q ≡ true → n ≤ ahead going p q → is_position (moved going p n) ≡ true
moved_position going p q n ep eq = grind arith

-- Within its room a motor stays on positions.
pub room_position :
    (going : ℕ) (m : Motor) (n : ℕ) → InRange m → n ≤ room going m → is_position (moved going m.place n) ≡ true
unfolding room
room_position going m n r h = moved_position going m.place (edge going m) n r.place (edge_position going m r) h

-- Room is less than the positions' range.
pub room_bound : (going : ℕ) (m : Motor) → InRange m → room going m < 4294967295
unfolding room
room_bound going m r = go (eqb going cw)
  where
    go : (t : Bool) → cond t (edge going m - m.place) (m.place - edge going m) < 4294967295
    go true = omega (arith, position_bounds m.place r.place, position_bounds (edge going m) (edge_position going m r))
    go false = omega (arith, position_bounds m.place r.place, position_bounds (edge going m) (edge_position going m r))
