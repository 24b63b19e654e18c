-- When a drive to a target ends: "A drive to a target at distance D and speed v, with no stop, SPC or switch reading on its
-- channel and D within room, ends at tick D·1000/v rounded up." Assumes nothing.
use mathlib.Core.Path.{◌≡◌, refl, sym, ◌∙◌}
use mathlib.Core.Bool.{true, false, false≢true}
use Prim.Native.Nat.{ℕ, zero, suc, ◌+◌, ◌*◌, ◌-◌, ◌/◌, ◌%◌, ◌≤◌, ◌<◌}
use native.Mathlib.Nat.{add-zero, zero-add, suc-add, zero-mul, le-div_iff_mul-le, lt-div-mul-add}
use native.Mathlib.Omega.{arith}
use borrow.Author.Tests.{leb-true}
use Rattle.digits.specs.Places.{moved}
use Rattle.record.specs.declared.Motor.{Motor}
use Rattle.record.specs.Record.{with_place, with_drive, with_fraction}
use Rattle.motor.specs.Switches.{edge, room}
use Rattle.motor.specs.Sound.{aim_right, busy, moving, sound_motor}
use Rattle.motor.proofs.MovingLaws.{moving_busy, carried_moves}
use Rattle.motor.proofs.SoundLaws.{sound_busy, sound_bounds}
use Rattle.motor.proofs.RoomLaws.{ahead_moved, moved_ahead, room_moved}
use Rattle.pulses.specs.declared.Ticked.{Ticked}
use Rattle.drive.specs.Drives.{ended_with}
use Rattle.pulses.specs.Ticks.{tick_speed, rest, to_target, distance_left, room_left, given, tick_motor, ticks, rounded_up}
use Rattle.pulses.proofs.Laws.{nothing_rounded, carried_below, given_due, speed_in_force, stopped_given_none}
use Rattle.pulses.proofs.TickSound.{tick_sound}
use Rattle.pulses.proofs.TickLaws.{Way, rests, arrives, ends, goes, way, goes_due, reached_all, reached_not, room_all}

-- None is no change, one more is a tick of what they left, and j after k are j + k.
pub ticks_none : (m : Motor) → ticks zero m ≡ m
unfolding ticks
ticks_none m = refl

pub ticks_more : (k : ℕ) (m : Motor) → ticks (suc k) m ≡ (tick_motor (ticks k m)).motor
unfolding ticks
ticks_more k m = refl

sum_more : (j k : ℕ) (m : Motor) → ticks (j + k) m ≡ ticks j (ticks k m) → ticks (suc j + k) m ≡ ticks (suc j) (ticks k m)
sum_more j k m e = rw (suc-add, ticks_more (j + k) m, ticks_more j (ticks k m), e)

pub ticks_sum : (j k : ℕ) (m : Motor) → ticks (j + k) m ≡ ticks j (ticks k m)
ticks_sum zero k m = rw (zero-add, ticks_none)
ticks_sum (suc j) k m = sum_more j k m (ticks_sum j k m)

-- Ticks leave a motor that does not move as it is, and a sound motor sound.
rest_more : (k : ℕ) (m : Motor) → moving m ≡ false → ticks k m ≡ m → ticks (suc k) m ≡ m
rest_more k m d e = rw (ticks_more, e, stopped_given_none)

pub ticks_rest : (k : ℕ) (m : Motor) → moving m ≡ false → ticks k m ≡ m
ticks_rest zero m d = ticks_none m
ticks_rest (suc k) m d = rest_more k m d (ticks_rest k m d)

pub ticks_sound : (k : ℕ) (m : Motor) → sound_motor m ≡ true → sound_motor (ticks k m) ≡ true
ticks_sound zero m s = rw ticks_none s
ticks_sound (suc k) m s = rw ticks_more (tick_sound (ticks k m) (ticks_sound k m s))

-- the motor of a drive once the time for t thousandths of a pulse has passed since it stood at its place with fraction 0:
-- the thousands are pulses, the rest is the fraction
abbrev pub driven_by : ℕ → Motor → Motor
driven_by t m =
    with_drive (with_place m (moved m.drive.going m.place (t / 1000))) m.ended (with_fraction m.drive (t % 1000))

-- the motor of a drive that has arrived
abbrev pub arrived : Motor → Motor
arrived m = ended_with 0 (with_place m m.drive.target)

-- A motor with its fraction below 1,000 is where its fraction says, and t thousandths and then v more are t + v.
pub driven_none : (m : Motor) → m.drive.fraction < 1000 → driven_by m.drive.fraction m ≡ m
driven_none m h = grind arith

pub driven_more : (t v : ℕ) (m : Motor) → driven_by (t % 1000 + v) (driven_by t m) ≡ driven_by (t + v) m
driven_more t v m = grind arith

-- a drive to a target that lies ahead, within room, with a fraction and a speed in their ranges
pub record OnCourse (m : Motor) : Type 0 where
  pub drives : moving m ≡ true
  pub aimed : to_target m ≡ true
  pub before : 1 ≤ distance_left m
  pub within : distance_left m ≤ room_left m
  pub carries : m.drive.fraction < 1000
  pub moves : 1 ≤ m.drive.speed

-- A sound drive to a target has the target ahead.
pub sound_on_course :
    (m : Motor) → sound_motor m ≡ true → moving m ≡ true → to_target m ≡ true → distance_left m ≤ room_left m → OnCourse m
unfolding aim_right distance_left
sound_on_course m s d t w =
    let u = sound_busy m s (moving_busy m d) in
    record { drives = d; aimed = t; before = leb-true 1 _ (rw t at u.aim); within = w; carries = omega (arith, (sound_bounds m s).fraction); moves = u.slowest }

-- On its way such a drive stays such a drive, with as many pulses less to go as it has been driven.
pub distance_driven : (t : ℕ) (m : Motor) → distance_left (driven_by t m) ≡ distance_left m - t / 1000
unfolding distance_left
distance_driven t m = ahead_moved m.drive.going m.place m.drive.target (t / 1000)

pub room_driven : (t : ℕ) (m : Motor) → room_left (driven_by t m) ≡ room_left m - t / 1000
unfolding room edge
room_driven t m = room_moved m.drive.going m (t / 1000)

pub on_course_driven : (t : ℕ) (m : Motor) → OnCourse m → t < 1000 * distance_left m → OnCourse (driven_by t m)
on_course_driven t m b h =
    let e = distance_driven t m in
    let r = room_driven t m in
    let before : 1 ≤ distance_left (driven_by t m) = omega arith in
    let within : distance_left (driven_by t m) ≤ room_left (driven_by t m) = omega arith in
    let carries : t % 1000 < 1000 = omega arith in
    let drives : moving (driven_by t m) ≡ true = carried_moves m (driven_by t m).place m.ended (t % 1000) ∙ b.drives in
    search

-- One tick of such a drive, whatever its fraction: while the fraction and the speed do not make up the distance, it goes on;
-- once they do, it arrives.
pub tick_goes :
    (m : Motor) → OnCourse m → m.drive.fraction + m.drive.speed < 1000 * distance_left m
    → tick_motor m ≡ record { motor = driven_by (m.drive.fraction + m.drive.speed) m; pulses = (m.drive.fraction + m.drive.speed) / 1000 }
tick_goes m b h = go (way m)
  where
    v : tick_speed m ≡ m.drive.speed
    v = speed_in_force m b.drives

    go : {t : Ticked} → Way m t
        → t ≡ record { motor = driven_by (m.drive.fraction + m.drive.speed) m; pulses = (m.drive.fraction + m.drive.speed) / 1000 }
    go (rests d) = absurd (false≢true (sym d ∙ b.drives))
    go (arrives d r) = absurd (omega (arith, v, (reached_all m r).1, given_due m, nothing_rounded m))
    go (ends d r u) = absurd (omega (arith, v, room_all m u, given_due m, nothing_rounded m))
    go (goes d r u) =
        let whole : given m ≡ (m.drive.fraction + m.drive.speed) / 1000 = omega (arith, v, goes_due m r u, nothing_rounded m, carried_below m) in
        let part : rest m ≡ (m.drive.fraction + m.drive.speed) % 1000 = omega (arith, v, nothing_rounded m, carried_below m) in
        rw (whole, part)

there : (m : Motor) → OnCourse m → moved m.drive.going m.place (distance_left m) ≡ m.drive.target
unfolding distance_left
there m b = moved_ahead m.drive.going m.place m.drive.target b.before

pub tick_arrives :
    (m : Motor) → OnCourse m → 1000 * distance_left m ≤ m.drive.fraction + m.drive.speed
    → tick_motor m ≡ record { motor = arrived m; pulses = distance_left m }
tick_arrives m b h = go (way m)
  where
    v : tick_speed m ≡ m.drive.speed
    v = speed_in_force m b.drives

    go : {t : Ticked} → Way m t → t ≡ record { motor = arrived m; pulses = distance_left m }
    go (rests d) = absurd (false≢true (sym d ∙ b.drives))
    go (arrives d r) = rw ((reached_all m r).1, there m b)
    go (ends d r u) = absurd (omega (arith, room_all m u, reached_not m r b.aimed, b.within))
    go (goes d r u) = absurd (omega (arith, v, goes_due m r u, nothing_rounded m, carried_below m, reached_not m r b.aimed))

-- k ticks of such a drive: while the fraction and k times the speed do not make up the distance, it goes on; with the tick
-- that makes it up, it arrives.
one_more :
    (k : ℕ) (m : Motor) → OnCourse m → m.drive.fraction + suc k * m.drive.speed < 1000 * distance_left m
    → ticks k m ≡ driven_by (m.drive.fraction + k * m.drive.speed) m
    → ticks (suc k) m ≡ driven_by (m.drive.fraction + suc k * m.drive.speed) m
one_more k m b h so_far =
    let t : ℕ = m.drive.fraction + k * m.drive.speed in
    let e = distance_driven t m in
    let step = tick_goes (driven_by t m) (on_course_driven t m b (omega arith)) (omega arith) in
    let more : t + m.drive.speed ≡ m.drive.fraction + suc k * m.drive.speed = omega arith in
    rw (ticks_more, so_far, step, driven_more, more)

pub ticks_go :
    (k : ℕ) (m : Motor) → OnCourse m → m.drive.fraction + k * m.drive.speed < 1000 * distance_left m
    → ticks k m ≡ driven_by (m.drive.fraction + k * m.drive.speed) m
ticks_go zero m b h = rw (ticks_none, zero-mul, add-zero) (sym (driven_none m b.carries))
ticks_go (suc k) m b h = one_more k m b h (ticks_go k m b (omega arith))

pub ticks_arrive :
    (k : ℕ) (m : Motor) → OnCourse m → m.drive.fraction + k * m.drive.speed < 1000 * distance_left m
    → 1000 * distance_left m ≤ m.drive.fraction + suc k * m.drive.speed → ticks (suc k) m ≡ arrived m
ticks_arrive k m b h a =
    let t : ℕ = m.drive.fraction + k * m.drive.speed in
    let e = distance_driven t m in
    let step = tick_arrives (driven_by t m) (on_course_driven t m b (omega arith)) (omega arith) in
    rw (ticks_more, ticks_go k m b h, step)

-- A number below a / v rounded up, times v, is below a; and a / v rounded up, times v, is not.
pub below_rounded : (a v k : ℕ) → 1 ≤ v → k < rounded_up a v → k * v < a
below_rounded a v k p h = omega (arith, (le-div_iff_mul-le {k = v} {x = suc k} {y = a + (v - 1)} p).0 h)

pub rounded_covers : (a v : ℕ) → 1 ≤ v → a ≤ rounded_up a v * v
rounded_covers a v p = omega (arith, lt-div-mul-add {a = a + (v - 1)} {b = v} p)

-- Such a drive with a fraction lasts before tick (D·1000 less the fraction)/v rounded up, and has arrived with it.
pub lasts_before :
    (m : Motor) → OnCourse m → (k : ℕ) → k < rounded_up (distance_left m * 1000 - m.drive.fraction) m.drive.speed
    → busy (ticks k m) ≡ true
lasts_before m b k h =
    let under = below_rounded (distance_left m * 1000 - m.drive.fraction) m.drive.speed k b.moves h in
    rw (ticks_go k m b (omega arith)) (moving_busy m b.drives)

pub arrives_with :
    (m : Motor) → OnCourse m → ticks (rounded_up (distance_left m * 1000 - m.drive.fraction) m.drive.speed) m ≡ arrived m
arrives_with m b = go (rounded_up a v) refl
  where
    a : ℕ
    a = distance_left m * 1000 - m.drive.fraction

    v : ℕ
    v = m.drive.speed

    go : (k : ℕ) → rounded_up a v ≡ k → ticks k m ≡ arrived m
    go zero e = absurd (omega (arith, rw (e, zero-mul) at (rounded_covers a v b.moves), b.before, b.carries))
    go (suc k) e =
        let under = below_rounded a v k b.moves (omega arith) in
        let over = rw e at (rounded_covers a v b.moves) in
        ticks_arrive k m b (omega arith) (omega arith)

-- "A drive to a target at distance D and speed v, with no stop, SPC or switch reading on its channel and D within room, ends
-- at tick D·1000/v rounded up": it drives before that tick; with it, it stands stopped at its target, with end flags 0.
module _ (m : Motor) (s : sound_motor m ≡ true) (d : moving m ≡ true) (t : to_target m ≡ true) (f : m.drive.fraction ≡ 0) (w : distance_left m ≤ room_left m) where
  no_fraction : distance_left m * 1000 - m.drive.fraction ≡ distance_left m * 1000
  no_fraction = omega arith

  pub drives_before : (k : ℕ) → k < rounded_up (distance_left m * 1000) m.drive.speed → busy (ticks k m) ≡ true
  drives_before k h = lasts_before m (sound_on_course m s d t w) k (rw no_fraction h)

  pub last_tick : ticks (rounded_up (distance_left m * 1000) m.drive.speed) m ≡ arrived m
  last_tick = rw no_fraction at (arrives_with m (sound_on_course m s d t w))

  pub ends_stopped :
      (k : ℕ) → k ≡ rounded_up (distance_left m * 1000) m.drive.speed
      → (busy (ticks k m) ≡ false) × ((ticks k m).place ≡ m.drive.target) × ((ticks k m).ended ≡ 0)
  ends_stopped k e = rw (e, last_tick) (refl, refl, refl)
