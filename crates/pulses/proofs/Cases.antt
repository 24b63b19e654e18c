-- Ticks computed on cases. Each list is one statement, and its proof is the computation.
use mathlib.Core.Path.{◌≡◌, refl}
use mathlib.Core.List.{List, [], ◌∷◌, map}
use mathlib.Core.Bool.{true, false}
use Prim.Native.Nat.{ℕ, zero, suc, ◌+◌, ◌*◌, ◌-◌}
use Rattle.digits.specs.Bytes.{part}
use Rattle.digits.specs.Places.{origin, cw, ccw}
use Rattle.record.specs.declared.Motor.{Motor}
use Rattle.record.specs.Record.{record_of, fresh_motor, with_limits, with_speeds, with_wiring}
use Rattle.drive.specs.declared.Course.TheVariants.{To, Along}
use Rattle.drive.specs.Drives.{started, released, stopped, speed_changed, contacted, lsend}
use Rattle.pulses.specs.Ticks.{tick_motor, tick_count, ticks, rounded_up}
use Rattle.pulses.specs.Computing.{computing_pulses}

-- the pulses of each of k ticks
pulses : ℕ → Motor → List ℕ
pulses zero m = []
pulses (suc k) m = (tick_motor m).pulses ∷ pulses k (tick_motor m).motor

-- a fresh motor whose contacts were read, all open; one with MSPD v, and one with the CW limit at position n and D = 1 besides
known : Motor
known = contacted fresh_motor 0

at_speed : ℕ → Motor
at_speed v = with_speeds known (record { high = 1000; middle = v; low = 50; selected = 1 })

limited : ℕ → ℕ → Motor
limited v n =
    with_limits (with_wiring (at_speed v) (record { setls = 0b11110000; contacts = 0; read = 1 }))
    (record { cw = origin + n; ccw = origin - 1000000 })

-- A pulse goes out only when its full time has passed: at 800 pps "five ticks give 0, 1, 1, 1, 1", CW and CCW alike.
fraction_carried :
    (pulses 5 (started false known (Along cw)) ≡ 0 ∷ 1 ∷ 1 ∷ 1 ∷ 1 ∷ [])
    × (pulses 5 (started false known (Along ccw)) ≡ 0 ∷ 1 ∷ 1 ∷ 1 ∷ 1 ∷ [])
    × ((ticks 5 (started false known (Along ccw))).place ≡ origin - 4)
unfolding computing_pulses pulses known
fraction_carried = (refl, refl, refl)

-- A stop drops the fraction: it zeroes bytes 32 to 43, and the next drive's first tick gives none.
fraction_dropped :
    (part (record_of (stopped 0x40 (ticks 1 (started false known (Along cw))))) 31 13 ≡ 0x40 ∷ 0 ∷ 0 ∷ 0 ∷ 0 ∷ 0 ∷ 0 ∷ 0 ∷ 0 ∷ 0 ∷ 0 ∷ 0 ∷ 0 ∷ [])
    × (pulses 2 (started false (stopped 0x40 (ticks 1 (started false known (Along cw)))) (Along cw)) ≡ 0 ∷ 1 ∷ [])
unfolding computing_pulses pulses known
fraction_dropped = (refl, refl)

-- "SPC replaces the speed in force and keeps the fraction": after two ticks at 800 it is 600, and 400 more make one pulse.
speed_change :
    (pulses 1 (speed_changed (ticks 2 (started false known (Along cw))) 400) ≡ 1 ∷ [])
    × ((ticks 1 (speed_changed (ticks 2 (started false known (Along cw))) 400)).drive.fraction ≡ 0)
unfolding computing_pulses pulses known
speed_change = (refl, refl)

-- 5,000 pulses can fall in one tick: a target, a digital limit, and the nearer of the two end it there. The target counts
-- before the limit where both lie on one place.
capped :
    (pulses 1 (started false (at_speed 5000000) (To (origin + 1))) ≡ 1 ∷ [])
    × ((ticks 1 (started false (at_speed 5000000) (To (origin + 1)))).ended ≡ 0)
    × (pulses 2 (started false (limited 5000000 3) (To (origin + 100))) ≡ 3 ∷ 0 ∷ [])
    × ((ticks 1 (started false (limited 5000000 3) (To (origin + 100)))).ended ≡ lsend)
    × ((ticks 1 (started false (limited 5000000 3) (To (origin + 3)))).ended ≡ 0)
    × ((ticks 1 (started false (limited 5000000 3) (Along cw))).ended ≡ lsend)
    × ((ticks 1 (started false (limited 5000000 3) (To (origin + 100)))).place ≡ origin + 3)
unfolding computing_pulses pulses known at_speed limited
capped = (refl, refl, refl, refl, refl, refl, refl)

-- "CW positive, 0 for a stopped motor": the second tick's count either way, and that of a motor that stands.
counted :
    (tick_count (ticks 1 (started false known (Along cw))) ≡ 1) × (tick_count (ticks 1 (started false known (Along ccw))) ≡ 0xffffffff)
    × (tick_count fresh_motor ≡ 0)
unfolding computing_pulses known
counted = (refl, refl, refl)

-- 02 §3: a held channel "gets no pulses": no tick changes anything of it or gathers a fraction, and its count is 0 either way. From its
-- release on it goes as if it had just been started.
held :
    (ticks 3 (started true known (Along cw)) ≡ started true known (Along cw))
    × (map (λ going. tick_count (started true known (Along going))) (cw ∷ ccw ∷ []) ≡ 0 ∷ 0 ∷ [])
    × (pulses 5 (released (ticks 3 (started true known (Along cw)))) ≡ 0 ∷ 1 ∷ 1 ∷ 1 ∷ 1 ∷ [])
    × (released (ticks 3 (started true known (Along ccw))) ≡ started false known (Along ccw))
    × (pulses 3 (released (speed_changed (started true known (To (origin + 3))) 1000)) ≡ 1 ∷ 1 ∷ 1 ∷ [])
unfolding computing_pulses pulses known
held = (refl, refl, refl, refl, refl)

-- "rounded up": 3 pulses at 800 pps take 4 ticks, 4 take 5, and one pulse at the highest speed takes one.
lasts :
    (map (λ d. rounded_up (d * 1000) 800) (1 ∷ 3 ∷ 4 ∷ []) ≡ 2 ∷ 4 ∷ 5 ∷ []) × (rounded_up 1000 5000000 ≡ 1)
    × (rounded_up 5000000000 5000000 ≡ 1000) × (rounded_up 1000 1 ≡ 1000)
lasts = (refl, refl, refl, refl)
