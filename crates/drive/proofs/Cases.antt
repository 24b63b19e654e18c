-- The rules of a drive computed on cases. Each list is one statement, and its proof is the computation.
use Rattle.std.specs.Prelude.{Ok, Err}
use mathlib.Core.Path.{◌≡◌, refl}
use mathlib.Core.List.{[], ◌∷◌, map}
use mathlib.Core.Bool.{true, false}
use Prim.Native.Nat.{ℕ, ◌+◌, ◌-◌}
use lib.ListN.{replicate}
use Rattle.digits.specs.Places.{origin, lowest, highest, cw, ccw}
use Rattle.record.specs.declared.Motor.{Motor}
use Rattle.record.specs.Record.{fresh_motor, with_place, with_limits, with_wiring, with_setup}
use Rattle.drive.specs.declared.Course.TheVariants.{Stay, Beyond, To, Along}
use Rattle.drive.specs.declared.Refusal.TheVariants.{NoForm, Busy, OutOfRange, WrongSize, NotSound, LocalMode, Disabled, Unread, SwitchAhead, AtLimit, AtRangeEnd, NotDriving, Full}
use Rattle.drive.specs.Numbers.{number_of, is_silent, is_refusal, flag_bit}
use Rattle.drive.specs.Drives.{course_to, judge_start, well_aimed, started, released, stopped, speed_changed, contacted, switch_read}
use Rattle.drive.specs.Computing.{computing_drive}

-- a fresh motor whose contacts were read, all open; one with the SETLS byte and the contacts given, read or not; and one with the CW
-- limit at position n and D = 1
known : Motor
known = contacted fresh_motor 0

wired : ℕ → ℕ → ℕ → Motor
wired setls contacts read = with_wiring fresh_motor (record { setls = setls; contacts = contacts; read = read })

limited : ℕ → ℕ → Motor
limited n read = with_limits (wired 0b11110000 0 read) (record { cw = origin + n; ccw = origin - 1000000 })

-- "Numbers 1 to 4 set error flag bits 0 to 3 in turn", 4 read as the numbers from 7 on, later ones too: these are the refusals. 0, 5 and 6
-- are none, and nor is 4.
flags :
    (map flag_bit (1 ∷ 2 ∷ 3 ∷ []) ≡ 0 ∷ 1 ∷ 2 ∷ [])
    × (map flag_bit (7 ∷ 8 ∷ 9 ∷ 10 ∷ 11 ∷ 12 ∷ 13 ∷ 14 ∷ 17 ∷ []) ≡ replicate 9 3)
    × (map is_refusal (1 ∷ 2 ∷ 3 ∷ 7 ∷ 8 ∷ 9 ∷ 10 ∷ 11 ∷ 12 ∷ 13 ∷ 14 ∷ 17 ∷ []) ≡ replicate 12 true)
    × (map is_refusal (0 ∷ 4 ∷ 5 ∷ 6 ∷ []) ≡ replicate 4 false) × (map is_silent (0 ∷ 1 ∷ 4 ∷ 5 ∷ 6 ∷ 7 ∷ []) ≡ false ∷ false ∷ false ∷ true ∷ true ∷ false ∷ [])
unfolding computing_drive
flags = (refl, refl, refl, refl, refl)

-- A reading ends a drive only by the switch of its direction, with LSEND; HP and the other side end nothing.
readings :
    (map (λ n. (switch_read (started false known (Along cw)) n).drive.going) (0 ∷ 1 ∷ 2 ∷ 4 ∷ 6 ∷ 7 ∷ []) ≡ 1 ∷ 0 ∷ 1 ∷ 1 ∷ 1 ∷ 0 ∷ [])
    × (map (λ n. (switch_read (started false known (Along ccw)) n).ended) (0 ∷ 1 ∷ 2 ∷ 5 ∷ 6 ∷ 7 ∷ []) ≡ 0 ∷ 0 ∷ 0x20 ∷ 0 ∷ 0x20 ∷ 0x20 ∷ [])
    × ((switch_read fresh_motor 7).wiring.contacts ≡ 7) × ((switch_read fresh_motor 7).ended ≡ 0)
unfolding computing_drive known
readings = (refl, refl, refl, refl)

-- 02 §2: every reading makes the contacts known, one of open contacts too; neither an end of the drive nor a stop makes them unknown
-- again.
known_from_then :
    (map (λ n. (switch_read fresh_motor n).wiring.read) (0 ∷ 1 ∷ 7 ∷ []) ≡ 1 ∷ 1 ∷ 1 ∷ [])
    × (map (λ n. (switch_read (started false known (Along cw)) n).wiring.read) (0 ∷ 1 ∷ []) ≡ 1 ∷ 1 ∷ [])
    × ((stopped 0x40 (started false known (Along cw))).wiring.read ≡ 1)
unfolding computing_drive known
known_from_then = (refl, refl, refl)

-- 02 §3: a start under pause is held, with all that it would have had; nothing is held where nothing is started. A stop ends it, a
-- reading does by the switch of its direction alone, SPC sets its coming speed, and a release leaves it as if it had just been started.
held_starts :
    ((started true known (Along ccw)).drive ≡ record { going = ccw; held = true; kind = 0; fraction = 0; speed = 800; target = origin })
    × ((started true known (To (origin + 3))).drive ≡ record { going = cw; held = true; kind = 1; fraction = 0; speed = 800; target = origin + 3 })
    × (started true known Stay ≡ known) × (released (started true known (To 1)) ≡ started false known (To 1)) × (released known ≡ known)
    × (released (started false known (Along cw)) ≡ started false known (Along cw))
    × (stopped 0x80 (started true known (Along cw)) ≡ stopped 0x80 (started false known (Along cw)))
    × (map (λ n. (switch_read (started true known (Along cw)) n).drive.held) (0 ∷ 1 ∷ 2 ∷ 4 ∷ 6 ∷ 7 ∷ []) ≡ true ∷ false ∷ true ∷ true ∷ true ∷ false ∷ [])
    × (map (λ n. (switch_read (started true known (Along ccw)) n).ended) (0 ∷ 1 ∷ 2 ∷ 5 ∷ 6 ∷ []) ≡ 0 ∷ 0 ∷ 0x20 ∷ 0 ∷ 0x20 ∷ [])
    × ((released (speed_changed (started true known (Along cw)) 400)).drive.speed ≡ 400)
unfolding computing_drive known
held_starts = (refl, refl, refl, refl, refl, refl, refl, refl, refl, refl)

-- the fresh motor with SETMT's A at 0
disabled : Motor
disabled = with_setup fresh_motor (record { a = 0; b = 1; c = 0; d = 0 })

-- Starts of a stopped motor as they are judged: to the present place, whatever A says; past the range; with A = 0, unread besides;
-- onto an active switch; and onto a digital limit.
starts :
    (course_to fresh_motor cw origin 0 ≡ Stay) × (judge_start false disabled Stay ≡ (Ok tt))
    × (course_to fresh_motor ccw origin 2147483648 ≡ Beyond) × (course_to fresh_motor cw (origin + 1) 2147483647 ≡ Beyond)
    × (course_to fresh_motor ccw (origin - 1) 2147483646 ≡ To 1) × (judge_start false disabled Beyond ≡ (Err OutOfRange))
    × (judge_start false disabled (Along cw) ≡ (Err Disabled)) × (judge_start false (wired 0b00010001 0 1) (Along cw) ≡ (Err SwitchAhead))
    × (judge_start false (wired 0b00010001 0 1) (Along ccw) ≡ (Ok tt)) × (judge_start false (limited 0 1) (To (origin + 9)) ≡ (Err AtLimit))
    × (judge_start false (limited 0 1) (To (origin - 9)) ≡ (Ok tt))
unfolding computing_drive disabled wired limited
starts = (refl, refl, refl, refl, refl, refl, refl, refl, refl, refl, refl)

-- 02 §2: an unread motor does not leave, either way, whatever SETLS enables and whatever room there is; to the present place is done,
-- and past the range is out of range. Read, it leaves, but for what a switch or the room hinders.
unread_starts :
    (map (judge_start false fresh_motor) (Along cw ∷ Along ccw ∷ To 1 ∷ To highest ∷ Stay ∷ Beyond ∷ []) ≡ (Err Unread) ∷ (Err Unread) ∷ (Err Unread) ∷ (Err Unread) ∷ (Ok tt) ∷ (Err OutOfRange) ∷ [])
    × (map (λ w. judge_start false (wired w 0 0) (Along cw)) (0 ∷ 0b00010001 ∷ 0b00000001 ∷ []) ≡ (Err Unread) ∷ (Err Unread) ∷ (Err Unread) ∷ [])
    × (judge_start false (limited 0 0) (Along cw) ≡ (Err Unread))
    × (map (λ n. judge_start false (switch_read fresh_motor n) (Along cw)) (0 ∷ 1 ∷ 2 ∷ 4 ∷ []) ≡ (Ok tt) ∷ (Err SwitchAhead) ∷ (Ok tt) ∷ (Ok tt) ∷ [])
    × (map (λ n. judge_start false (switch_read fresh_motor n) (Along ccw)) (0 ∷ 1 ∷ 2 ∷ 4 ∷ []) ≡ (Ok tt) ∷ (Ok tt) ∷ (Err SwitchAhead) ∷ (Ok tt) ∷ [])
unfolding computing_drive wired limited
unread_starts = (refl, refl, refl, refl, refl)

-- a motor that was read, with the SETLS byte, at a place, with both limits at another
bounded : ℕ → ℕ → ℕ → Motor
bounded setls place limit = with_place (with_limits (wired setls 0 1) (record { cw = limit; ccw = limit })) place

-- one at the end of the range, with the digit A, the SETLS byte and open contacts, read or not
at_end : ℕ → ℕ → ℕ → Motor
at_end a setls read = with_place (with_setup (wired setls 0 read) (record { a = a; b = 1; c = 0; d = 0 })) highest

-- 02 §5: "no room because of a digital limit", and "because of the end of the range (where both, 12)", either way. With D = 1, at an end
-- of the range, wherever the limit lies; with D = 0; inside the range, with the limit behind, where the motor stands, and ahead; and at
-- the other end, where the range goes on.
no_room :
    (map (λ p. judge_start false (bounded 0b11110000 highest p) (Along cw)) (lowest ∷ origin ∷ highest ∷ []) ≡ replicate 3 (Err AtRangeEnd))
    × (map (λ p. judge_start false (bounded 0b11110000 lowest p) (Along ccw)) (lowest ∷ origin ∷ highest ∷ []) ≡ replicate 3 (Err AtRangeEnd))
    × (judge_start false (bounded 0b01110000 highest origin) (Along cw) ≡ (Err AtRangeEnd)) × (judge_start false (bounded 0b01110000 lowest origin) (Along ccw) ≡ (Err AtRangeEnd))
    × (map (λ p. judge_start false (bounded 0b11110000 (origin + 5) p) (Along cw)) (lowest ∷ (origin + 4) ∷ (origin + 5) ∷ (origin + 6) ∷ []) ≡ (Err AtLimit) ∷ (Err AtLimit) ∷ (Err AtLimit) ∷ (Ok tt) ∷ [])
    × (map (λ p. judge_start false (bounded 0b11110000 (origin + 5) p) (Along ccw)) (highest ∷ (origin + 6) ∷ (origin + 5) ∷ (origin + 4) ∷ []) ≡ (Err AtLimit) ∷ (Err AtLimit) ∷ (Err AtLimit) ∷ (Ok tt) ∷ [])
    × (judge_start false (bounded 0b11110000 lowest lowest) (Along cw) ≡ (Err AtLimit)) × (judge_start false (bounded 0b11110000 highest highest) (Along ccw) ≡ (Err AtLimit))
unfolding computing_drive bounded wired
no_room = (refl, refl, refl, refl, refl, refl, refl, refl)

-- 02 §5: "Refusals, in this order": a motor with A = 0 that was not read, with its CW switch N.C. and so active, at the end of the range,
-- and then one cause after the other taken away. Out of range comes before all of them.
ordered :
    (judge_start false (at_end 0 0b01110001 0) Beyond ≡ (Err OutOfRange)) × (judge_start false (at_end 0 0b01110001 0) (Along cw) ≡ (Err Disabled))
    × (judge_start false (at_end 1 0b01110001 0) (Along cw) ≡ (Err Unread)) × (judge_start false (at_end 1 0b01110001 1) (Along cw) ≡ (Err SwitchAhead))
    × (judge_start false (at_end 1 0b01110000 1) (Along cw) ≡ (Err AtRangeEnd)) × (judge_start false (at_end 1 0b01110000 1) (Along ccw) ≡ (Ok tt))
unfolding computing_drive at_end wired
ordered = (refl, refl, refl, refl, refl, refl)

-- "Numbers handed back", cause by cause, in the order of the lists.
numbers :
    map number_of ((Ok tt) ∷ (Err NoForm) ∷ (Err Busy) ∷ (Err OutOfRange) ∷ (Err WrongSize) ∷ (Err NotSound) ∷ (Err LocalMode) ∷ (Err Disabled) ∷ (Err Unread) ∷ (Err SwitchAhead) ∷ (Err AtLimit) ∷ (Err AtRangeEnd) ∷ (Err NotDriving) ∷ (Err Full) ∷ [])
    ≡ 0 ∷ 1 ∷ 2 ∷ 3 ∷ 5 ∷ 6 ∷ 7 ∷ 8 ∷ 9 ∷ 10 ∷ 11 ∷ 12 ∷ 13 ∷ 14 ∷ []
unfolding computing_drive
numbers = refl

-- Courses that a start can have, and some that none has: to where the motor stands, to no position, in no direction.
courses :
    map (well_aimed fresh_motor) (Stay ∷ Beyond ∷ To 1 ∷ To highest ∷ Along cw ∷ Along ccw ∷ To origin ∷ To 0 ∷ Along 0 ∷ Along 3 ∷ [])
    ≡ true ∷ true ∷ true ∷ true ∷ true ∷ true ∷ false ∷ false ∷ false ∷ false ∷ []
unfolding computing_drive
courses = refl

-- 02 §7: "a fifth start is 14, after 13": on a full card it is the last of the causes, and what moves nothing does not meet it
full_card :
    (map (judge_start true fresh_motor) (Along cw ∷ To 1 ∷ Stay ∷ Beyond ∷ []) ≡ (Err Unread) ∷ (Err Unread) ∷ (Ok tt) ∷ (Err OutOfRange) ∷ [])
    × (map (λ n. judge_start true (switch_read fresh_motor n) (Along cw)) (0 ∷ 1 ∷ []) ≡ (Err Full) ∷ (Err SwitchAhead) ∷ [])
    × (map (judge_start true (switch_read fresh_motor 0)) (Along ccw ∷ To 1 ∷ Stay ∷ []) ≡ (Err Full) ∷ (Err Full) ∷ (Ok tt) ∷ [])
    × (judge_start true disabled (Along cw) ≡ (Err Disabled)) × (judge_start true (limited 0 1) (To (origin + 9)) ≡ (Err AtLimit))
    × (judge_start true (at_end 1 0b01110000 1) (Along cw) ≡ (Err AtRangeEnd)) × (flag_bit 14 ≡ 3)
unfolding computing_drive disabled limited at_end wired
full_card = (refl, refl, refl, refl, refl, refl, refl)
