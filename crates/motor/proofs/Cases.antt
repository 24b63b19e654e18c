-- Switches, room and soundness computed on cases. Each list is one statement, and its proof is the computation.
use Rattle.std.proofs.Common.{◌≡◌, ℕ, ◌+◌, ◌-◌, Bool, true, false, List, [], ◌∷◌, ◌++◌, map, replicate, refl}
use Rattle.digits.specs.Bytes.{put}
use Rattle.digits.specs.Words.{word_bytes}
use Rattle.digits.specs.Places.{origin, cw, ccw}
use Rattle.record.specs.declared.Motor.{Motor}
use Rattle.record.specs.Record.{record_of, fresh_motor, with_place, with_limits, with_wiring, with_drive, standing}
use Rattle.motor.specs.Switches.{active, blocked, room}
use Rattle.motor.specs.Sound.{sound_record, sound_under}
use Rattle.motor.specs.Computing.{computing_motor}

-- a fresh motor whose contacts are read, with the SETLS byte and the contacts given, and with the CW limit at position n and D = 1
wired : ℕ → ℕ → Motor
wired setls contacts = with_wiring fresh_motor (record { setls = setls; contacts = contacts; read = 1 })

limited : ℕ → Motor
limited n = with_limits (wired 0b11110000 0) (record { cw = origin + n; ccw = origin - 1000000 })

-- The four kinds of switch, at the CW switch: N.O. open, N.O. closed, N.C. open, N.C. closed. Not enabled, none of them
-- hinders.
switches :
    (map (λ w. active 0 (wired w 0).wiring) (0b00010000 ∷ 0b00010001 ∷ []) ≡ false ∷ true ∷ [])
    × (map (λ w. active 0 (wired w 1).wiring) (0b00010000 ∷ 0b00010001 ∷ []) ≡ true ∷ false ∷ [])
    × (map (λ w. blocked cw (wired w 0)) (0b00010001 ∷ 0b00000001 ∷ 0b00100010 ∷ 0b01000100 ∷ []) ≡ true ∷ false ∷ false ∷ false ∷ [])
    × (map (λ w. blocked ccw (wired w 0)) (0b00010001 ∷ 0b00000010 ∷ 0b00100010 ∷ 0b01000100 ∷ []) ≡ false ∷ false ∷ true ∷ false ∷ [])
unfolding computing_motor wired
switches = (refl, refl, refl, refl)

-- Room to both ends of the range, to a digital limit with D = 1, and none past a limit; limits may cross.
rooms :
    (room cw fresh_motor ≡ 2147483647) × (room ccw fresh_motor ≡ 2147483647) × (room cw (limited 3) ≡ 3)
    × (room ccw (limited 3) ≡ 1000000) × (room cw (with_place (limited 3) (origin + 5)) ≡ 0)
    × (room ccw (with_place (limited 3) (origin + 5)) ≡ 1000005) × (room cw (with_place fresh_motor 4294967295) ≡ 0)
    × (room ccw (with_place fresh_motor 1) ≡ 0)
unfolding computing_motor limited wired
rooms = (refl, refl, refl, refl, refl, refl, refl, refl)

-- a fresh motor with its contacts read and open, that drives CW to position +5 at 800 pps
underway : Motor
underway = with_drive (wired 0b01110000 0) 0 (record { going = cw; held = false; kind = 1; fraction = 0; speed = 800; target = origin + 5 })

-- a fresh record's bytes, those of one whose contacts are read, and those of a record that drives
fresh_bytes : List ℕ
fresh_bytes = record_of fresh_motor

read_bytes : List ℕ
read_bytes = record_of (wired 0b01110000 0)

driving_bytes : List ℕ
driving_bytes = record_of underway

-- the verdict on a record with some bytes written over: the bytes, the place and whether it is sound
damaged : List ℕ → ℕ → List ℕ → Bool
damaged b at n = sound_record (put b at n)

-- Fields at and past the ends of their ranges, and bytes that must be zero.
soundness :
    (damaged fresh_bytes 0 (0 ∷ 0 ∷ 0 ∷ 0x80 ∷ []) ≡ false) × (damaged fresh_bytes 0 (1 ∷ 0 ∷ 0 ∷ 0x80 ∷ []) ≡ true)
    × (map (λ at. damaged fresh_bytes at (0 ∷ 0 ∷ 0 ∷ 0x80 ∷ [])) (4 ∷ 8 ∷ 40 ∷ []) ≡ false ∷ false ∷ false ∷ [])
    × (map (λ at. damaged fresh_bytes at (word_bytes 4 5000000)) (12 ∷ 16 ∷ 20 ∷ []) ≡ true ∷ true ∷ true ∷ [])
    × (map (λ at. damaged fresh_bytes at (word_bytes 4 5000001)) (12 ∷ 16 ∷ 20 ∷ []) ≡ false ∷ false ∷ false ∷ [])
    × (map (λ at. damaged fresh_bytes at (word_bytes 4 0)) (12 ∷ 16 ∷ 20 ∷ []) ≡ false ∷ false ∷ false ∷ [])
    × (map (λ n. damaged fresh_bytes 24 (n ∷ [])) (0 ∷ 2 ∷ 3 ∷ []) ≡ true ∷ true ∷ false ∷ [])
    × (map (λ n. damaged fresh_bytes 25 (n ∷ [])) (0b11110111 ∷ 0b01111000 ∷ 255 ∷ []) ≡ true ∷ false ∷ false ∷ [])
    × (map (λ n. damaged read_bytes 26 (n ∷ [])) (7 ∷ 8 ∷ []) ≡ true ∷ false ∷ [])
    × (map (λ n. damaged fresh_bytes 27 n) ((0 ∷ 0 ∷ 0 ∷ 2 ∷ []) ∷ (2 ∷ []) ∷ (1 ∷ 2 ∷ []) ∷ (1 ∷ 1 ∷ 1 ∷ []) ∷ (1 ∷ 1 ∷ 0 ∷ 3 ∷ []) ∷ []) ≡ true ∷ false ∷ false ∷ false ∷ false ∷ [])
    × (map (λ n. damaged fresh_bytes 31 (n ∷ [])) (0x80 ∷ 0x40 ∷ 0x20 ∷ 0xc0 ∷ 1 ∷ []) ≡ true ∷ true ∷ true ∷ false ∷ false ∷ [])
    × (map (λ at. damaged fresh_bytes at (1 ∷ [])) (32 ∷ 33 ∷ 34 ∷ 35 ∷ 36 ∷ 39 ∷ 40 ∷ 43 ∷ 45 ∷ 47 ∷ 48 ∷ 63 ∷ []) ≡ replicate 12 false)
unfolding computing_motor damaged fresh_bytes read_bytes wired
soundness = (refl, refl, refl, refl, refl, refl, refl, refl, refl, refl, refl, refl)

-- Of a driving record: end flags 0, A = 1, a pulse of room, no active enabled switch ahead, a target strictly ahead or, for
-- a scan, target 0, and a speed in force.
busy_soundness :
    (sound_record driving_bytes ≡ true) × (damaged driving_bytes 31 (0x20 ∷ []) ≡ false)
    × (damaged driving_bytes 27 (0 ∷ []) ≡ false) × (damaged driving_bytes 0 (0xff ∷ 0xff ∷ 0xff ∷ 0x7f ∷ []) ≡ false)
    × (map (λ n. damaged driving_bytes 26 (n ∷ [])) (1 ∷ 2 ∷ 4 ∷ []) ≡ false ∷ true ∷ true ∷ [])
    × (map (λ n. damaged driving_bytes 40 (n ∷ [])) (0 ∷ 1 ∷ []) ≡ false ∷ true ∷ [])
    × (map (λ n. damaged driving_bytes 32 (n ∷ [])) (2 ∷ 5 ∷ []) ≡ false ∷ false ∷ [])
    × (map (λ n. damaged driving_bytes 33 n) ((0 ∷ []) ∷ (2 ∷ []) ∷ (0 ∷ 0 ∷ 0 ∷ 0x20 ∷ 3 ∷ 0 ∷ 0 ∷ 0 ∷ []) ∷ []) ≡ false ∷ false ∷ true ∷ [])
    × (map (λ n. damaged driving_bytes 34 (word_bytes 2 n)) (999 ∷ 1000 ∷ []) ≡ true ∷ false ∷ [])
    × (map (λ n. damaged driving_bytes 36 (word_bytes 4 n)) (0 ∷ 1 ∷ 5000000 ∷ 5000001 ∷ []) ≡ false ∷ true ∷ true ∷ false ∷ [])
    × (sound_record [] ≡ false) × (sound_record (driving_bytes ++ (0 ∷ [])) ≡ false)
unfolding computing_motor damaged driving_bytes underway wired
busy_soundness = (refl, refl, refl, refl, refl, refl, refl, refl, refl, refl, refl, refl)

-- 02 §2: "Record byte 44 says so (0 unknown, with contacts 0; 1 read); a driving record has 1." Fresh, with contacts closed, driving,
-- and stopped again.
contacts_soundness :
    (map (λ n. damaged fresh_bytes 44 (n ∷ [])) (0 ∷ 1 ∷ 2 ∷ 255 ∷ []) ≡ true ∷ true ∷ false ∷ false ∷ [])
    × (map (λ n. damaged fresh_bytes 26 (n ∷ [])) (0 ∷ 1 ∷ 2 ∷ 4 ∷ []) ≡ true ∷ false ∷ false ∷ false ∷ [])
    × (map (λ n. damaged (record_of (wired 0b01110000 5)) 44 (n ∷ [])) (0 ∷ 1 ∷ 2 ∷ []) ≡ false ∷ true ∷ false ∷ [])
    × (map (λ n. damaged driving_bytes 44 (n ∷ [])) (0 ∷ 1 ∷ 2 ∷ []) ≡ false ∷ true ∷ false ∷ [])
    × (map (λ n. damaged (record_of (with_drive underway 0x40 standing)) 44 (n ∷ [])) (0 ∷ 1 ∷ []) ≡ true ∷ true ∷ [])
unfolding computing_motor damaged fresh_bytes driving_bytes underway wired
contacts_soundness = (refl, refl, refl, refl, refl)

-- 02 §3: "a held record is sound only under pause, and otherwise as a driving one". Byte 32 of the record that drives CW to +5: under
-- pause, without it, and byte for byte as one that drives.
held_bytes : List ℕ
held_bytes = put driving_bytes 32 (3 ∷ [])

held_soundness :
    (map (λ n. sound_under true (put driving_bytes 32 (n ∷ []))) (0 ∷ 1 ∷ 2 ∷ 3 ∷ 4 ∷ 5 ∷ []) ≡ false ∷ true ∷ false ∷ true ∷ false ∷ false ∷ [])
    × (map (λ n. sound_under false (put driving_bytes 32 (n ∷ []))) (0 ∷ 1 ∷ 2 ∷ 3 ∷ 4 ∷ 5 ∷ []) ≡ false ∷ true ∷ false ∷ false ∷ false ∷ false ∷ [])
    × (damaged held_bytes 31 (0x40 ∷ []) ≡ false) × (damaged held_bytes 27 (0 ∷ []) ≡ false) × (damaged held_bytes 44 (0 ∷ []) ≡ false)
    × (map (λ n. damaged held_bytes 26 (n ∷ [])) (1 ∷ 2 ∷ []) ≡ false ∷ true ∷ [])
    × (map (λ n. damaged held_bytes 40 (n ∷ [])) (0 ∷ 1 ∷ []) ≡ false ∷ true ∷ [])
    × (map (λ n. damaged held_bytes 34 (word_bytes 2 n)) (5 ∷ 999 ∷ 1000 ∷ []) ≡ true ∷ true ∷ false ∷ [])
    × (damaged held_bytes 36 (0 ∷ 0 ∷ []) ≡ false)
    × (map (λ n. sound_record (record_of (with_drive (limited n) 0 (record { going = cw; held = true; kind = 0; fraction = 0; speed = 800; target = origin })))) (0 ∷ 1 ∷ []) ≡ false ∷ true ∷ [])
    × (map (λ t. sound_under t fresh_bytes) (true ∷ false ∷ []) ≡ true ∷ true ∷ [])
unfolding computing_motor damaged held_bytes driving_bytes fresh_bytes underway limited wired
held_soundness = (refl, refl, refl, refl, refl, refl, refl, refl, refl, refl, refl)
