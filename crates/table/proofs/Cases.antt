-- The table's definitions computed on cases: the fresh table, where things stand, and what makes a table unsound.
use mathlib.Core.Path.{◌≡◌, refl}
use mathlib.Core.List.{List, [], ◌∷◌, ◌++◌, map}
use mathlib.Core.Bool.{true, false}
use Prim.Native.Nat.{ℕ, zero, suc}
use lib.ListN.{length, drop, replicate}
use Rattle.digits.specs.Bytes.{part, put}
use Rattle.digits.specs.Places.{origin, cw}
use Rattle.record.specs.declared.Motor.{Motor}
use Rattle.record.specs.Record.{record_of, fresh_motor, with_wiring, with_drive}
use Rattle.table.specs.Layout.{head_of, card_full, with_head, with_mode, with_reply, with_errors, with_pause, record_at, motor_at, with_motor, with_motors, fresh_table}
use Rattle.table.specs.Sound.{sound_table}
use Rattle.table.specs.Computing.{computing_table}

-- the fresh table of the sixteen-motor card
abbrev sixteen : List ℕ
sixteen = fresh_table 0

-- Fresh: a head of zeros but for the card, sixteen records that are the fresh motor's, and a sound table. No third card is.
fresh :
    (length sixteen ≡ 1088) × (part sixteen 0 64 ≡ replicate 64 0) × (record_at sixteen 0 ≡ record_of fresh_motor)
    × (record_at sixteen 15 ≡ record_of fresh_motor) × (put sixteen 6 (1 ∷ []) ≡ fresh_table 1)
    × (map (λ card. sound_table (fresh_table card)) (0 ∷ 1 ∷ 2 ∷ 255 ∷ []) ≡ true ∷ true ∷ false ∷ false ∷ [])
unfolding computing_table
fresh = (refl, refl, refl, refl, refl, refl)

-- a motor, fresh but for its contacts, which are read, that scans CW at 800 pps, and a table whose channel 11 does
scanning : Motor
scanning =
    with_drive (with_wiring fresh_motor (record { setls = 0b01110000; contacts = 0; read = 1 })) 0
    (record { going = cw; held = false; kind = 0; fraction = 0; speed = 800; target = origin })

away : List ℕ
away = with_motor sixteen 11 scanning

-- a motor is read where it was written, the neighbours are as they were, the head but for the busy set, which has channel 11 alone, and
-- the table is as long
placed :
    (with_motor sixteen 11 fresh_motor ≡ sixteen) × (motor_at away 11 ≡ scanning) × (motor_at away 10 ≡ fresh_motor)
    × (motor_at away 12 ≡ fresh_motor) × (part away 800 8 ≡ 1 ∷ 0 ∷ 0 ∷ 0 ∷ 0x20 ∷ 0x03 ∷ 0 ∷ 0 ∷ []) × (length away ≡ 1088)
    × (part away 0 6 ≡ 0 ∷ 0 ∷ 0 ∷ 0 ∷ 0 ∷ 8 ∷ []) × (part away 6 762 ≡ part sixteen 6 762) × (part away 832 256 ≡ part sixteen 832 256)
    × (sound_table away ≡ true) × (with_motors away (λ m. fresh_motor) ≡ sixteen) × (with_motors away (λ m. m) ≡ away)
unfolding computing_table away scanning
placed = (refl, refl, refl, refl, refl, refl, refl, refl, refl, refl, refl, refl)

-- the head's fields stand at bytes 0 to 3, 4 and 5, the low byte first, and 6, and are written there
head :
    (head_of (1 ∷ 2 ∷ 3 ∷ 4 ∷ 5 ∷ 6 ∷ 7 ∷ []) ≡ record { mode = 1; reply = 2; errors = 3; pause = 4; busy = 0x0605; card = 7 })
    × (with_head (0 ∷ 0 ∷ 0 ∷ 0 ∷ 7 ∷ 8 ∷ 9 ∷ 10 ∷ []) (with_pause (with_errors (with_reply (with_mode (head_of (0 ∷ 0 ∷ 0 ∷ 0 ∷ 7 ∷ 8 ∷ 9 ∷ [])) 1) 1) 15) 1) ≡ 1 ∷ 1 ∷ 15 ∷ 1 ∷ 7 ∷ 8 ∷ 9 ∷ 10 ∷ [])
unfolding computing_table
head = (refl, refl)

-- a table of a wrong length, one of all FFh, a head byte out of range, and a byte of any record that must be zero; that the contacts
-- are read, byte 44 of a record, may stand in any of them
unsound :
    (map (λ t. sound_table t) ([] ∷ drop 1 sixteen ∷ (sixteen ++ (0 ∷ [])) ∷ replicate 1088 255 ∷ replicate 1088 0 ∷ [])
    ≡ false ∷ false ∷ false ∷ false ∷ false ∷ [])
    × (map (λ at. sound_table (put sixteen at (1 ∷ []))) (0 ∷ 1 ∷ 2 ∷ 3 ∷ 4 ∷ 5 ∷ 6 ∷ 7 ∷ 63 ∷ 108 ∷ 109 ∷ 127 ∷ 1068 ∷ 1069 ∷ 1087 ∷ [])
    ≡ true ∷ true ∷ true ∷ true ∷ false ∷ false ∷ true ∷ false ∷ false ∷ true ∷ false ∷ false ∷ true ∷ false ∷ false ∷ [])
    × (map (λ b. sound_table (put sixteen 0 b)) ((2 ∷ []) ∷ (1 ∷ 2 ∷ []) ∷ (1 ∷ 1 ∷ 15 ∷ []) ∷ (1 ∷ 1 ∷ 16 ∷ []) ∷ (0 ∷ 0 ∷ 0 ∷ 2 ∷ []) ∷ [])
    ≡ false ∷ false ∷ true ∷ false ∷ false ∷ [])
unfolding computing_table
unsound = (refl, refl, refl)

-- 02 §3: "a held record is sound only under pause": channel 11 held, and scanning, with pause off and on
holding : ℕ → ℕ → List ℕ
holding way pause = put (put away 800 (way ∷ [])) 3 (pause ∷ [])

held_under_pause :
    (map (λ way. sound_table (holding way 0)) (1 ∷ 2 ∷ 3 ∷ 4 ∷ 5 ∷ []) ≡ true ∷ true ∷ false ∷ false ∷ false ∷ [])
    × (map (λ way. sound_table (holding way 1)) (1 ∷ 2 ∷ 3 ∷ 4 ∷ 5 ∷ []) ≡ true ∷ true ∷ true ∷ true ∷ false ∷ [])
unfolding computing_table holding away scanning
held_under_pause = (refl, refl)

-- 02 §6: "bit c for channel c, held drives included", and "a wrong set is 6": of a table with channel 11 scanning or held
-- only that set is taken, low byte first; with channels 0 and 15 written besides the set has the three, and with 11 at rest none
busy_sets :
    (map (λ w. sound_table (put away 4 w)) ((0 ∷ 8 ∷ []) ∷ (0 ∷ 0 ∷ []) ∷ (8 ∷ 0 ∷ []) ∷ (0 ∷ 9 ∷ []) ∷ (1 ∷ 8 ∷ []) ∷ (0 ∷ 16 ∷ []) ∷ (255 ∷ 255 ∷ []) ∷ [])
    ≡ true ∷ false ∷ false ∷ false ∷ false ∷ false ∷ false ∷ [])
    × (map (λ w. sound_table (put (holding 3 1) 4 w)) ((0 ∷ 8 ∷ []) ∷ (0 ∷ 0 ∷ []) ∷ []) ≡ true ∷ false ∷ [])
    × ((head_of (with_motor (with_motor away 0 scanning) 15 scanning)).busy ≡ 0x8801) × ((head_of (with_motor away 11 fresh_motor)).busy ≡ 0)
unfolding computing_table holding away scanning
busy_sets = (refl, refl, refl, refl)

-- 02 §7: "with five busy a four-motor table is not sound", where held drives are busy too; with four it is, and the sixteen-motor card
-- takes five. The first channels scan; channel 0 goes the given way, 1 CW or 3 held
crowd : ℕ → List ℕ
crowd zero = sixteen
crowd (suc n) = with_motor (crowd n) n scanning

shared : ℕ → ℕ → ℕ → List ℕ
shared way n card = put (put (put (crowd n) 64 (put (record_at (crowd n) 0) 32 (way ∷ []))) 3 (1 ∷ [])) 6 (card ∷ [])

card_shared :
    (map (λ n. sound_table (shared 1 n 1)) (4 ∷ 5 ∷ []) ≡ true ∷ false ∷ [])
    × (map (λ n. sound_table (shared 3 n 1)) (4 ∷ 5 ∷ []) ≡ true ∷ false ∷ [])
    × (map (λ card. sound_table (shared 3 5 card)) (0 ∷ 2 ∷ []) ≡ true ∷ false ∷ [])
    × (map (λ n. card_full (head_of (shared 1 n 1))) (3 ∷ 4 ∷ []) ≡ false ∷ true ∷ []) × (card_full (head_of (crowd 5)) ≡ false)
unfolding computing_table crowd shared scanning
card_shared = (refl, refl, refl, refl, refl)
