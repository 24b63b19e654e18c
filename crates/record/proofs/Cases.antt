-- The record computed on cases. Each list is one statement, and its proof is the computation.
use mathlib.Core.Path.{◌≡◌, refl}
use mathlib.Core.List.{List, [], ◌∷◌}
use mathlib.Core.Bool.{false}
use Prim.Native.Nat.{ℕ, ◌-◌}
use lib.ListN.{length, replicate}
use Rattle.digits.specs.Bytes.{part}
use Rattle.digits.specs.Places.{origin, ccw}
use Rattle.record.specs.declared.Motor.{Motor}
use Rattle.record.specs.Record.{motor_of, record_of, fresh_motor, with_wiring, with_drive}
use Rattle.record.specs.Computing.{computing_record}

-- a fresh motor whose contacts are read, CW closed, and that drives CCW to position -5 at 800 pps
underway : Motor
underway =
    with_drive (with_wiring fresh_motor (record { setls = 0b01110000; contacts = 1; read = 1 })) 0
    (record { going = ccw; held = false; kind = 1; fraction = 0; speed = 800; target = origin - 5 })

-- a fresh record's bytes, and those of a record that drives
fresh_bytes : List ℕ
fresh_bytes = record_of fresh_motor

driving_bytes : List ℕ
driving_bytes = record_of underway

-- bytes read out and written back are the same bytes, and there are 64 of them
round_trip :
    (record_of (motor_of fresh_bytes) ≡ fresh_bytes) × (record_of (motor_of driving_bytes) ≡ driving_bytes)
    × (length fresh_bytes ≡ 64)
unfolding computing_record underway fresh_bytes driving_bytes
round_trip = (refl, refl, refl)

-- Fresh, byte by byte: position 0, limits +1,000,000 (000F4240h) and -1,000,000 (FFF0BDC0h), 1000 (3E8h), 800 (320h), 50
-- (32h), M, 01110000, contacts 0 and unknown, SETMT 1100, stopped.
fresh_list :
    (part fresh_bytes 0 32
    ≡ 0 ∷ 0 ∷ 0 ∷ 0 ∷ 0x40 ∷ 0x42 ∷ 0x0f ∷ 0x00 ∷ 0xc0 ∷ 0xbd ∷ 0xf0 ∷ 0xff ∷ 0xe8 ∷ 0x03 ∷ 0 ∷ 0 ∷ 0x20 ∷ 0x03 ∷ 0 ∷ 0 ∷ 50 ∷ 0 ∷ 0 ∷ 0 ∷ 1 ∷ 0x70 ∷ 0 ∷ 1 ∷ 1 ∷ 0 ∷ 0 ∷ 0 ∷ [])
    × (part fresh_bytes 32 32 ≡ replicate 32 0)
unfolding computing_record fresh_bytes
fresh_list = (refl, refl)

-- Byte 44 of a record whose contacts are read is 1, and the nineteen after it are zero.
read_byte : part driving_bytes 44 20 ≡ 1 ∷ replicate 19 0
unfolding computing_record underway driving_bytes
read_byte = refl
