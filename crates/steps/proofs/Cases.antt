-- The steps of lists, the examples of 02 §8's open points among them. Assumes nothing.
use Prim.Native.Nat.{ℕ}
use mathlib.Core.Path.{◌≡◌, refl}
use mathlib.Core.Bool.{true, false}
use mathlib.Core.List.{List, [], ◌∷◌, ◌++◌}
use lib.Ieee.{binary64, of_bits}
use Rattle.digits.specs.Words.{word_bytes}
use Rattle.std.specs.Prelude.{None, Some, Result, Ok, Err}
use Rattle.steps.specs.declared.Fault.{Fault}
use Rattle.steps.specs.declared.Step.TheVariants.{Drive, Wait}
use Rattle.steps.specs.Numbers.{number_of}
use Rattle.steps.specs.Steps.{step_at, beyond_at}
use Rattle.steps.specs.Computing.{computing_steps}

-- the number and the offset of what refuses a list
abbrev refusal : {A : Type 0} → Result A Fault → List ℕ
refusal (Ok x) = []
refusal (Err f) = number_of f.cause ∷ f.offset ∷ []

-- a channel's field, and the field of a double by its bits
abbrev channel : ℕ → List ℕ
channel c = 1 ∷ 1 ∷ 0 ∷ c ∷ []

abbrev double : ℕ → ℕ → List ℕ
double tag bits = tag ∷ 8 ∷ 0 ∷ word_bytes 8 bits

-- The list of a move: channel 3, a target of 100, a speed of 800.
a_move : step_at (channel 3 ++ double 2 0x4059_0000_0000_0000 ++ double 4 0x4089_0000_0000_0000) 0 ≡ Ok (Some (Drive (record { channel = 3; relative = false; place = 2147483748; speed = 800 })))
unfolding computing_steps
a_move = refl

-- channel 0 and a double as target; the speed is 800
abbrev toward : ℕ → List ℕ
toward bits = channel 0 ++ double 2 bits ++ double 4 0x4089_0000_0000_0000

-- 2.5, 2147483647.5, -infinity, a NaN are 24; 2147483648, -2147483648, 10 to the 300 are 25
targets :
    (refusal (step_at (toward 0x4004_0000_0000_0000) 0) ≡ 24 ∷ 4 ∷ [])
    × (refusal (step_at (toward 0x41df_ffff_ffe0_0000) 0) ≡ 24 ∷ 4 ∷ [])
    × (refusal (step_at (toward 0xfff0_0000_0000_0000) 0) ≡ 24 ∷ 4 ∷ [])
    × (refusal (step_at (toward 0x7ff8_0000_0000_0000) 0) ≡ 24 ∷ 4 ∷ [])
    × (refusal (step_at (toward 0x41e0_0000_0000_0000) 0) ≡ 25 ∷ 4 ∷ [])
    × (refusal (step_at (toward 0xc1e0_0000_0000_0000) 0) ≡ 25 ∷ 4 ∷ [])
    × (refusal (step_at (toward 0x7e37_e43c_8800_759c) 0) ≡ 25 ∷ 4 ∷ [])
unfolding computing_steps
targets = (refl, refl, refl, refl, refl, refl, refl)

-- channel A, a distance of -0, and a double as speed
abbrev at_speed : ℕ → List ℕ
at_speed bits = channel 10 ++ double 3 0x8000_0000_0000_0000 ++ double 4 bits

-- 5000000 is taken; 0.5, 5000000.5 and 5 times 10 to the -324 are 24; 0, -0 and 5000001 are 25
speeds :
    (step_at (at_speed 0x4153_12d0_0000_0000) 0 ≡ Ok (Some (Drive (record { channel = 10; relative = true; place = 2147483648; speed = 5000000 }))))
    × (refusal (step_at (at_speed 0x3fe0_0000_0000_0000) 0) ≡ 24 ∷ 15 ∷ [])
    × (refusal (step_at (at_speed 0x4153_12d0_2000_0000) 0) ≡ 24 ∷ 15 ∷ [])
    × (refusal (step_at (at_speed 0x0000_0000_0000_0001) 0) ≡ 24 ∷ 15 ∷ [])
    × (refusal (step_at (at_speed 0x0000_0000_0000_0000) 0) ≡ 25 ∷ 15 ∷ [])
    × (refusal (step_at (at_speed 0x8000_0000_0000_0000) 0) ≡ 25 ∷ 15 ∷ [])
    × (refusal (step_at (at_speed 0x4153_12d0_4000_0000) 0) ≡ 25 ∷ 15 ∷ [])
unfolding computing_steps
speeds = (refl, refl, refl, refl, refl, refl, refl)

-- 10000 is taken; 0, 10001 and -1 are 25
dwells :
    (step_at (double 5 0x40c3_8800_0000_0000) 0 ≡ Ok (Some (Wait (of_bits binary64 0x40c3_8800_0000_0000) 10000)))
    × (refusal (step_at (double 5 0x0000_0000_0000_0000) 0) ≡ 25 ∷ 0 ∷ [])
    × (refusal (step_at (double 5 0x40c3_8880_0000_0000) 0) ≡ 25 ∷ 0 ∷ [])
    × (refusal (step_at (double 5 0xbff0_0000_0000_0000) 0) ≡ 25 ∷ 0 ∷ [])
unfolding computing_steps
dwells = (refl, refl, refl, refl)

-- The lower number in one field: an unknown tag that is cut, and one that is whole; a length of 8 with one byte there, and of 2; a wrong
-- place and a wrong length; no value; channel 16.
in_one_field :
    (refusal (step_at (9 ∷ 1 ∷ 0 ∷ []) 0) ≡ 20 ∷ 0 ∷ [])
    × (refusal (step_at (9 ∷ 1 ∷ 0 ∷ 0 ∷ []) 0) ≡ 21 ∷ 0 ∷ [])
    × (refusal (step_at (1 ∷ 8 ∷ 0 ∷ 0 ∷ []) 0) ≡ 20 ∷ 0 ∷ [])
    × (refusal (step_at (1 ∷ 2 ∷ 0 ∷ 0 ∷ 0 ∷ []) 0) ≡ 22 ∷ 0 ∷ [])
    × (refusal (step_at (2 ∷ 1 ∷ 0 ∷ 0 ∷ []) 0) ≡ 21 ∷ 0 ∷ [])
    × (refusal (step_at (5 ∷ 0 ∷ 0 ∷ []) 0) ≡ 22 ∷ 0 ∷ [])
    × (refusal (step_at (channel 16) 0) ≡ 23 ∷ 0 ∷ [])
unfolding computing_steps
in_one_field = (refl, refl, refl, refl, refl, refl, refl)

-- A list that ends: where a step may begin; after a target, and one byte later; and with stray bytes.
ends :
    (step_at [] 0 ≡ Ok None)
    × (refusal (step_at (channel 0 ++ double 2 0x401c_0000_0000_0000) 0) ≡ 21 ∷ 15 ∷ [])
    × (refusal (step_at (channel 0 ++ double 2 0x401c_0000_0000_0000 ++ (4 ∷ [])) 0) ≡ 20 ∷ 15 ∷ [])
    × (refusal (step_at (5 ∷ []) 0) ≡ 20 ∷ 0 ∷ [])
unfolding computing_steps
ends = (refl, refl, refl, refl)

-- A target's fault before any of its speed's field: a NaN and a cut speed; 10 to the 10 and a NaN as speed; a NaN and the list's end.
target_first :
    (refusal (step_at (channel 0 ++ double 2 0x7ff8_0000_0000_0000 ++ (4 ∷ 8 ∷ 0 ∷ 0 ∷ [])) 0) ≡ 24 ∷ 4 ∷ [])
    × (refusal (step_at (channel 0 ++ double 2 0x4202_a05f_2000_0000 ++ double 4 0x7ff8_0000_0000_0000) 0) ≡ 25 ∷ 4 ∷ [])
    × (refusal (step_at (channel 0 ++ double 2 0x7ff8_0000_0000_0000) 0) ≡ 24 ∷ 4 ∷ [])
unfolding computing_steps
target_first = (refl, refl, refl)

-- After the last step that may come: the end; a dwell of 1, and channel 3 and the end; dwells of 0 and of a NaN; channel 16; a target; two
-- stray bytes.
beyond :
    (beyond_at [] 0 ≡ Ok tt)
    × (refusal (beyond_at (double 5 0x3ff0_0000_0000_0000) 0) ≡ 26 ∷ 0 ∷ [])
    × (refusal (beyond_at (channel 3) 0) ≡ 26 ∷ 0 ∷ [])
    × (refusal (beyond_at (double 5 0x0000_0000_0000_0000) 0) ≡ 25 ∷ 0 ∷ [])
    × (refusal (beyond_at (double 5 0x7ff8_0000_0000_0000) 0) ≡ 24 ∷ 0 ∷ [])
    × (refusal (beyond_at (channel 16) 0) ≡ 23 ∷ 0 ∷ [])
    × (refusal (beyond_at (double 2 0x0000_0000_0000_0000) 0) ≡ 21 ∷ 0 ∷ [])
    × (refusal (beyond_at (5 ∷ 8 ∷ []) 0) ≡ 20 ∷ 0 ∷ [])
unfolding computing_steps
beyond = (refl, refl, refl, refl, refl, refl, refl, refl)
