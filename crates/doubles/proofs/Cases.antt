-- What doubles are, by their bits. Assumes nothing.
use mathlib.Core.Path.{◌≡◌, refl}
use mathlib.Core.Bool.{true, false}
use lib.Ieee.{binary64, of_bits}
use Rattle.std.specs.Prelude.{None}
use Rattle.doubles.specs.Measures.{largest, whole, measure_of}
use Rattle.doubles.specs.Computing.{computing_doubles}

-- 0, -0, 1, -1, 2,147,483,647, 10 to the 300
whole_ones :
    (measure_of (of_bits binary64 0x0000_0000_0000_0000) ≡ whole false 0)
    × (measure_of (of_bits binary64 0x8000_0000_0000_0000) ≡ whole true 0)
    × (measure_of (of_bits binary64 0x3ff0_0000_0000_0000) ≡ whole false 1)
    × (measure_of (of_bits binary64 0xbff0_0000_0000_0000) ≡ whole true 1)
    × (measure_of (of_bits binary64 0x41df_ffff_ffc0_0000) ≡ whole false 2147483647)
    × (measure_of (of_bits binary64 0x7e37_e43c_8800_759c) ≡ whole false largest)
unfolding computing_doubles
whole_ones = (refl, refl, refl, refl, refl, refl)

-- 2.5, 2,147,483,647.5, 5 times 10 to the -324, both infinities, a quiet and a signalling NaN
broken_ones :
    (measure_of (of_bits binary64 0x4004_0000_0000_0000) ≡ None)
    × (measure_of (of_bits binary64 0x41df_ffff_ffe0_0000) ≡ None)
    × (measure_of (of_bits binary64 0x0000_0000_0000_0001) ≡ None)
    × (measure_of (of_bits binary64 0x7ff0_0000_0000_0000) ≡ None)
    × (measure_of (of_bits binary64 0xfff0_0000_0000_0000) ≡ None)
    × (measure_of (of_bits binary64 0x7ff8_0000_0000_0000) ≡ None)
    × (measure_of (of_bits binary64 0xfff0_0000_0000_0001) ≡ None)
unfolding computing_doubles
broken_ones = (refl, refl, refl, refl, refl, refl, refl)
