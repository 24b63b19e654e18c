-- What is printed for lists, the examples of 02 §8's open points among them. Assumes nothing.
use Prim.Native.Nat.{ℕ}
use mathlib.Core.Path.{◌≡◌, refl}
use mathlib.Core.List.{List, [], ◌∷◌, ◌++◌}
use lib.IntN.{pos}
use lib.Ieee.{binary64, of_int}
use Rattle.digits.specs.Words.{word_bytes}
use Rattle.text.specs.Text.{bytes}
use Rattle.lists.specs.Listing.{as_doubles, printed_from, printed}
use Rattle.lists.specs.Computing.{computing_lists}

-- a channel's field, and the field of a double by its bits
abbrev channel : ℕ → List ℕ
channel c = 1 ∷ 1 ∷ 0 ∷ c ∷ []

abbrev double : ℕ → ℕ → List ℕ
double tag bits = tag ∷ 8 ∷ 0 ∷ word_bytes 8 bits

-- channel 3 to 100 at 800, and a dwell of 250; and the empty list
whole_lists :
    (printed (channel 3 ++ double 2 0x4059_0000_0000_0000 ++ double 4 0x4089_0000_0000_0000 ++ double 5 0x406f_4000_0000_0000)
    ≡ bytes "C REM\nC SPDM3800\nC SPDM3\nC ABS3+100\nT 250\n250\n")
    × (printed [] ≡ bytes "C REM\n0\n")
unfolding computing_lists
whole_lists = (refl, refl)

-- a dwell of 3 and then: a move that ends after its target; a stray byte; a target whose speed's field is cut, the target being a NaN
refused_lists :
    (printed (double 5 0x4008_0000_0000_0000 ++ channel 0 ++ double 2 0x401c_0000_0000_0000) ≡ bytes "C REM\nT 3\n21 26\n")
    × (printed (double 5 0x4008_0000_0000_0000 ++ (5 ∷ [])) ≡ bytes "C REM\nT 3\n20 11\n")
    × (printed (channel 0 ++ double 2 0x7ff8_0000_0000_0000 ++ (4 ∷ 8 ∷ 0 ∷ 0 ∷ [])) ≡ bytes "C REM\n24 4\n")
unfolding computing_lists
refused_lists = (refl, refl, refl)

-- where two steps more may come, moves and dwells count alike: a dwell and a move, and one dwell too many, or the end
one_too_many :
    (printed_from as_doubles 2 (double 5 0x4008_0000_0000_0000 ++ channel 15 ++ double 3 0xbff0_0000_0000_0000 ++ double 4 0x3ff0_0000_0000_0000 ++ double 5 0x4008_0000_0000_0000) (of_int binary64 (pos 0)) 0
    ≡ bytes "T 3\nC SPDMF1\nC SPDMF\nC RELF-1\n26 37\n")
    × (printed_from as_doubles 2 (double 5 0x4008_0000_0000_0000 ++ double 5 0x4008_0000_0000_0000) (of_int binary64 (pos 0)) 0 ≡ bytes "T 3\nT 3\n6\n")
unfolding computing_lists
one_too_many = (refl, refl)
