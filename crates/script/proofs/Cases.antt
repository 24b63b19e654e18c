-- Scripts computed on cases.
use Prim.Native.Char.{code}
use mathlib.Core.Path.{◌≡◌, refl}
use mathlib.Core.List.{[]}
use mathlib.Core.Bool.{false}
use Rattle.text.specs.Text.{bytes}
use Rattle.script.specs.Output.{bench}
use Rattle.script.specs.Stream.{byte_read, end_read}
use Rattle.script.specs.Computing.{computing_script}

-- A byte of a line prints nothing; a line feed prints the line and its own, and the next line starts empty. So does the end, of
-- a line that has a byte.
steps :
    ((byte_read false [] (bytes "C RE") (code "M")).held ≡ bytes "C REM") × ((byte_read false [] (bytes "C RE") (code "M")).text ≡ [])
    × ((byte_read false [] (bytes "X") (code "\n")).held ≡ []) × ((byte_read false [] (bytes "X") (code "\n")).text ≡ bytes "?\n")
    × (end_read false [] [] ≡ []) × (end_read false [] (bytes "X") ≡ bytes "?\n")
unfolding computing_script
steps = (refl, refl, refl, refl, refl, refl)

-- Document 01's worked example, "The whole output", with the `S` line that 02 §2 puts first.
worked_example :
    bench (bytes "S 0 0\nC REM\nC REL0+3\nT 3\nC STS0?\nT 1\nC PS?0\n")
    ≡ bytes "0\n0 -\n0 -\n0 0:+2\n0 R0P003+0000002\n0 0:+1\n0 +0000003\n"
unfolding computing_script
worked_example = refl

-- an empty input, a line that is none, the empty command line, a CR, and a last line without a line feed
odd_lines : (bench [] ≡ []) × (bench (bytes "\nC \nC REM\r\nT 0\nC LOC") ≡ bytes "?\n1 -\n1 -\n?\n0 -\n")
unfolding computing_script
odd_lines = (refl, refl)

-- 02 §7: the first line alone asks for the four-motor card; a first line that prints `?` is the first line, and a last one without a line
-- feed counts
first_lines :
    (bench (bytes "K 1\nC STQ?\nK 1\n") ≡ bytes "0\n0 L4\n?\n") × (bench (bytes "K 0\nK 1\nC STQ?\n") ≡ bytes "?\n?\n1 -\n")
    × (bench (bytes "\nK 1\nC STQ?") ≡ bytes "?\n?\n1 -\n") × (bench (bytes "K 1") ≡ bytes "0\n")
unfolding computing_script
first_lines = (refl, refl, refl, refl)
