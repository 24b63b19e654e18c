-- Lines computed on cases.
use mathlib.Core.Path.{◌≡◌, refl}
use mathlib.Core.List.{[]}
use mathlib.Core.Bool.{true, false}
use Rattle.text.specs.Text.{bytes}
use Rattle.table.specs.Layout.{fresh_table}
use Rattle.running.specs.Running.{line_done}
use Rattle.running.specs.Computing.{computing_running}

-- On a fresh table: a command without a reply and one with its reply, a switch reading, ticks in which nothing drives, and a line
-- that is none, which leaves the table.
lines :
    ((line_done false (fresh_table 0) (bytes "C REM")).text ≡ bytes "0 -\n") × ((line_done false (fresh_table 0) (bytes "C PS?0")).text ≡ bytes "0 +0000000\n")
    × ((line_done false (fresh_table 0) (bytes "S 3 7")).text ≡ bytes "0\n") × ((line_done false (fresh_table 0) (bytes "T 2")).text ≡ bytes "0\n")
    × (line_done false (fresh_table 0) (bytes "T x") ≡ record { table = fresh_table 0; text = bytes "?\n" })
unfolding computing_running
lines = (refl, refl, refl, refl, refl)

-- `K 1` as the first line makes the table of the four-motor card anew, and as a later one is none
first_line :
    (line_done true (fresh_table 0) (bytes "K 1") ≡ record { table = fresh_table 1; text = bytes "0\n" })
    × (line_done false (fresh_table 0) (bytes "K 1") ≡ record { table = fresh_table 0; text = bytes "?\n" })
unfolding computing_running
first_line = (refl, refl)

-- on bytes that are no table, the calls' own number
no_table :
    ((line_done false [] (bytes "C REM")).text ≡ bytes "5 -\n") × ((line_done false [] (bytes "S 3 7")).text ≡ bytes "5\n")
    × ((line_done false [] (bytes "T 2")).text ≡ bytes "5\n")
unfolding computing_running
no_table = (refl, refl, refl)
