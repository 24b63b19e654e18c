-- Document 01, "Bench cases": what *bench* prints, line by line. What one line does and prints is said in the crate running.
use Prim.Native.Char.{code}
use Rattle.std.specs.Prelude.{ℕ, List, [], ◌∷◌, ◌++◌, Bool, true, false, replicate}
use Rattle.table.specs.Layout.{table_size}
use Rattle.urqolina.specs.Calls.{fresh_call}
use Rattle.jobs.specs.Jobs.{lines_of, job_of}
use Rattle.running.specs.Running.{job_done}

-- the lines one after the other, each printed with a line feed; the first of them is the first one of the input, or not
unfoldable pub printed : Bool → List ℕ → List (List ℕ) → List ℕ
printed first t [] = []
printed first t (l ∷ ls) =
    let r = job_done t l (job_of first l) in
    r.text ++ (code "\n" ∷ printed false r.table ls)

-- "*bench* makes one fresh table and reads standard input": what it writes for an input. 02 §7: it "makes the sixteen card, or the four
-- if its first line is `K 1`, which prints 0"
unfoldable pub bench : List ℕ → List ℕ
bench input = printed true (fresh_call (replicate table_size 0) 0).table (lines_of input)
