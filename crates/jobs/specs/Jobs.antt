-- Document 01, "Bench cases": *bench* "reads standard input: `C line`, `S x n` (x as above, contacts 0..7), `T n` (1..10000
-- ticks, no leading zeros)"; 02 §7: "*bench* makes the sixteen card, or the four if its first line is `K 1`".
use Prim.Native.Char.{code}
use Rattle.std.specs.Prelude.{ℕ, List, [], ◌∷◌, Bool, ◌&&◌, not, cond, Option, Some, None, length, get_or, eqb, leb}
use Rattle.text.specs.Text.{is_digit, digit_value, is_hex, hex_value, digits_at_front, value_of}
use Rattle.jobs.specs.declared.Job.{Job}
use Rattle.jobs.specs.declared.Job.TheVariants.{Send, Touch, Wait, FourMotors}

-- a byte in front of the first of some lines
abbrev pub joined : ℕ → List (List ℕ) → List (List ℕ)
joined b [] = (b ∷ []) ∷ []
joined b (l ∷ ls) = (b ∷ l) ∷ ls

-- "reads standard input": its lines, each ended by a line feed. A last line without one counts if it has a byte, and an
-- empty input has no line.
unfoldable pub lines_of : List ℕ → List (List ℕ)
lines_of [] = []
lines_of (b ∷ s) = cond (eqb b (code "\n")) ([] ∷ lines_of s) (joined b (lines_of s))

-- a job if a test holds; else it is "any other line", which asks for none
abbrev pub job_if : Bool → Option Job → Option Job
job_if test j = cond test j None

-- "contacts 0..7": a byte is the digit of some
abbrev pub is_contacts : ℕ → Bool
is_contacts b = is_digit b && leb (digit_value b) 7

-- "`S x n` (x as above, contacts 0..7)": after `S ` come x, a blank, and one digit
unfoldable pub touch_of : List ℕ → Option Job
touch_of s =
    job_if (eqb (length s) 3 && is_hex (get_or s 0 0) && eqb (get_or s 1 0) (code " ") && is_contacts (get_or s 2 0))
    (Some (Touch (hex_value (get_or s 0 0)) (digit_value (get_or s 2 0))))

-- "1..10000 ticks, no leading zeros": a number is one of ticks, by the byte that it starts with and what it is worth
abbrev pub is_ticks : ℕ → ℕ → Bool
is_ticks first n = not (eqb first (code "0")) && leb n 10000

-- "`T n` (1..10000 ticks, no leading zeros)": after `T ` come digits and nothing else
unfoldable pub wait_of : List ℕ → Option Job
wait_of s =
    job_if (leb 1 (length s) && leb (length s) 5 && eqb (digits_at_front s) (length s) && is_ticks (get_or s 0 0) (value_of s))
    (Some (Wait (value_of s)))

-- 02 §7: "the four if its first line is `K 1`": after `K ` comes 1 and nothing else, and the line is the first one
unfoldable pub card_of : Bool → List ℕ → Option Job
card_of first s = job_if (eqb (length s) 1 && first && eqb (get_or s 0 0) (code "1")) (Some FourMotors)

-- "`C line`, `S x n`, `T n`", and 02 §7 "`K 1`": by the letter, with what comes after it and its blank
unfoldable pub lettered : Bool → ℕ → List ℕ → Option Job
lettered first k s =
    cond (eqb k (code "C")) (Some Send)
    (cond (eqb k (code "S")) (touch_of s)
    (cond (eqb k (code "T")) (wait_of s)
    (cond (eqb k (code "K")) (card_of first s)
    None)))

-- what a line asks for, which is the first one or not
unfoldable pub job_of : Bool → List ℕ → Option Job
job_of first [] = None
job_of first (k ∷ []) = None
job_of first (k ∷ b ∷ s) = job_if (eqb b (code " ")) (lettered first k s)
