-- bench as it reads: a byte at a time, so that a line may be of any length. Only the front of a line is held, since a line that
-- is longer asks for nothing, or for a command line that is too long either way. The law in proofs/Streaming.antt says that what
-- is printed so is what bench prints.
use Prim.Native.Char.{code}
use Rattle.std.specs.Prelude.{ℕ, ◌≡◌, List, [], ◌∷◌, ◌++◌, Bool, false, cond, eqb}
use Rattle.text.specs.Text.{Wrote}
use Rattle.jobs.specs.Holding.{kept}
use Rattle.running.specs.Running.{line_done}

-- what a byte of the input leaves and prints
pub record Stepped : Type 0 where
  -- no line has ended yet
  pub first : Bool
  pub table : List ℕ
  pub held : List ℕ
  pub text : List ℕ

-- It is left and printed: the table after, what is held and whether the line is the first are s's, and its text stands at the front of the
-- buffer, r bytes long.
pub record Takes (s : Stepped) (opening : Bool) (after kept out₀ out : List ℕ) (r : ℕ) : Type 0 where
  pub first : opening ≡ s.first
  pub table : after ≡ s.table
  pub held : kept ≡ s.held
  pub text : Wrote out₀ out s.text r

-- a line feed ends the line, and nothing is held of the next one yet; any other byte is one more of the line
unfoldable pub byte_read : Bool → List ℕ → List ℕ → ℕ → Stepped
byte_read first t held b =
    let r = line_done first t held in
    cond (eqb b (code "\n"))
    (record { first = false; table = r.table; held = []; text = r.text })
    (record { first = first; table = t; held = kept held b; text = [] })

-- the end of the input ends a line that has a byte
unfoldable pub end_read : Bool → List ℕ → List ℕ → List ℕ
end_read first t [] = []
end_read first t (b ∷ s) = (line_done first t (b ∷ s)).text

-- all that is printed from a table, what is held and what is still to be read, in the first line or a later one
unfoldable pub streamed : Bool → List ℕ → List ℕ → List ℕ → List ℕ
streamed first t held [] = end_read first t held
streamed first t held (b ∷ s) =
    let r = byte_read first t held b in
    r.text ++ streamed r.first r.table r.held s

-- Some bytes are read: whatever follows them, all that is printed is what is written by now, and then what is printed from here
-- for the bytes that are left.
abbrev pub Prints : (first : Bool) (t held bytes written : List ℕ) (first₁ : Bool) (t₁ held₁ left : List ℕ) → Type 0
Prints first t held bytes written first₁ t₁ held₁ left =
    (rest : List ℕ) → streamed first t held (bytes ++ rest) ≡ written ++ streamed first₁ t₁ held₁ (left ++ rest)
