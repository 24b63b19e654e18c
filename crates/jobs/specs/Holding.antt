-- What is held of a line of a script while it is read.
use Rattle.std.specs.Prelude.{ℕ, List, [], ◌∷◌, ◌++◌, cond, length, take, ltb}

-- how many bytes of a line are held: enough for `C ` and a command line of over 80 bytes
abbrev pub held_size : ℕ
held_size = 96

-- what is held of a line
abbrev pub held_of : List ℕ → List ℕ
held_of line = take held_size line

-- what is held with one more byte of the line: a byte past those that are held is left out
unfoldable pub kept : List ℕ → ℕ → List ℕ
kept held b = cond (ltb (length held) held_size) (held ++ (b ∷ [])) held
