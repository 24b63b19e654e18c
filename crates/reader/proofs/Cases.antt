-- Words and where they end, computed by the definitions. Each list is one statement, and its proof is the computation.
use Rattle.std.specs.Prelude.{Option, Some, None}
use mathlib.Core.Path.{◌≡◌, refl}
use mathlib.Core.List.{[], ◌∷◌, map}
use Prim.Native.Nat.{ℕ}
use Prim.Native.String as S
use Rattle.text.specs.Text.{bytes}
use Rattle.line.specs.declared.Order.{Order}
use Rattle.line.specs.declared.Order.TheVariants.{Set}
use Rattle.line.specs.declared.Setting.TheVariants.{Select, SetSpeed}
use Rattle.form.specs.Table.{packed}
use Rattle.reader.specs.Finding.{word_at}
use Rattle.reader.proofs.FindingLaws.{ordered}
use Rattle.form.specs.declared.Word.{Word}
use Rattle.reader.specs.Computing.{computing_reader}

-- the place after the word that a quoted line begins with; its front where none does
end_of : Option Word → ℕ
end_of (Some w) = w.end
end_of None = 0

end : S.String → ℕ
end s = end_of (word_at (bytes s) 0)

-- The longest word counts, with its question mark or its blank; a word that is cut short, in small letters or not at the front
-- is none.
words_end :
    map end
    ("PS?0" ∷ "PS0+1" ∷ "SPDM?0" ∷ "SPDM0800" ∷ "SPD?0" ∷ "SETLS?0" ∷ "SETLS" ∷ "ABSA+1" ∷ "SCANPA" ∷ "STS0?" ∷ "ERRC3" ∷ "ERRF?"
    ∷ "ALL_REP EN" ∷ "ALL_REP?" ∷ "ALL_REP" ∷ "SCAN" ∷ "rem" ∷ " REM" ∷ "" ∷ [])
    ≡ 3 ∷ 2 ∷ 5 ∷ 4 ∷ 4 ∷ 6 ∷ 5 ∷ 3 ∷ 5 ∷ 3 ∷ 4 ∷ 5 ∷ 8 ∷ 8 ∷ 0 ∷ 0 ∷ 0 ∷ 0 ∷ 0 ∷ []
unfolding computing_reader end end_of
words_end = refl

-- A word may stand at any place; past the end of the line stands none.
words_at :
    (word_at (bytes "xxREM") 2 ≡ Some (record { letters = packed (bytes "REM"); end = 5 }))
    × (word_at (bytes "REM") 9 ≡ None)
unfolding computing_reader
words_at = (refl, refl)

-- the order that a word makes with the fields after it
after : S.String → Option Order
after s = ordered (bytes s) (word_at (bytes s) 0)

-- A word with two forms takes the one that the line has.
two_forms :
    map after ("SPDMA" ∷ "SPDMA800" ∷ "SPDMA8X" ∷ "SPDM" ∷ [])
    ≡ Some (Set 10 (Select 1)) ∷ Some (Set 10 (SetSpeed 1 800)) ∷ None ∷ None ∷ []
unfolding computing_reader after
two_forms = refl
