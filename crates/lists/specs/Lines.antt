-- 02 §8: "Output is a bench script, its S lines left to the user: C REM first, then SPDM with the speed, the select, the move; T for a
-- dwell. The last line printed is the dwell total .. At a refusal .. number and offset replace the total."
use Prim.Native.Char.{code}
use Rattle.std.specs.Prelude.{ℕ, List, [], ◌∷◌, ◌++◌, Bool, cond}
use Rattle.text.specs.Text.{bytes, hex_digit}
use Rattle.jobs.specs.Texts.{plain_text, signed_text}
use Rattle.steps.specs.declared.Move.{Move}

-- a text as a line
abbrev pub lined : List ℕ → List ℕ
lined s = s ++ bytes "\n"

-- "C REM first"
abbrev pub opening_text : List ℕ
opening_text = lined (bytes "C REM")

-- a word, and the channel that it is of
abbrev pub head_text : List ℕ → ℕ → List ℕ
head_text word c = word ++ (hex_digit c ∷ [])

-- "SPDM with the speed": "SPDMx .. the same with d set"; "decimal without leading zeros"
unfoldable pub setting_text : Move → List ℕ
setting_text m = lined (bytes "C SPDM" ++ (hex_digit m.channel ∷ plain_text m.speed))

-- "the select": "SPDMx .. select"
unfoldable pub select_text : Move → List ℕ
select_text m = lined (bytes "C SPDM" ++ (hex_digit m.channel ∷ []))

-- "the move": `ABSx±d`, and `RELx±d` for a distance
abbrev pub start_word : Bool → List ℕ
start_word relative = cond relative (bytes "C REL") (bytes "C ABS")

-- "signed ones carry a sign, + for 0"
unfoldable pub going_text : Move → List ℕ
going_text m = lined (start_word m.relative ++ (hex_digit m.channel ∷ signed_text m.place))

-- "SPDM with the speed, the select, the move"
unfoldable pub move_text : Move → List ℕ
move_text m = setting_text m ++ select_text m ++ going_text m

-- "T for a dwell"
unfoldable pub wait_text : ℕ → List ℕ
wait_text n = lined (bytes "T " ++ plain_text n)

-- "The last line printed is the dwell total"
unfoldable pub total_text : ℕ → List ℕ
total_text n = lined (plain_text n)

-- "number and offset replace the total"; "two on a line stand one space apart"
unfoldable pub fault_text : ℕ → ℕ → List ℕ
fault_text number offset = lined (plain_text number ++ (code " " ∷ plain_text offset))
