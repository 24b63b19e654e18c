-- The checked list: document 01's worked example and its ten marked cases, each from the bytes that a fresh call makes, "each
-- from fresh and REM unless said". 02 §2: "The bench cases gain an `S` line for their channel first." 02 §5: "Every place in 01 that names
-- 4 reads as the split numbers", which stand in brackets. One statement, and its proof is one computation (`all_checked` of Steps).
use mathlib.Core.Path.{◌≡◌, refl}
use mathlib.Core.List.{List, [], ◌∷◌, map}
use Rattle.urqolina.specs.Computing.{computing_urqolina}
use Rattle.digits.specs.Places.{cw}
use Rattle.laws.specs.Sequences as Q
use Rattle.cases.proofs.Steps.{Step, says, reads, ticks, holds, fresh, after, seen_by, seen, stated, all_checked}

pub cases : List (List Step)
cases =
    -- the worked example: S 0 0 / C REM / C REL0+3 / T 3 / C STS0? / T 1 / C PS?0
    (reads 0 0 0 ∷ says "REM" 0 "" ∷ says "REL0+3" 0 "" ∷ ticks 0 cw 0 ∷ ticks 0 cw 1 ∷ ticks 0 cw 1 ∷ says "STS0?" 0 "R0P003+0000002" ∷ ticks 0 cw 1
    ∷ says "PS?0" 0 "+0000003" ∷ [])
    -- 1. SCANP0: five ticks give 0, 1, 1, 1, 1.
    ∷ (reads 0 0 0 ∷ says "REM" 0 "" ∷ says "SCANP0" 0 "" ∷ ticks 0 cw 0 ∷ ticks 0 cw 1 ∷ ticks 0 cw 1 ∷ ticks 0 cw 1 ∷ ticks 0 cw 1 ∷ [])
    -- 2. SCANP0, two ticks, SPC0400, one tick: 0, 1, 1; fraction 0.
    ∷ (reads 0 0 0 ∷ says "REM" 0 "" ∷ says "SCANP0" 0 "" ∷ ticks 0 cw 0 ∷ ticks 0 cw 1 ∷ says "SPC0400" 0 "" ∷ ticks 0 cw 1 ∷ holds 98 (0 ∷ 0 ∷ [])
    ∷ [])
    -- 3. SPDM05000000, ABS0+1: one tick, one pulse, stopped.
    ∷ (reads 0 0 0 ∷ says "REM" 0 "" ∷ says "SPDM05000000" 0 "" ∷ says "ABS0+1" 0 "" ∷ ticks 0 cw 1 ∷ holds 96 (0 ∷ []) ∷ [])
    -- 4. FL0+3, SETLS011110000, SCANP0: four ticks, then STS0? is R0S020+0000003; SCANP0 gives 4 (11), SCANN0 gives 0.
    ∷ (reads 0 0 0 ∷ says "REM" 0 "" ∷ says "FL0+3" 0 "" ∷ says "SETLS011110000" 0 "" ∷ says "SCANP0" 0 "" ∷ ticks 0 cw 0 ∷ ticks 0 cw 1 ∷ ticks 0 cw 1
    ∷ ticks 0 cw 1 ∷ says "STS0?" 0 "R0S020+0000003" ∷ says "SCANP0" 11 "" ∷ says "SCANN0" 0 "" ∷ [])
    -- 5. As 4 but ABS0+3: STS0? is R0S000+0000003.
    ∷ (reads 0 0 0 ∷ says "REM" 0 "" ∷ says "FL0+3" 0 "" ∷ says "SETLS011110000" 0 "" ∷ says "ABS0+3" 0 "" ∷ ticks 0 cw 0 ∷ ticks 0 cw 1 ∷ ticks 0 cw 1
    ∷ ticks 0 cw 1 ∷ says "STS0?" 0 "R0S000+0000003" ∷ says "SCANP0" 11 "" ∷ says "SCANN0" 0 "" ∷ [])
    -- 6. SETLS001110001: V is 1, SCANP0 gives 4 (10).
    ∷ (reads 0 0 0 ∷ says "REM" 0 "" ∷ says "SETLS001110001" 0 "" ∷ says "STS0?" 0 "R0S100+0000000" ∷ says "SCANP0" 10 "" ∷ [])
    -- 7. PS0+2147483647, then REL0+1 gives 3, SCANP0 gives 4 (12).
    ∷ (reads 0 0 0 ∷ says "REM" 0 "" ∷ says "PS0+2147483647" 0 "" ∷ says "REL0+1" 3 "" ∷ says "SCANP0" 12 "" ∷ [])
    -- 8. PS0-2147483648 gives 3; PS0+12345678901 gives 1.
    ∷ (reads 0 0 0 ∷ says "REM" 0 "" ∷ says "PS0-2147483648" 3 "" ∷ says "PS0+12345678901" 1 "" ∷ [])
    -- 9. Fresh, no REM: SCANP0 gives 4 (7), ERRF? is 08.
    ∷ (reads 0 0 0 ∷ says "SCANP0" 7 "" ∷ says "ERRF?" 0 "08" ∷ [])
    -- 10. ABSB+5 drives channel B; ABSBB+5 gives 1.
    ∷ (reads 11 0 0 ∷ says "REM" 0 "" ∷ says "ABSB+5" 0 "" ∷ ticks 11 cw 0 ∷ ticks 11 cw 1 ∷ says "STSB?" 0 "RBP003+0000001" ∷ says "ABSBB+5" 1 ""
    ∷ [])
    ∷ []

marked : map seen cases ≡ map (λ c. map stated c) cases
unfolding computing_urqolina cases fresh Q.after after seen_by stated
marked = all_checked cases refl
