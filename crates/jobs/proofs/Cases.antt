-- What a line of a script asks for, and the texts, computed on cases.
use Prim.Native.Nat.{◌+◌, ◌-◌, ◌*◌}
use mathlib.Core.Path.{◌≡◌, refl}
use mathlib.Core.List.{[], ◌∷◌, ◌++◌, map}
use mathlib.Core.Bool.{true, false}
use Rattle.std.proofs.Common.{Some, None}
use lib.ListN.{replicate}
use Rattle.digits.specs.Places.{origin}
use Rattle.text.specs.Text.{bytes}
use Rattle.jobs.specs.declared.Job.TheVariants.{Send, Touch, Wait, FourMotors}
use Rattle.jobs.specs.Jobs.{lines_of, job_of}
use Rattle.jobs.specs.Texts.{command_text, nets_after, waited_text}
use Rattle.jobs.specs.Holding.{kept}
use Rattle.jobs.specs.Computing.{computing_jobs}

-- lines, and what each asks for
jobs :
    (map (job_of false) (lines_of (bytes "C REM\nC \nS F 7\nT 1\nT 10000"))
    ≡ Some Send ∷ Some Send ∷ Some (Touch 15 7) ∷ Some (Wait 1) ∷ Some (Wait 10000) ∷ [])
    × (map (λ l. job_of false (bytes l))
    ("" ∷ "C" ∷ " C REM" ∷ "c REM" ∷ "C\tREM" ∷ "S" ∷ "S 0" ∷ "S 0 8" ∷ "S G 1" ∷ "S 0 1 " ∷ "S 0  1" ∷ "T" ∷ "T 0" ∷ "T 01" ∷ "T +1" ∷ "T 10001" ∷ "T 1 " ∷ "T 100000" ∷ "X 1" ∷ [])
    ≡ replicate 19 None)
unfolding computing_jobs
jobs = (refl, refl)

-- 02 §7: exactly `K 1`, and as the first line alone
cards :
    (map (λ l. job_of true (bytes l)) ("K 1" ∷ "K 0" ∷ "K 2" ∷ "K 01" ∷ "K 1 " ∷ "K 1\r" ∷ "K" ∷ "K " ∷ "K1" ∷ "k 1" ∷ "K 11" ∷ " K 1" ∷ "C REM" ∷ [])
    ≡ Some FourMotors ∷ replicate 11 None ++ (Some Send ∷ [])) × (job_of false (bytes "K 1") ≡ None)
unfolding computing_jobs
cards = (refl, refl)

-- a command without a reply, and with one of three bytes: bytes past the reply are not printed
command_texts :
    (command_text 0 (replicate 32 0) ≡ bytes "0 -") × (command_text 4 (bytes "old") ≡ bytes "4 -")
    × (command_text (3 * 256) (bytes "EN1 ") ≡ bytes "0 EN1")
unfolding computing_jobs
command_texts = (refl, refl, refl)

-- counts of +2 and -7 for nets of 0 and +5, and a channel's net of 0, which is not printed
nets :
    (nets_after (origin ∷ (origin + 5) ∷ []) (2 ∷ 0 ∷ 0 ∷ 0 ∷ 249 ∷ 255 ∷ 255 ∷ 255 ∷ []) ≡ (origin + 2) ∷ (origin - 2) ∷ [])
    × (waited_text 0 (replicate 16 origin) ≡ bytes "0")
    × (waited_text 0 (((origin - 3) ∷ replicate 14 origin) ++ ((origin + 12) ∷ [])) ≡ bytes "0 0:-3 F:+12")
    × (waited_text 6 (origin ∷ (origin + 1) ∷ replicate 14 origin) ≡ bytes "6 1:+1")
unfolding computing_jobs
nets = (refl, refl, refl, refl)

-- The 96th byte of a line is held, and the 97th is not.
held :
    (kept (replicate 95 65) 66 ≡ replicate 95 65 ++ (66 ∷ [])) × (kept (replicate 96 65) 66 ≡ replicate 96 65)
unfolding computing_jobs
held = (refl, refl)
