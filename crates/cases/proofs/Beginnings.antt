-- How the sequences of the cases begin, and what they are made of, said once. Assumes nothing.
use Prim.Native.Nat.{ℕ}
use Prim.Native.String as S
use mathlib.Core.Path.{refl}
use mathlib.Core.List.{List, [], ◌∷◌}
use mathlib.Core.Bool.{true, false}
use native.Mathlib.Omega.{arith}
use lib.ListN.{replicate}
use Rattle.text.specs.Text.{bytes}
use Rattle.laws.specs.Sequences.{Call, command, reading, tick, Beginning}
use Rattle.drive.specs.declared.Course.TheVariants.{To, Along}
use Rattle.laws.specs.Ledger.{Account}

-- The bytes that a fresh call is made on, and calls with what they are lent: full of AAh, so that a byte left alone shows.
abbrev pub lent : Beginning
lent = record { bytes = replicate 1088 0xaa; whole = refl; card = 0; known = omega arith }

-- the same of the four-motor card
abbrev pub lent_four : Beginning
lent_four = record { bytes = replicate 1088 0xaa; whole = refl; card = 1; known = omega arith }

abbrev pub says : S.String → Call
says s = command (bytes s) (replicate 32 0xaa)

abbrev pub ticked : Call
ticked = tick (replicate 64 0xaa)

-- what comes before the first start of channel 0: its switches are read, all open, and the mode is remote
abbrev pub ready : List Call
ready = reading 0 0 ∷ says "REM" ∷ []

-- the account of a scan that lasts, and of one that is over: its direction, its speed, S and P
abbrev pub running : ℕ → ℕ → ℕ → ℕ → Account
running going speed sum pulses =
    record { lasts = true; counting = true; paused = false; going = going; aim = Along going; speed = speed; sum = sum; pulses = pulses }

abbrev pub ended : Account → Account
ended a =
    record { lasts = false; counting = a.counting; paused = a.paused; going = a.going; aim = a.aim; speed = a.speed; sum = a.sum; pulses = a.pulses }

abbrev pub over : ℕ → ℕ → ℕ → ℕ → Account
over going speed sum pulses = ended (running going speed sum pulses)

-- the same of a drive to a place
abbrev pub aimed_at : ℕ → Account → Account
aimed_at p a =
    record { lasts = a.lasts; counting = a.counting; paused = a.paused; going = a.going; aim = To p; speed = a.speed; sum = a.sum; pulses = a.pulses }

-- the same while pause is on, and of a scan that is held: its direction and its coming speed
abbrev pub under_pause : Account → Account
under_pause a =
    record { lasts = a.lasts; counting = a.counting; paused = true; going = a.going; aim = a.aim; speed = a.speed; sum = a.sum; pulses = a.pulses }

abbrev pub waiting : ℕ → ℕ → Account
waiting going speed =
    record { lasts = true; counting = false; paused = true; going = going; aim = Along going; speed = speed; sum = 0; pulses = 0 }
