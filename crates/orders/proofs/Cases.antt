-- What an order says by itself, computed on cases.
use mathlib.Core.Path.{◌≡◌, refl}
use mathlib.Core.List.{[], ◌∷◌, map}
use mathlib.Core.Bool.{true, false}
use Prim.Native.Nat.{ℕ, ◌+◌, ◌-◌}
use Rattle.digits.specs.Places.{origin, cw, ccw}
use Rattle.record.specs.Record.{fresh_motor, with_place, with_wiring}
use Rattle.drive.specs.declared.Course.TheVariants.{Stay, Beyond, To, Along}
use Rattle.line.specs.declared.Written.{Written}
use Rattle.line.specs.declared.Four.{Four}
use Rattle.line.specs.declared.Start.TheVariants.{Abs, Rel, Scan, Jog}
use Rattle.line.specs.declared.Setting.TheVariants.{Preset, SetCwLimit, SetCcwLimit, Select, SetSpeed, SetSwitches, SetMotor}
use Rattle.line.specs.declared.Question.TheVariants.{AskPosition}
use Rattle.line.specs.declared.HeadQuestion.TheVariants.{AskError, AskPause, AskBusy}
use Rattle.line.specs.declared.HeadOrder.TheVariants.{Mode, AllReply, ClearErrors, ClearError, Pause}
use Rattle.line.specs.declared.Order.TheVariants.{Go, Stop, StopAll, ChangeSpeed, Set, Ask, AskHead, ForHead}
use Rattle.orders.specs.Values.{needs_remote, value_in_range}
use Rattle.orders.specs.Settings.{course_of, with_setting}
use Rattle.orders.specs.Computing.{computing_orders}

-- +n, -n and four digits, as they are written
plus : ℕ → Written
plus n = record { minus = false; digits = n }

less : ℕ → Written
less n = record { minus = true; digits = n }

four : ℕ → ℕ → ℕ → ℕ → Four
four a b c d = record { a = a; b = b; c = c; d = d }

-- Starts, SPC, settings, all-reply and pause need remote mode; stops, reads, LOC, REM and the ERR family do not.
modes :
    map needs_remote (Go 0 (Scan cw) ∷ ChangeSpeed 0 1 ∷ Set 0 (Select 2) ∷ ForHead (AllReply 1) ∷ ForHead (Pause 1) ∷ ForHead (Pause 0)
    ∷ Stop 0 0x40 ∷ StopAll 0x80 ∷ Ask 0 AskPosition ∷ ForHead (Mode 0) ∷ ForHead (Mode 1) ∷ AskHead AskError ∷ AskHead AskPause ∷ AskHead AskBusy ∷ ForHead ClearErrors ∷ ForHead (ClearError 3) ∷ [])
    ≡ true ∷ true ∷ true ∷ true ∷ true ∷ true ∷ false ∷ false ∷ false ∷ false ∷ false ∷ false ∷ false ∷ false ∷ false ∷ false ∷ []
unfolding computing_orders
modes = refl

-- The ends of each range, and one past them: a position, a speed, the digits of SETLS and SETMT, and e.
ranges :
    (map (λ w. value_in_range (Go 0 (Rel w))) (plus 2147483647 ∷ less 2147483647 ∷ plus 2147483648 ∷ less 2147483648 ∷ plus 9999999999 ∷ [])
    ≡ true ∷ true ∷ false ∷ false ∷ false ∷ [])
    × (map (λ v. value_in_range (Set 0 (SetSpeed 2 v))) (0 ∷ 1 ∷ 5000000 ∷ 5000001 ∷ 9999999999 ∷ []) ≡ false ∷ true ∷ true ∷ false ∷ false ∷ [])
    × (map (λ v. value_in_range (ChangeSpeed 0 v)) (0 ∷ 1 ∷ 5000000 ∷ 5000001 ∷ []) ≡ false ∷ true ∷ true ∷ false ∷ [])
    × (map (λ q. value_in_range (Set 0 (SetSwitches q (four 0 1 1 1)))) (four 1 1 1 1 ∷ four 2 1 1 1 ∷ four 1 1 1 2 ∷ []) ≡ true ∷ false ∷ false ∷ [])
    × (map (λ q. value_in_range (Set 0 (SetMotor q))) (four 1 1 0 2 ∷ four 2 0 0 0 ∷ four 0 2 0 0 ∷ four 0 0 1 0 ∷ four 0 0 0 3 ∷ []) ≡ true ∷ false ∷ false ∷ false ∷ false ∷ [])
    × (map (λ e. value_in_range (ForHead (ClearError e))) (0 ∷ 3 ∷ 4 ∷ 9 ∷ []) ≡ true ∷ true ∷ false ∷ false ∷ [])
unfolding computing_orders plus less four
ranges = (refl, refl, refl, refl, refl, refl)

-- Where a start of a motor at +5 wants to go. ABS goes to the place named, REL and JOG by a distance; -0 is 0.
courses :
    map (course_of (with_place fresh_motor (origin + 5))) (Abs (plus 8) ∷ Abs (less 8) ∷ Abs (plus 5) ∷ Abs (less 0) ∷ Rel (plus 8) ∷ Rel (less 8) ∷ Rel (less 0)
    ∷ Rel (plus 2147483642) ∷ Rel (plus 2147483643) ∷ Scan ccw ∷ Jog cw ∷ Jog ccw ∷ [])
    ≡ To (origin + 8) ∷ To (origin - 8) ∷ Stay ∷ To origin ∷ To (origin + 13) ∷ To (origin - 3) ∷ Stay
    ∷ To 4294967295 ∷ Beyond ∷ Along ccw ∷ To (origin + 6) ∷ To (origin + 4) ∷ []
unfolding computing_orders plus less
courses = refl

-- Each setting changes its own field; SETLS leaves the contacts, and whether they are read.
settings :
    ((with_setting fresh_motor (Preset (less 7))).place ≡ origin - 7) × ((with_setting fresh_motor (SetCwLimit (plus 9))).limits ≡ record { cw = origin + 9; ccw = origin - 1000000 })
    × ((with_setting fresh_motor (SetCcwLimit (less 9))).limits ≡ record { cw = origin + 1000000; ccw = origin - 9 })
    × ((with_setting fresh_motor (Select 2)).speeds ≡ record { high = 1000; middle = 800; low = 50; selected = 2 })
    × (map (λ k. (with_setting fresh_motor (SetSpeed k 7)).speeds) (0 ∷ 1 ∷ 2 ∷ [])
    ≡ record { high = 1000; middle = 800; low = 7; selected = 1 } ∷ record { high = 1000; middle = 7; low = 50; selected = 1 }
    ∷ record { high = 7; middle = 800; low = 50; selected = 1 } ∷ [])
    × (map (λ w. (with_setting (with_wiring fresh_motor w) (SetSwitches (four 1 1 0 1) (four 0 1 0 1))).wiring)
    (record { setls = 0; contacts = 0; read = 0 } ∷ record { setls = 0; contacts = 6; read = 1 } ∷ [])
    ≡ record { setls = 0xd5; contacts = 0; read = 0 } ∷ record { setls = 0xd5; contacts = 6; read = 1 } ∷ [])
    × ((with_setting fresh_motor (SetMotor (four 1 0 0 2))).setup ≡ record { a = 1; b = 0; c = 0; d = 2 })
unfolding computing_orders plus less four
settings = (refl, refl, refl, refl, refl, refl, refl)
