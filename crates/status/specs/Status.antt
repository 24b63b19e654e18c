-- Document 01, "Numbers handed back": a position as it is answered, and the status of a channel.
use Prim.Native.Char.{code}
use Rattle.std.specs.Prelude.{ℕ, ◌+◌, List, ◌∷◌, ◌++◌, Bool, ◌&&◌, not, cond, eqb}
use Rattle.digits.specs.Places.{cw}
use Rattle.text.specs.Text.{signed_decimal, hex_digit, hex_byte}
use Rattle.record.specs.declared.Wiring.{Wiring}
use Rattle.record.specs.declared.Motor.{Motor}
use Rattle.motor.specs.Switches.{unread, active}
use Rattle.motor.specs.Sound.{busy, moving}

-- "positions and limits, a sign (+ for 0) and at least 7 digits"
abbrev pub position_text : ℕ → List ℕ
position_text p = signed_decimal 7 p

-- n where a test holds, else 0
abbrev pub flag_if : Bool → ℕ → ℕ
flag_if test n = cond test n 0

-- "V: bit 0 CW, 1 CCW, 2 HP active (enabled or not)". 02 §2: "V shows its switch bits as 0 while unknown."
unfoldable pub switch_bits : Wiring → ℕ
switch_bits w = cond (unread w) 0 (flag_if (active 0 w) 1 + flag_if (active 1 w) 2 + flag_if (active 2 w) 4)

-- V: these, and "bit 3 set when stopped with B = 0"; 02 §3: held, "V's bit 3 clear"
unfoldable pub status_v : Motor → ℕ
status_v m = switch_bits m.wiring + flag_if (not (busy m) && eqb m.setup.b 0) 8

-- "HH: the end flags, or 03 while driving (000)"; 02 §3: of a held drive "HH 01"
unfoldable pub status_hh : Motor → ℕ
status_hh m = cond (moving m) 3 (cond (busy m) 1 m.ended)

-- "R or L": R is remote mode, L local
unfoldable pub mode_letter : ℕ → ℕ
mode_letter k = cond (eqb k 0) (code "L") (code "R")

-- "P, N or S": moving CW, moving CCW, not moving; 02 §3: held, "STS shows S"
unfoldable pub going_letter : Motor → ℕ
going_letter m = cond (moving m) (cond (eqb m.drive.going cw) (code "P") (code "N")) (code "S")

-- "`STSx?`: R or L; x; P, N or S; one hex digit V; two hex digits HH; position."
unfoldable pub status_text : ℕ → ℕ → Motor → List ℕ
status_text k x m =
    mode_letter k ∷ hex_digit x ∷ going_letter m ∷ hex_digit (status_v m)
    ∷ (hex_byte (status_hh m) ++ position_text m.place)
