-- What a status is written from, what it shows of switches that were not read, and how long a position is. Assumes nothing.
use mathlib.Core.Path.{◌≡◌}
use mathlib.Core.List.{List, [], ◌∷◌, append-nil}
use mathlib.Core.Bool.{true, ◌&&◌, not}
use Prim.Native.Nat.{ℕ, ◌≤◌}
use native.Mathlib.Omega.{arith}
use lib.ListN.{length, length-append}
use lib.Dec.{eqb}
use Rattle.text.specs.Text.{hex_digit, hex_byte}
use Rattle.digits.specs.Bytes.{put, joined}
use Rattle.digits.proofs.PutLaws.{lay_put}
use Rattle.text.proofs.TextLaws.{signed_within}
use Rattle.record.specs.declared.Motor.{Motor}
use Rattle.motor.specs.Switches.{unread}
use Rattle.motor.specs.Sound.{busy}
use Rattle.status.specs.Status.{position_text, flag_if, switch_bits, status_v, status_hh, mode_letter, going_letter, status_text}

-- A position takes at most a sign and ten digits.
pub position_within : (p : ℕ) → length (position_text p) ≤ 11
position_within p = signed_within 7 p (omega arith)

-- The letters, the flags and the position, written one after the other, are the status.
pub status_put : (t : List ℕ) (k x : ℕ) (m : Motor) → 32 ≤ length t
    → put (put (put t 0 (mode_letter k ∷ hex_digit x ∷ going_letter m ∷ [])) 3 (hex_digit (status_v m) ∷ hex_byte (status_hh m))) 6
    (position_text m.place)
    ≡ put t 0 (status_text k x m)
unfolding status_text hex_byte joined
status_put t k x m h =
    let letters = mode_letter k ∷ hex_digit x ∷ going_letter m ∷ [] in
    let flags = hex_digit (status_v m) ∷ hex_byte (status_hh m) in
    rw append-nil at
    (lay_put (letters ∷ flags ∷ position_text m.place ∷ []) t 0
    (omega (arith, length-append (position_text m.place) [], position_within m.place)))

-- 02 §2: "V shows its switch bits as 0 while unknown", of every motor: only bit 3 is left.
pub unread_hidden : (m : Motor) → unread m.wiring ≡ true → status_v m ≡ flag_if (not (busy m) && eqb m.setup.b 0) 8
unfolding status_v switch_bits
unread_hidden m u = rw (u) (omega arith)
