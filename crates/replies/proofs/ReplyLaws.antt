-- How long a reply is. Assumes nothing.
use mathlib.Core.Path.{◌≡◌, refl, sym}
use mathlib.Core.List.{List, []}
use mathlib.Core.Bool.{Bool, true, false, ◌||◌, cond}
use Prim.Native.Nat.{ℕ, ◌≤◌}
use native.Mathlib.Omega.{arith}
use lib.ListN.{length}
use lib.Dec.{eqb}
use borrow.Author.Tests.{leb-true, eqb-true}
use Rattle.digits.specs.Words.{is_set}
use Rattle.text.specs.Text.{Wrote, bytes, hex_byte, hex_word}
use Rattle.digits.proofs.PutLaws.{put_none}
use Rattle.text.proofs.TextLaws.{decimal_within}
use Rattle.record.specs.declared.Motor.{Motor}
use Rattle.record.specs.declared.Setup.{Setup}
use Rattle.motor.specs.Sound.{setup_in_range}
use Rattle.motor.proofs.SoundLaws.{and_l, and_r}
use Rattle.drive.specs.Numbers.{Verdict}
use Rattle.drive.specs.Numbers.{number_of}
use Rattle.drive.specs.Drives.{speed_numbered}
use Rattle.table.specs.declared.head.Head.{Head}
use Rattle.line.specs.declared.Question.{Question}
use Rattle.line.specs.declared.Question.TheVariants.{AskPosition, AskCwLimit, AskCcwLimit, AskSelected, AskSpeed, AskSwitches, AskMotor, AskStatus}
use Rattle.line.specs.declared.HeadQuestion.{HeadQuestion}
use Rattle.line.specs.declared.HeadQuestion.TheVariants.{AskAllReply, AskFlags, AskError, AskPause, AskBusy, AskFree}
use Rattle.status.proofs.StatusLaws.{position_within}
use Rattle.replies.specs.Replies.{text_of, selected_text, switches_text, motor_text, question_text, error_text, echo, all_reply_text, pause_text, free_text, head_text}
use Rattle.status.specs.Status.{status_text}

-- Nothing written leaves the buffer as it was.
pub wrote_none : (t : List ℕ) → Wrote t t [] 0
wrote_none t = record { count = refl; buffer = sym (put_none t 0) }

-- SETMT digits in range are small numbers.
pub setup_small : (s : Setup) → setup_in_range s ≡ true → (s.a ≤ 1) × (s.b ≤ 1) × (s.c ≡ 0) × (s.d ≤ 2)
unfolding setup_in_range
setup_small s e = search (and_l, and_r, leb-true, eqb-true)

-- one of two texts that are short enough
choice_within : (t : Bool) (a b : List ℕ) → length a ≤ 17 → length b ≤ 17 → length (cond t a b) ≤ 17
choice_within true a b f g = f
choice_within false a b f g = g

-- No reply is longer than 17 bytes: the status of a motor at an end of the range is that long.
text_within : (n : ℕ) → length (text_of n) ≤ 17
unfolding text_of bytes
text_within n =
    choice_within (eqb n 0) _ _ (omega arith)
    (choice_within (eqb n 1) _ _ (omega arith)
    (choice_within (eqb n 2) _ _ (omega arith)
    (choice_within (eqb n 3) _ _ (omega arith)
    (choice_within (eqb n 5 || eqb n 6) _ _ (omega arith) (omega arith)))))

pub echo_within : (all : ℕ) (v : Verdict) → length (echo all v) ≤ 17
unfolding echo
echo_within all v = choice_within (eqb all 1) (text_of (number_of v)) [] (text_within (number_of v)) (omega arith)

error_within : (e : ℕ) → length (error_text e) ≤ 17
unfolding error_text bytes
error_within e =
    choice_within (is_set 0 e) _ _ (omega arith)
    (choice_within (is_set 1 e) _ _ (omega arith)
    (choice_within (is_set 2 e) _ _ (omega arith)
    (choice_within (is_set 3 e) _ _ (omega arith) (omega arith))))

pub head_within : (h : Head) (q : HeadQuestion) → length (head_text h q) ≤ 17
unfolding head_text all_reply_text pause_text free_text bytes hex_byte hex_word
head_within h AskAllReply = choice_within (eqb h.reply 1) _ _ (omega arith) (omega arith)
head_within h AskFlags = omega arith
head_within h AskError = error_within h.errors
head_within h AskPause = choice_within (eqb h.pause 1) _ _ (omega arith) (omega arith)
head_within h AskBusy = omega arith
head_within h AskFree = omega arith

status_within : (k x : ℕ) (m : Motor) → length (status_text k x m) ≤ 17
unfolding status_text hex_byte
status_within k x m = omega (arith, position_within m.place)

pub question_within : (k x : ℕ) (m : Motor) (q : Question) → length (question_text k x m q) ≤ 17
unfolding question_text selected_text bytes switches_text motor_text
question_within k x m AskPosition = omega (arith, position_within m.place)
question_within k x m AskCwLimit = omega (arith, position_within m.limits.cw)
question_within k x m AskCcwLimit = omega (arith, position_within m.limits.ccw)
question_within k x m AskSelected =
    choice_within (eqb m.speeds.selected 0) _ _ (omega arith)
    (choice_within (eqb m.speeds.selected 1) _ _ (omega arith) (omega arith))
question_within k x m (AskSpeed n) = omega (arith, decimal_within 6 (speed_numbered n m.speeds) (omega arith))
question_within k x m AskSwitches = omega arith
question_within k x m AskMotor = omega arith
question_within k x m AskStatus = status_within k x m

-- So what is written has the length that its writer promises.
pub short : {s t b : List ℕ} {r : ℕ} → length b ≤ 17 → Wrote s t b r → record { wrote : Wrote s t b r; upper_bound : r ≤ 32 }
short h w = record { wrote = w; upper_bound = omega (arith, w.count) }
