-- Document 01, "Numbers handed back": what is answered.
use Rattle.std.specs.Prelude.{ℕ, ◌-◌, List, [], ◌∷◌, cond, eqb}
use Rattle.digits.specs.Words.{bit, is_set, bits_set}
use Rattle.text.specs.Text.{bytes, digit_byte, decimal, hex_byte, hex_word}
use Rattle.record.specs.declared.Setup.{Setup}
use Rattle.record.specs.declared.Motor.{Motor}
use Rattle.status.specs.Status.{position_text, mode_letter, status_text}
use Rattle.drive.specs.Numbers.{Verdict}
use Rattle.drive.specs.Numbers.{number_of, is_silent}
use Rattle.drive.specs.Drives.{speed_numbered}
use Rattle.table.specs.declared.head.Head.{Head}
use Rattle.table.specs.Layout.{paused}
use Rattle.line.specs.declared.Question.{Question}
use Rattle.line.specs.declared.Question.TheVariants.{AskPosition, AskCwLimit, AskCcwLimit, AskSelected, AskSpeed, AskSwitches, AskMotor, AskStatus}
use Rattle.line.specs.declared.HeadQuestion.{HeadQuestion}
use Rattle.line.specs.declared.HeadQuestion.TheVariants.{AskAllReply, AskFlags, AskError, AskPause, AskBusy, AskFree}

-- "No. | Text": the text for each number; 5 and 6 have "none". 02 §5: "the text stays NG .., also for later command numbers": NG is the
-- text of every number that is left over
unfoldable pub text_of : ℕ → List ℕ
text_of n =
    cond (eqb n 0) (bytes "OK")
    (cond (eqb n 1) (bytes "COMMAND ERROR")
    (cond (eqb n 2) (bytes "MCC06 BUSY ERROR")
    (cond (eqb n 3) (bytes "PARAMETER ERROR")
    (cond (is_silent n) []
    (bytes "NG")))))

-- "speeds, at least 6"
abbrev pub speed_text : ℕ → List ℕ
speed_text v = decimal 6 v

-- "`SPD?` HSPD, MSPD or LSPD"
unfoldable pub selected_text : ℕ → List ℕ
selected_text k = cond (eqb k 0) (bytes "LSPD") (cond (eqb k 1) (bytes "MSPD") (bytes "HSPD"))

-- `SETLS?`: DYYY0yyy, a digit each (000)
unfoldable pub switches_text : ℕ → List ℕ
switches_text n =
    digit_byte (bit 7 n) ∷ digit_byte (bit 6 n) ∷ digit_byte (bit 5 n) ∷ digit_byte (bit 4 n)
    ∷ digit_byte (bit 3 n) ∷ digit_byte (bit 2 n) ∷ digit_byte (bit 1 n) ∷ digit_byte (bit 0 n) ∷ []

-- `SETMT?`: ABCD, a digit each (000)
unfoldable pub motor_text : Setup → List ℕ
motor_text s = digit_byte s.a ∷ digit_byte s.b ∷ digit_byte s.c ∷ digit_byte s.d ∷ []

-- what is answered to a question about channel x, with the mode k and the channel's motor
unfoldable pub question_text : ℕ → ℕ → Motor → Question → List ℕ
question_text k x m AskPosition = position_text m.place
question_text k x m AskCwLimit = position_text m.limits.cw
question_text k x m AskCcwLimit = position_text m.limits.ccw
question_text k x m AskSelected = selected_text m.speeds.selected
question_text k x m (AskSpeed n) = speed_text (speed_numbered n m.speeds)
question_text k x m AskSwitches = switches_text m.wiring.setls
question_text k x m AskMotor = motor_text m.setup
question_text k x m AskStatus = status_text k x m

-- "`ERR?` the lowest error's text (bit 3 is OTHER ERROR) or NO ERROR"
unfoldable pub error_text : ℕ → List ℕ
error_text e =
    cond (is_set 0 e) (bytes "COMMAND ERROR")
    (cond (is_set 1 e) (bytes "MCC06 BUSY ERROR")
    (cond (is_set 2 e) (bytes "PARAMETER ERROR")
    (cond (is_set 3 e) (bytes "OTHER ERROR")
    (bytes "NO ERROR"))))

-- "Other commands, and numbers 1 to 4, write their text if all-reply is on after the command, else nothing", where 4 "reads as the split
-- numbers" (02 §5): every number but 5 and 6. `all` is the head's all-reply after the command
unfoldable pub echo : ℕ → Verdict → List ℕ
echo all v = cond (eqb all 1) (text_of (number_of v)) []

-- "`ALL_REP?` EN or DS"
unfoldable pub all_reply_text : ℕ → List ℕ
all_reply_text all = cond (eqb all 1) (bytes "EN") (bytes "DS")

-- 02 §3: "reply ON or OFF"
unfoldable pub pause_text : Head → List ℕ
pause_text h = cond (paused h) (bytes "ON") (bytes "OFF")

-- 02 §7: "`STQ?` (000, both modes) answers R or L and four less that number", "the number of set bits in the busy word"
unfoldable pub free_text : Head → List ℕ
free_text h = mode_letter h.mode ∷ digit_byte (4 - bits_set h.busy) ∷ []

-- what is answered to a question about the head: "`ERRF?` two hex digits"; 02 §6: "`BSY?` .. answers four hex digits", those of the busy
-- set as the head holds it
unfoldable pub head_text : Head → HeadQuestion → List ℕ
head_text h AskAllReply = all_reply_text h.reply
head_text h AskFlags = hex_byte h.errors
head_text h AskError = error_text h.errors
head_text h AskPause = pause_text h
head_text h AskBusy = hex_word h.busy
head_text h AskFree = free_text h
