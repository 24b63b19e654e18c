-- Document 01, "Lines": the forms, a row each, in the document's order, the order that a line is, and which forms a card has (02 §7).
use Rattle.std.specs.Prelude.{ℕ, List, [], ◌∷◌, ◌++◌, Bool, true, cond, length, take, leb, eqb}
use Prim.Native.String as S
use Rattle.text.specs.Text.{bytes, same}
use Rattle.digits.specs.Places.{cw, ccw}
use Rattle.line.specs.declared.Fields.{Fields}
use Rattle.line.specs.declared.Start.{Start}
use Rattle.line.specs.declared.Start.TheVariants.{Abs, Rel, Scan, Jog}
use Rattle.line.specs.declared.Setting.{Setting}
use Rattle.line.specs.declared.Setting.TheVariants.{Preset, SetCwLimit, SetCcwLimit, Select, SetSpeed, SetSwitches, SetMotor}
use Rattle.line.specs.declared.Question.{Question}
use Rattle.line.specs.declared.Question.TheVariants.{AskPosition, AskCwLimit, AskCcwLimit, AskSelected, AskSpeed, AskSwitches, AskMotor, AskStatus}
use Rattle.line.specs.declared.Order.{Order}
use Rattle.line.specs.declared.Order.TheVariants.{Go, Stop, StopAll, ChangeSpeed, Set, Ask, AskHead, ForHead}
use Rattle.line.specs.declared.HeadOrder.TheVariants.{Mode, AllReply, ClearErrors, ClearError, Pause}
use Rattle.line.specs.declared.HeadQuestion.{HeadQuestion}
use Rattle.line.specs.declared.HeadQuestion.TheVariants.{AskAllReply, AskFlags, AskError, AskPause, AskBusy, AskFree}
use Rattle.std.specs.Prelude.{Option, Some, None}
use Rattle.line.specs.declared.Field.{Field}
use Rattle.line.specs.Shapes.{Got}
use Rattle.line.specs.Shapes.{alone, x, x±d, xd, x_dyyy0yyy, x_abcd, x?, e, EN, DS, ON, OFF, no_fields, read_fields}

-- a form: a word, the fields after it, and the order that it is
pub record Row : Type 0 where
  pub word : List ℕ
  pub fields : List Field
  pub order : Fields → Order

-- a row, its word quoted
abbrev pub row : S.String → List Field → (Fields → Order) → Row
row w k o = record { word = bytes w; fields = k; order = o }

-- a start of channel x
abbrev pub starting : (Fields → Start) → Fields → Order
starting s f = Go f.channel (s f)

-- a setting of channel x
abbrev pub setting : (Fields → Setting) → Fields → Order
setting s f = Set f.channel (s f)

-- a question about channel x
abbrev pub asking : Question → Fields → Order
asking q f = Ask f.channel q

-- "0 L"
abbrev pub lspd : ℕ
lspd = 0

-- "1 M"
abbrev pub mspd : ℕ
mspd = 1

-- "2 H"
abbrev pub hspd : ℕ
hspd = 2

-- `ABSx±d`, `RELx±d`, `SCANPx`, `SCANNx`, `JOGPx`, `JOGNx` (P is CW; JOG is REL by +1 or -1).
abbrev pub start_rows : List Row
start_rows =
    row "ABS" x±d (starting (λ f. Abs f.written))
    ∷ row "REL" x±d (starting (λ f. Rel f.written))
    ∷ row "SCANP" x (starting (λ f. Scan cw))
    ∷ row "SCANN" x (starting (λ f. Scan ccw))
    ∷ row "JOGP" x (starting (λ f. Jog cw))
    ∷ row "JOGN" x (starting (λ f. Jog ccw))
    ∷ []

-- "40h SSEND"
abbrev pub ssend : ℕ
ssend = 0x40

-- "80h ESEND"
abbrev pub esend : ℕ
esend = 0x80

-- `SSTPx`, `ESTPx`, `ASSTP`, `AESTP`; `SPCxd`. "SSTP and ASSTP with SSEND, ESTP and AESTP with ESEND"
abbrev pub stop_rows : List Row
stop_rows =
    row "SSTP" x (λ f. Stop f.channel ssend)
    ∷ row "ESTP" x (λ f. Stop f.channel esend)
    ∷ row "ASSTP" alone (λ f. StopAll ssend)
    ∷ row "AESTP" alone (λ f. StopAll esend)
    ∷ row "SPC" xd (λ f. ChangeSpeed f.channel f.written.digits)
    ∷ []

-- `PSx±d`, `FLx±d`, `BLx±d`; `SPDHx`, `SPDMx`, `SPDLx` select; the same with d set; `SETLSxDYYY0yyy`, `SETMTxABCD`.
abbrev pub setting_rows : List Row
setting_rows =
    row "PS" x±d (setting (λ f. Preset f.written))
    ∷ row "FL" x±d (setting (λ f. SetCwLimit f.written))
    ∷ row "BL" x±d (setting (λ f. SetCcwLimit f.written))
    ∷ row "SPDH" x (setting (λ f. Select hspd))
    ∷ row "SPDM" x (setting (λ f. Select mspd))
    ∷ row "SPDL" x (setting (λ f. Select lspd))
    ∷ row "SPDH" xd (setting (λ f. SetSpeed hspd f.written.digits))
    ∷ row "SPDM" xd (setting (λ f. SetSpeed mspd f.written.digits))
    ∷ row "SPDL" xd (setting (λ f. SetSpeed lspd f.written.digits))
    ∷ row "SETLS" x_dyyy0yyy (setting (λ f. SetSwitches f.first f.second))
    ∷ row "SETMT" x_abcd (setting (λ f. SetMotor f.first))
    ∷ []

-- `PS?x`, `FL?x`, `BL?x`, `SPD?x`, `SPDH?x`, `SPDM?x`, `SPDL?x`, `SETLS?x`, `SETMT?x`, `STSx?`.
abbrev pub question_rows : List Row
question_rows =
    row "PS?" x (asking AskPosition)
    ∷ row "FL?" x (asking AskCwLimit)
    ∷ row "BL?" x (asking AskCcwLimit)
    ∷ row "SPD?" x (asking AskSelected)
    ∷ row "SPDH?" x (asking (AskSpeed hspd))
    ∷ row "SPDM?" x (asking (AskSpeed mspd))
    ∷ row "SPDL?" x (asking (AskSpeed lspd))
    ∷ row "SETLS?" x (asking AskSwitches)
    ∷ row "SETMT?" x (asking AskMotor)
    ∷ row "STS" x? (asking AskStatus)
    ∷ []

-- `LOC`, `REM`, `ALL_REP EN`, `ALL_REP DS`, `ALL_REP?`, `ERRF?`, `ERR?`, `ERRC`, `ERRCe` (e one digit).
abbrev pub head_rows : List Row
head_rows =
    row "LOC" alone (λ f. ForHead (Mode 0))
    ∷ row "REM" alone (λ f. ForHead (Mode 1))
    ∷ row "ALL_REP " EN (λ f. ForHead (AllReply 1))
    ∷ row "ALL_REP " DS (λ f. ForHead (AllReply 0))
    ∷ row "ALL_REP?" alone (λ f. AskHead AskAllReply)
    ∷ row "ERRF?" alone (λ f. AskHead AskFlags)
    ∷ row "ERR?" alone (λ f. AskHead AskError)
    ∷ row "ERRC" alone (λ f. ForHead ClearErrors)
    ∷ row "ERRC" e (λ f. ForHead (ClearError f.written.digits))
    ∷ []

-- The forms that the requests of document 02 add, in the order of the requests. A row is added at the end, so that no other row's
-- number shifts. 02 §3: "Add `PAUSE ON`, `PAUSE OFF` and `PAUSE?`"; 02 §6: "A read `BSY?`";
-- 02 §7: "`STQ?` (000, both modes)".
abbrev pub request_rows : List Row
request_rows =
    row "PAUSE " ON (λ f. ForHead (Pause 1))
    ∷ row "PAUSE " OFF (λ f. ForHead (Pause 0))
    ∷ row "PAUSE?" alone (λ f. AskHead AskPause)
    ∷ row "BSY?" alone (λ f. AskHead AskBusy)
    ∷ row "STQ?" alone (λ f. AskHead AskFree)
    ∷ []

-- a line is read whole: nothing follows the fields
abbrev pub complete : (Fields → Order) → List ℕ → Got → Option Order
complete o s (Some (f, at)) = cond (eqb at (length s)) (Some (o f)) None
complete o s None = None

-- the order that a row makes of the fields from a place on
unfoldable pub fields_as_row : Row → List ℕ → ℕ → Option Order
fields_as_row r s at = complete r.order s (read_fields r.fields no_fields s at)

-- a line has a row's form when it begins with the word, the fields follow, and nothing follows them
unfoldable pub as_row : Row → List ℕ → Option Order
as_row r s =
    let n = length r.word in
    cond (same (take n s) r.word) (fields_as_row r s n) None

-- all the forms: those of document 01, and those of the requests
unfoldable pub forms : List Row
forms = start_rows ++ (stop_rows ++ (setting_rows ++ (question_rows ++ (head_rows ++ request_rows))))

-- the rows that pass a test, for the laws of the table; `order_of` has no need of it
unfoldable pub those : (Row → Bool) → List Row → List Row
those p [] = []
those p (r ∷ rs) = cond (p r) (r ∷ those p rs) (those p rs)

-- what was found, or else what is found later
abbrev pub first_of : Option Order → Option Order → Option Order
first_of (Some o) later = Some o
first_of None later = later

-- the order by the first row whose form the line has
unfoldable pub first_form : List Row → List ℕ → Option Order
first_form [] s = None
first_form (r ∷ rs) s = first_of (as_row r s) (first_form rs s)

-- "0 to 80 bytes, without CR LF; longer is 1. Capitals only."
unfoldable pub order_of : List ℕ → Option Order
order_of s = cond (leb (length s) 80) (first_form forms s) None

-- a card has a question of the head; 02 §7, of `STQ?`: "On the sixteen card it is 1"
unfoldable pub asks_on : ℕ → HeadQuestion → Bool
asks_on card AskAllReply = true
asks_on card AskFlags = true
asks_on card AskError = true
asks_on card AskPause = true
asks_on card AskBusy = true
asks_on card AskFree = eqb card 1

-- a card has the form of an order
unfoldable pub has_form : ℕ → Order → Bool
has_form card (Go x s) = true
has_form card (Stop x flags) = true
has_form card (StopAll flags) = true
has_form card (ChangeSpeed x v) = true
has_form card (Set x s) = true
has_form card (Ask x q) = true
has_form card (AskHead q) = asks_on card q
has_form card (ForHead o) = true

-- what a line is on a card: a line whose form the card has not is nothing, as one that has none of the forms
abbrev pub on_card : ℕ → Option Order → Option Order
on_card card (Some o) = cond (has_form card o) (Some o) None
on_card card None = None
