-- What follows a word, as the code holds it: each tail and the fields that it stands for. `order_of` has no need of it.
use Rattle.std.specs.Prelude.{ℕ, List, [], ◌∷◌, Option, Some, None}
use Rattle.line.specs.declared.Written.{Written}
use Rattle.line.specs.declared.Four.{Four}
use Rattle.line.specs.declared.Fields.{Fields}
use Rattle.line.specs.declared.Field.{Field}
use Rattle.line.specs.declared.Field.TheVariants.{Channel, Signed, Unsigned, Digit, Question, FourDigits, ZeroThree, Enable, Disable, On, Off, Never}
use Rattle.line.specs.Shapes.{Got, with_channel, with_written, with_first, with_second}
use Rattle.line.specs.declared.AfterX.{AfterX}
use Rattle.line.specs.declared.AfterX.TheVariants.{OnlyX, XSigned, XNumber, XSwitches, XDigits, XQuestion}
use Rattle.line.specs.declared.Tail.{Tail}
use Rattle.line.specs.declared.Tail.TheVariants.{Alone, AtX, OneDigit, Enabling, Disabling, TurnOn, TurnOff}

-- the fields after x
abbrev pub after_x : AfterX → List Field
after_x OnlyX = []
after_x XSigned = Signed ∷ []
after_x XNumber = Unsigned ∷ []
after_x XSwitches = FourDigits ∷ ZeroThree ∷ []
after_x XDigits = FourDigits ∷ []
after_x XQuestion = Question ∷ []

-- the fields of a tail; where no line has the form, one that no line has
abbrev pub fields_of : Option Tail → List Field
fields_of (Some Alone) = []
fields_of (Some (AtX after)) = Channel ∷ after_x after
fields_of (Some OneDigit) = Digit ∷ []
fields_of (Some Enabling) = Enable ∷ []
fields_of (Some Disabling) = Disable ∷ []
fields_of (Some TurnOn) = On ∷ []
fields_of (Some TurnOff) = Off ∷ []
fields_of None = Never ∷ []

-- The fields with what the code reads of one of them, and the place after it: x;
abbrev pub with_x : Fields → Option (ℕ × ℕ) → Got
with_x f (Some (x, to)) = Some (with_channel f x, to)
with_x f None = None

-- a number;
abbrev pub with_number : Fields → Option (Written × ℕ) → Got
with_number f (Some (w, to)) = Some (with_written f w.minus w.digits, to)
with_number f None = None

-- twice four digits
abbrev pub with_switches : Fields → Option ((Four × Four) × ℕ) → Got
with_switches f (Some ((q, r), to)) = Some (with_second (with_first f q) r, to)
with_switches f None = None
