-- Document 01, "Lines": the fields that a line is made of, and the shapes that they make. A field is read at a place of the
-- line and gives the place after it: "The line in hand and the place reached travel together".
use Prim.Native.Char.{code}
use Rattle.std.specs.Prelude.{ℕ, ◌+◌, List, [], ◌∷◌, Bool, true, false, ◌&&◌, cond, drop, get_or, leb, eqb, Option, Some, None}
use Rattle.text.specs.Text.{is_digit, is_hex, hex_value, digit_value, digits_at_front, number_at_front}
use Rattle.text.specs.declared.decimal.Digits.{Digits}
use Rattle.line.specs.declared.Four.{Four}
use Rattle.line.specs.declared.Fields.{Fields}
use Rattle.line.specs.declared.Field.{Field}
use Rattle.line.specs.declared.Field.TheVariants.{Channel, Signed, Unsigned, Digit, Question, FourDigits, ZeroThree, Enable, Disable, On, Off, End, Never}

-- what reading a field gives: the fields so far and the place after it, or that it is not there
abbrev pub Got : Type 0
Got = Option (Fields × ℕ)

-- a field that is there if a test holds
abbrev pub got_if : Bool → Fields → ℕ → Got
got_if true f at = Some (f, at)
got_if false f at = None

-- What follows a word, each shape named as document 01 writes it. Nothing, as in `ASSTP`:
abbrev pub alone : List Field
alone = []

-- as in `SCANPx`
abbrev pub x : List Field
x = Channel ∷ []

-- as in `ABSx±d`
abbrev pub x±d : List Field
x±d = Channel ∷ Signed ∷ []

-- as in `SPCxd`
abbrev pub xd : List Field
xd = Channel ∷ Unsigned ∷ []

-- as in `SETLSxDYYY0yyy`
abbrev pub x_dyyy0yyy : List Field
x_dyyy0yyy = Channel ∷ FourDigits ∷ ZeroThree ∷ []

-- as in `SETMTxABCD`
abbrev pub x_abcd : List Field
x_abcd = Channel ∷ FourDigits ∷ []

-- as in `STSx?`
abbrev pub x? : List Field
x? = Channel ∷ Question ∷ []

-- as in `ERRCe`
abbrev pub e : List Field
e = Digit ∷ []

-- as in `ALL_REP EN`
abbrev pub EN : List Field
EN = Enable ∷ []

-- as in `ALL_REP DS`
abbrev pub DS : List Field
DS = Disable ∷ []

-- as in `PAUSE ON`
abbrev pub ON : List Field
ON = On ∷ []

-- as in `PAUSE OFF`
abbrev pub OFF : List Field
OFF = Off ∷ []

-- no field yet
abbrev pub no_fields : Fields
no_fields =
    record {
      channel = 0;
      written = record { minus = false; digits = 0 };
      first = record { a = 0; b = 0; c = 0; d = 0 };
      second = record { a = 0; b = 0; c = 0; d = 0 };
    }

-- the fields with the channel x
abbrev pub with_channel : Fields → ℕ → Fields
with_channel f n = record { channel = n; written = f.written; first = f.first; second = f.second }

-- the fields with a number, by its sign and the value of its digits
abbrev pub with_written : Fields → Bool → ℕ → Fields
with_written f minus n = record { channel = f.channel; written = record { minus = minus; digits = n }; first = f.first; second = f.second }

-- the fields with four digits, DYYY or ABCD
abbrev pub with_first : Fields → Four → Fields
with_first f q = record { channel = f.channel; written = f.written; first = q; second = f.second }

-- the fields with four digits more, 0yyy
abbrev pub with_second : Fields → Four → Fields
with_second f q = record { channel = f.channel; written = f.written; first = f.first; second = q }

-- the byte at a place of a line; 0, which no form has, where the line has ended
abbrev pub byte_at : List ℕ → ℕ → ℕ
byte_at s at = get_or s at 0

-- the digit at a place of a line
abbrev pub digit_at : List ℕ → ℕ → ℕ
digit_at s at = digit_value (byte_at s at)

-- "x is one of 0-9, A-F"
unfoldable pub read_channel : Fields → List ℕ → ℕ → Got
read_channel f s at = got_if (is_hex (byte_at s at)) (with_channel f (hex_value (byte_at s at))) (at + 1)

-- a number that was found from a place on
abbrev pub numbered : Bool → Fields → ℕ → Option Digits → Got
numbered minus f at (Some d) = Some (with_written f minus d.value, at + d.count)
numbered minus f at None = None

-- "d: 1 to 10 digits"
unfoldable pub read_number : Bool → Fields → List ℕ → ℕ → Got
read_number minus f s at = numbered minus f at (number_at_front (drop at s))

-- "±d: a sign, then 1 to 10 digits"; 02 §1: "Wherever a form takes ±d, let a bare d mean plus"
unfoldable pub read_signed : Fields → List ℕ → ℕ → Got
read_signed f s at =
    cond (eqb (byte_at s at) (code "+"))
    (read_number false f s (at + 1))
    (cond (eqb (byte_at s at) (code "-")) (read_number true f s (at + 1)) (read_number false f s at))

-- "e one digit"
unfoldable pub read_digit : Fields → List ℕ → ℕ → Got
read_digit f s at = got_if (is_digit (byte_at s at)) (with_written f false (digit_at s at)) (at + 1)

-- "`STSx?`": the question mark
unfoldable pub read_question : Fields → List ℕ → ℕ → Got
read_question f s at = got_if (eqb (byte_at s at) (code "?")) f (at + 1)

-- "`ALL_REP EN`, `ALL_REP DS`", and 02 §3: "`PAUSE ON`": two letters
unfoldable pub read_letters : ℕ → ℕ → Fields → List ℕ → ℕ → Got
read_letters a b f s at = got_if (eqb (byte_at s at) a && eqb (byte_at s (at + 1)) b) f (at + 2)

-- 02 §3: "`PAUSE OFF`": three letters
unfoldable pub read_three : ℕ → ℕ → ℕ → Fields → List ℕ → ℕ → Got
read_three a b c f s at = got_if (eqb (byte_at s at) a && eqb (byte_at s (at + 1)) b && eqb (byte_at s (at + 2)) c) f (at + 3)

-- the four digits from a place on
abbrev pub four_of : List ℕ → ℕ → Four
four_of s at = record { a = digit_at s at; b = digit_at s (at + 1); c = digit_at s (at + 2); d = digit_at s (at + 3) }

-- "In SETLS and SETMT each letter after x is one decimal digit"
unfoldable pub read_four : Fields → List ℕ → ℕ → Got
read_four f s at = got_if (leb 4 (digits_at_front (drop at s))) (with_first f (four_of s at)) (at + 4)

-- "and the 0 is itself"
unfoldable pub read_zero_three : Fields → List ℕ → ℕ → Got
read_zero_three f s at = got_if (leb 4 (digits_at_front (drop at s)) && eqb (byte_at s at) (code "0")) (with_second f (four_of s at)) (at + 4)

-- a field of each kind
abbrev pub read_field : Field → Fields → List ℕ → ℕ → Got
read_field Channel f s at = read_channel f s at
read_field Signed f s at = read_signed f s at
read_field Unsigned f s at = read_number false f s at
read_field Digit f s at = read_digit f s at
read_field Question f s at = read_question f s at
read_field FourDigits f s at = read_four f s at
read_field ZeroThree f s at = read_zero_three f s at
read_field Enable f s at = read_letters (code "E") (code "N") f s at
read_field Disable f s at = read_letters (code "D") (code "S") f s at
read_field On f s at = read_letters (code "O") (code "N") f s at
read_field Off f s at = read_three (code "O") (code "F") (code "F") f s at
read_field End f s at = Some (f, at)
read_field Never f s at = None

-- what comes next, where the field before it is there
abbrev pub onward : Got → (Fields → ℕ → Got) → Got
onward (Some (f, at)) next = next f at
onward None next = None

-- the fields of a shape, one after the other
unfoldable pub read_fields : List Field → Fields → List ℕ → ℕ → Got
read_fields [] f s at = Some (f, at)
read_fields (k ∷ ks) f s at = onward (read_field k f s at) (λ g to. read_fields ks g s to)
