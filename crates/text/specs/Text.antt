-- Texts and numbers in digits, read and written.
use Rattle.std.specs.Prelude.{ℕ, zero, suc, ◌+◌, ◌*◌, ◌-◌, ◌/◌, ◌%◌, ◌^◌, max, ◌≡◌, List, [], ◌∷◌, ◌++◌, Bool, true, false, ◌&&◌, ◌||◌, cond, leb, ltb, eqb, length, take, Option, Some, None}
use Prim.Native.String as S
use Prim.Native.Char.{code}
use Rattle.digits.specs.Places.{origin}
use Rattle.digits.specs.Bytes.{put}
use Rattle.text.specs.declared.decimal.Digits.{Digits}

-- the bytes of a quoted text
unfoldable pub bytes : S.String → List ℕ
bytes S.[] = []
bytes (S.◌∷◌ c s) = code c ∷ bytes s

-- two texts are the same
unfoldable pub same : List ℕ → List ℕ → Bool
same [] [] = true
same [] (b ∷ t) = false
same (a ∷ s) [] = false
same (a ∷ s) (b ∷ t) = eqb a b && same s t

-- "digits": the byte is one of 0-9
abbrev pub is_digit : ℕ → Bool
is_digit b = leb (code "0") b && leb b (code "9")

-- the number below 10 that a digit stands for
abbrev pub digit_value : ℕ → ℕ
digit_value b = b - code "0"

-- the digit of a number below 10
abbrev pub digit_byte : ℕ → ℕ
digit_byte n = code "0" + n

-- how many digits stand at the front of a text
unfoldable pub digits_at_front : List ℕ → ℕ
digits_at_front [] = 0
digits_at_front (b ∷ s) = cond (is_digit b) (suc (digits_at_front s)) 0

-- the number that digits write, after those that wrote n
unfoldable pub value_from : ℕ → List ℕ → ℕ
value_from n [] = n
value_from n (b ∷ s) = value_from (10 * n + digit_value b) s

-- the number that digits write
abbrev pub value_of : List ℕ → ℕ
value_of s = value_from 0 s

-- "x is one of 0-9, A-F": whether a byte is one
abbrev pub is_hex : ℕ → Bool
is_hex b = is_digit b || (leb (code "A") b && leb b (code "F"))

-- "x is one of 0-9, A-F": the number that such a byte stands for
unfoldable pub hex_value : ℕ → ℕ
hex_value b = cond (is_digit b) (digit_value b) (10 + (b - code "A"))

-- the last k digits of n
unfoldable pub last_digits : ℕ → ℕ → List ℕ
last_digits zero n = []
last_digits (suc k) n = last_digits k (n / 10) ++ (digit_byte (n % 10) ∷ [])

-- how many of 10, 100, .. up to 10 to the k are not above n
unfoldable pub powers_up_to : ℕ → ℕ → ℕ
powers_up_to zero n = 0
powers_up_to (suc k) n = powers_up_to k n + cond (leb (10 ^ suc k) n) 1 0

-- how many digits n has: no number here has more than ten
unfoldable pub digit_count : ℕ → ℕ
digit_count n = suc (powers_up_to 9 n)

-- "at least 7 digits", "at least 6": n in decimal with at least k digits
unfoldable pub decimal : ℕ → ℕ → List ℕ
decimal k n = last_digits (max k (digit_count n)) n

-- "a sign (+ for 0)": that of the position of a place
abbrev pub sign_byte : ℕ → ℕ
sign_byte p = cond (leb origin p) (code "+") (code "-")

-- how far a place lies from position 0, on either side
abbrev pub distance : ℕ → ℕ
distance p = cond (leb origin p) (p - origin) (origin - p)

-- "a sign (+ for 0) and at least 7 digits": the position of a place, with at least k digits
unfoldable pub signed_decimal : ℕ → ℕ → List ℕ
signed_decimal k p = sign_byte p ∷ decimal k (distance p)

-- "Hex is in capitals": the digit of a number below 16
unfoldable pub hex_digit : ℕ → ℕ
hex_digit n = cond (ltb n 10) (digit_byte n) (code "A" + (n - 10))

-- "two hex digits": those of a byte
unfoldable pub hex_byte : ℕ → List ℕ
hex_byte n = hex_digit (n / 16) ∷ hex_digit (n % 16) ∷ []

-- "four hex digits" (02 §6): those of a number of two bytes, the highest first
unfoldable pub hex_word : ℕ → List ℕ
hex_word n = hex_byte (n / 256) ++ hex_byte (n % 256)

-- "d: 1 to 10 digits", as many as stand there: the number at the front of a text, with how many digits it has
unfoldable pub number_at_front : List ℕ → Option Digits
number_at_front s =
    let n = digits_at_front s in
    cond (leb 1 n && leb n 10) (Some (record { value = value_of (take n s); count = n })) None

-- what a writer leaves: the text at the front of the buffer, every other byte as it was, and the length of the text as its answer
pub record Wrote (before after text : List ℕ) (r : ℕ) : Type 0 where
  pub count : r ≡ length text
  pub buffer : after ≡ put before 0 text
