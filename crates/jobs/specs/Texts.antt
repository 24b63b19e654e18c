-- Document 01, "Bench cases": the texts that *bench* prints. "It prints, per line, the number, then for C a space and the reply or
-- `-`; for T, per channel with a nonzero net, a space, x, colon, signed net."
use Prim.Native.Char.{code}
use Rattle.std.specs.Prelude.{ℕ, ◌+◌, ◌-◌, ◌/◌, ◌%◌, List, [], ◌∷◌, ◌++◌, cond, take, drop, get_or, eqb}
use Rattle.digits.specs.Bytes.{gather}
use Rattle.digits.specs.Words.{word}
use Rattle.digits.specs.Places.{origin, place_of}
use Rattle.text.specs.Text.{bytes, decimal, signed_decimal, hex_digit}

-- "Numbers that a program prints itself (not replies) are decimal without leading zeros"
abbrev pub plain_text : ℕ → List ℕ
plain_text n = decimal 1 n

-- "signed ones carry a sign, + for 0"
abbrev pub signed_text : ℕ → List ℕ
signed_text p = signed_decimal 1 p

-- "the reply or `-`"
abbrev pub reply_text : List ℕ → List ℕ
reply_text [] = bytes "-"
reply_text (b ∷ s) = b ∷ s

-- "the number, then for C a space and the reply or `-`": the result is the number plus 256 times the reply's length
unfoldable pub command_text : ℕ → List ℕ → List ℕ
command_text result reply = plain_text (result % 256) ++ (code " " ∷ reply_text (take (result / 256) reply))

-- the nets with the counts of one more tick
unfoldable pub nets_after : List ℕ → List ℕ → List ℕ
nets_after [] pulses = []
nets_after (n ∷ ns) pulses = (n + place_of (word (take 4 pulses)) - origin) ∷ nets_after ns (drop 4 pulses)

-- "per channel with a nonzero net, a space, x, colon, signed net"
unfoldable pub net_text : ℕ → ℕ → List ℕ
net_text c net = cond (eqb net origin) [] (code " " ∷ hex_digit c ∷ code ":" ∷ signed_text net)

-- the nets of the first k channels, in the channels' order
abbrev pub net_texts : List ℕ → ℕ → List ℕ
net_texts nets k = gather (λ c. net_text c (get_or nets c origin)) k

-- the number, and the nets of all the channels
unfoldable pub waited_text : ℕ → List ℕ → List ℕ
waited_text result nets = plain_text result ++ net_texts nets 16
