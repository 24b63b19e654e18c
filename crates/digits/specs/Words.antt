-- Words and bits. Document 01, "The table": "Numbers are little-endian".
use Rattle.std.specs.Prelude.{ℕ, zero, suc, ◌+◌, ◌-◌, ◌*◌, ◌/◌, ◌%◌, ◌^◌, Bool, cond, List, [], ◌∷◌, ◌==◌}
use Rattle.std.specs.Int.Count.{ones_in}

-- "little-endian": the number that bytes stand for, the first byte lowest
unfoldable pub word : List ℕ → ℕ
word [] = 0
word (b ∷ s) = b + 256 * word s

-- "little-endian": the w bytes that a number is written in, the lowest first
unfoldable pub word_bytes : ℕ → ℕ → List ℕ
word_bytes zero n = []
word_bytes (suc w) n = n % 256 ∷ word_bytes w (n / 256)

-- bit k of a number, 0 or 1; bit 0 is the lowest
abbrev pub bit : ℕ → ℕ → ℕ
bit k n = n / 2 ^ k % 2

-- bit k is set
abbrev pub is_set : ℕ → ℕ → Bool
is_set k n = bit k n == 1

-- the number with bit k set
unfoldable pub with_bit : ℕ → ℕ → ℕ
with_bit k n = cond (is_set k n) n (n + 2 ^ k)

-- the number with bit k clear
unfoldable pub without_bit : ℕ → ℕ → ℕ
without_bit k n = cond (is_set k n) (n - 2 ^ k) n

-- the number with bit k set or clear, by a test
abbrev pub marked : Bool → ℕ → ℕ → ℕ
marked on k n = cond on (with_bit k n) (without_bit k n)

-- a set of the numbers below k as one number: bit i is set where f holds of i
unfoldable pub bits_of : (ℕ → Bool) → ℕ → ℕ
bits_of f zero = 0
bits_of f (suc k) = cond (f 0) 1 0 + 2 * bits_of (λ i. f (suc i)) k

-- how many of the numbers below k f holds of
unfoldable pub how_many : (ℕ → Bool) → ℕ → ℕ
how_many f zero = 0
how_many f (suc k) = cond (f 0) 1 0 + how_many (λ i. f (suc i)) k

-- how many of the sixteen bits of a word are set; 02 §7: "the number of set bits in the busy word"
abbrev pub bits_set : ℕ → ℕ
bits_set n = ones_in 16 n
