-- Buffers: a lent buffer is the list of its bytes, and these few words say what is read from it and written to it.
use Rattle.std.specs.Prelude.{ℕ, zero, suc, ◌+◌, ◌<◌, Bool, true, ◌&&◌, List, [], ◌∷◌, ◌++◌, length, take, drop, ◌==◌, slice_index}

-- every number of a list is a byte, as those of a buffer are
abbrev pub AllBytes : List ℕ → Type 0
AllBytes s = (k : ℕ) → slice_index s k < 256

-- the n bytes that stand from `at` on
unfoldable pub part : List ℕ → ℕ → ℕ → List ℕ
part t at n = take n (drop at t)

-- the buffer with the bytes b written from `at` on, and every other byte as it was
unfoldable pub put : List ℕ → ℕ → List ℕ → List ℕ
put t at b = take at t ++ (b ++ drop (at + length b) t)

-- runs of bytes one after the other
unfoldable pub joined : List (List ℕ) → List ℕ
joined [] = []
joined (b ∷ bs) = b ++ joined bs

-- the first k pieces of w bytes each, one after the other
unfoldable pub pieces : ℕ → ℕ → List ℕ → List (List ℕ)
pieces w zero s = []
pieces w (suc k) s = take w s ∷ pieces w k (drop w s)

-- the test passes at every piece
unfoldable pub every : (List ℕ → Bool) → List (List ℕ) → Bool
every f [] = true
every f (p ∷ ps) = f p && every f ps

-- f 0, f 1, .. one after the other, k of them
unfoldable pub gather : (ℕ → List ℕ) → ℕ → List ℕ
gather f zero = []
gather f (suc k) = gather f k ++ f k

-- every byte is zero
unfoldable pub all_zero : List ℕ → Bool
all_zero [] = true
all_zero (b ∷ s) = b == 0 && all_zero s
