-- A set of channels as a number: which bits it has, that these tell it, and what one channel more or less makes of it. Assumes nothing.
use Rattle.std.proofs.Common.{◌≡◌, ℕ, zero, suc, ◌+◌, ◌-◌, ◌*◌, ◌/◌, ◌%◌, ◌^◌, ◌<◌, Bool, true, false, cond, sym, refl, ◌∙◌, pow-suc, add-one, arith, pow-add, eqb-true}
use native.Mathlib.Nat.{div-div-eq-div-mul}
use lib.Bits.{bit_and, bit_or, and_high, or_add_and}
use borrow.Author.Tests.{eqb-false}
use Rattle.digits.specs.Words.{is_set, with_bit, without_bit, marked, bits_of}

-- what bit k is worth where it is set
abbrev pub worth : Bool → ℕ → ℕ
worth b k = cond b (2 ^ k) 0

-- A bit of a number is the bit before it of its half.
next_bit : (c n : ℕ) → is_set (suc c) n ≡ is_set c (n / 2)
next_bit c n = let e : 2 ^ suc c ≡ 2 * 2 ^ c = rw (pow-suc) (omega arith) in rw (e, ← div-div-eq-div-mul n 2 (2 ^ c))

-- A number with its first bits left out, and one more of them.
pub one_less : (n c : ℕ) → n / 2 ^ c / 2 ≡ n / 2 ^ (c + 1)
one_less n c = rw (add-one c, pow-suc) (div-div-eq-div-mul n (2 ^ c) 2)

-- A set of the numbers below k is below 2 ^ k.
pub bits_below : (f : ℕ → Bool) (k : ℕ) → bits_of f k < 2 ^ k
unfolding bits_of
bits_below f zero = omega arith
bits_below f (suc k) = rw (pow-suc) (go (f 0) (bits_of (λ i. f (suc i)) k) (bits_below (λ i. f (suc i)) k))
  where
    go : (b : Bool) (n : ℕ) → n < 2 ^ k → cond b 1 0 + 2 * n < 2 ^ k * 2
    go true n l = omega arith
    go false n l = omega arith

-- Its bits are what f tells.
pub bits_at : (f : ℕ → Bool) (k c : ℕ) → c < k → is_set c (bits_of f k) ≡ f c
unfolding bits_of
bits_at f zero c h = absurd (omega arith)
bits_at f (suc k) zero h = go (f 0) (bits_of (λ i. f (suc i)) k)
  where
    go : (b : Bool) (n : ℕ) → is_set 0 (cond b 1 0 + 2 * n) ≡ b
    go true n = let odd : (1 + 2 * n) / 1 % 2 ≡ 1 = omega arith in rw odd
    go false n = let even : (0 + 2 * n) / 1 % 2 ≡ 0 = omega arith in rw even
bits_at f (suc k) (suc c) h = rw (next_bit c (cond (f 0) 1 0 + 2 * bits_of (λ i. f (suc i)) k), half (f 0) (bits_of (λ i. f (suc i)) k)) (bits_at (λ i. f (suc i)) k c (omega arith))
  where
    half : (b : Bool) (n : ℕ) → (cond b 1 0 + 2 * n) / 2 ≡ n
    half true n = omega arith
    half false n = omega arith

-- They tell it: a number below 2 ^ k with these bits is the set.
pub bits_unique : (f : ℕ → Bool) (k n : ℕ) → n < 2 ^ k → ((c : ℕ) → c < k → is_set c n ≡ f c) → n ≡ bits_of f k
unfolding bits_of
bits_unique f zero n l same = omega arith
bits_unique f (suc k) n l same =
    let half : n / 2 ≡ bits_of (λ i. f (suc i)) k =
    bits_unique (λ i. f (suc i)) k (n / 2) (omega (arith, rw (pow-suc) at l)) (λ c h. sym (next_bit c n) ∙ same (suc c) (omega arith)) in
    rw (← half) (go (f 0) (same 0 (omega arith)))
  where
    go : (b : Bool) → is_set 0 n ≡ b → n ≡ cond b 1 0 + 2 * (n / 2)
    go true e = let odd : n / 1 % 2 ≡ 1 = eqb-true (n / 1 % 2) 1 e in omega arith
    go false e = let even : n / 1 % 2 ≡ 1 → ⊥ = eqb-false (n / 1 % 2) 1 e in omega arith

-- Two sets of the same channels are one.
pub bits_same : (f g : ℕ → Bool) (k : ℕ) → ((c : ℕ) → c < k → g c ≡ f c) → bits_of g k ≡ bits_of f k
bits_same f g k same = bits_unique f k (bits_of g k) (bits_below g k) (λ c h. bits_at g k c h ∙ same c h)

-- Another bit at one place: with both bits added it is an equation.
twice : (b : Bool) (c : ℕ) → worth b (suc c) ≡ 2 * worth b c
twice b c = grind arith

one_bit : (f g : ℕ → Bool) (k c : ℕ) → c < k → ((d : ℕ) → d < k → (d ≡ c → ⊥) → g d ≡ f d)
    → bits_of g k + worth (f c) c ≡ bits_of f k + worth (g c) c
unfolding bits_of
one_bit f g zero c l same = absurd (omega arith)
one_bit f g (suc k) zero l same =
    rw (bits_same (λ i. f (suc i)) (λ i. g (suc i)) k (λ c h. same (suc c) (omega arith) (λ e. omega arith))) (go (f 0) (g 0) (bits_of (λ i. f (suc i)) k))
  where
    go : (a b : Bool) (n : ℕ) → cond b 1 0 + 2 * n + worth a 0 ≡ cond a 1 0 + 2 * n + worth b 0
    go true true n = refl
    go true false n = omega arith
    go false true n = omega arith
    go false false n = refl
one_bit f g (suc k) (suc c) l same =
    let rest = one_bit (λ i. f (suc i)) (λ i. g (suc i)) k c (omega arith) (λ d h ne. same (suc d) (omega arith) (λ e. ne (omega arith))) in
    rw (same 0 (omega arith) (λ e. omega arith), twice (f (suc c)) c, twice (g (suc c)) c) (omega arith)

-- So a set marked at one place is the set of the channels with that one in it or not.
pub marked_bits : (f g : ℕ → Bool) (k c : ℕ) → c < k → ((d : ℕ) → d < k → (d ≡ c → ⊥) → g d ≡ f d) → marked (g c) c (bits_of f k) ≡ bits_of g k
unfolding with_bit without_bit
marked_bits f g k c l same = rw (bits_at f k c l) (go (f c) (g c) (one_bit f g k c l same))
  where
    go : (a b : Bool) → bits_of g k + worth a c ≡ bits_of f k + worth b c
        → cond b (cond a (bits_of f k) (bits_of f k + 2 ^ c)) (cond a (bits_of f k - 2 ^ c) (bits_of f k)) ≡ bits_of g k
    go true true e = omega arith
    go true false e = omega arith
    go false true e = omega arith
    go false false e = omega arith

-- A bit by itself: what is left of a number by the mask of one bit, and the number with that bit in it and without it.
own_bit : (n k : ℕ) → bit_and n (2 ^ k) ≡ worth (is_set k n) k
own_bit n k =
    let mask : 2 ^ k ≡ 2 ^ (1 + k) - 2 ^ k = rw (pow-add 2 1 k) (omega arith) in
    let at : bit_and n (2 ^ (1 + k) - 2 ^ k) ≡ n / 2 ^ k % 2 * 2 ^ k = and_high n 1 k in
    rw (← mask) at at ∙ go (is_set k n) refl
  where
    go : (b : Bool) → is_set k n ≡ b → n / 2 ^ k % 2 * 2 ^ k ≡ worth b k
    go true e = rw (eqb-true (n / 2 ^ k % 2) 1 e) (omega arith)
    go false e = let zero : n / 2 ^ k % 2 ≡ 0 = omega (arith, eqb-false (n / 2 ^ k % 2) 1 e) in rw (zero) (omega arith)

pub bit_in : (n k : ℕ) → bit_or n (2 ^ k) ≡ with_bit k n
unfolding with_bit
bit_in n k = go (is_set k n) (rw (own_bit n k) at (or_add_and n (2 ^ k)))
  where
    go : (b : Bool) → bit_or n (2 ^ k) + worth b k ≡ n + 2 ^ k → bit_or n (2 ^ k) ≡ cond b n (n + 2 ^ k)
    go true e = omega arith
    go false e = omega arith

pub bit_out : (n k : ℕ) → n - bit_and n (2 ^ k) ≡ without_bit k n
unfolding without_bit
bit_out n k = rw (own_bit n k) (go (is_set k n))
  where
    go : (b : Bool) → n - worth b k ≡ cond b (n - 2 ^ k) n
    go true = refl
    go false = omega arith
