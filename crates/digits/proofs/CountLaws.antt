-- How many channels are in a set: the bits of its number that are set are as many as its channels, and what one channel more or less makes
-- of it. Assumes nothing.
use Rattle.std.proofs.Common.{◌≡◌, ℕ, zero, suc, ◌+◌, ◌-◌, ◌*◌, ◌/◌, ◌%◌, ◌^◌, ◌<◌, ◌≤◌, Bool, true, false, cond, refl, pow-suc, arith, pow_pos}
use mathlib.Core.Bool.{false≢true}
use lib.Count.{ones, ones_in, ones_step}
use Rattle.digits.specs.Words.{bits_of, how_many}

-- A number of k bits has no other bits to count.
pub ones_in_law : (k n : ℕ) → n < 2 ^ k → ones n ≡ ones_in k n
unfolding ones_in ones
ones_in_law zero n h = let z : n ≡ 0 = omega arith in rw z
ones_in_law (suc k) n h = rw (ones_step n, ones_in_law k (n / 2) (omega (arith, rw (pow-suc) at h)))

-- Of k bits no more than k are set.
pub in_most : (k n : ℕ) → ones_in k n ≤ k
unfolding ones_in
in_most zero n = omega arith
in_most (suc k) n = omega (arith, in_most k (n / 2))

-- They are all set in the number that has no other.
pub in_all : (k n : ℕ) → n < 2 ^ k → k ≤ ones_in k n → n ≡ 2 ^ k - 1
unfolding ones_in
in_all zero n b h = omega arith
in_all (suc k) n b h =
    let below : n / 2 < 2 ^ k = omega (arith, rw (pow-suc) at b) in
    let half : n / 2 ≡ 2 ^ k - 1 = in_all k (n / 2) below (omega (arith, in_most k (n / 2))) in
    rw (pow-suc) (omega (arith, in_most k (n / 2)))

pub all_in : (k n : ℕ) → n ≡ 2 ^ k - 1 → ones_in k n ≡ k
unfolding ones_in
all_in zero n e = refl
all_in (suc k) n e =
    let whole : n ≡ 2 ^ k * 2 - 1 = rw (pow-suc) at e in
    let half : n / 2 ≡ 2 ^ k - 1 = omega (arith, pow_pos k) in
    rw (all_in k (n / 2) half) (omega (arith, pow_pos k))

-- The number of a set has as many bits set as the set has channels.
pub bits_many : (f : ℕ → Bool) (k : ℕ) → ones_in k (bits_of f k) ≡ how_many f k
unfolding ones_in bits_of how_many
bits_many f zero = refl
bits_many f (suc k) = go (f 0) (bits_of (λ i. f (suc i)) k) (bits_many (λ i. f (suc i)) k)
  where
    go : (b : Bool) (n : ℕ) → ones_in k n ≡ how_many (λ i. f (suc i)) k
        → (cond b 1 0 + 2 * n) % 2 + ones_in k ((cond b 1 0 + 2 * n) / 2) ≡ cond b 1 0 + how_many (λ i. f (suc i)) k
    go true n e = let half : (1 + 2 * n) / 2 ≡ n = omega arith in rw (half, e) (omega arith)
    go false n e = let half : (0 + 2 * n) / 2 ≡ n = omega arith in rw (half, e) (omega arith)

-- There are no more than k, and where one is left out fewer.
pub many_most : (f : ℕ → Bool) (k : ℕ) → how_many f k ≤ k
unfolding how_many
many_most f zero = omega arith
many_most f (suc k) = go (f 0) (many_most (λ i. f (suc i)) k)
  where
    go : (b : Bool) → how_many (λ i. f (suc i)) k ≤ k → cond b 1 0 + how_many (λ i. f (suc i)) k ≤ suc k
    go true h = omega arith
    go false h = omega arith

pub many_fewer : (f : ℕ → Bool) (k c : ℕ) → c < k → f c ≡ false → how_many f k < k
unfolding how_many
many_fewer f zero c l e = absurd (omega arith)
many_fewer f (suc k) zero l e = rw e (omega (arith, many_most (λ i. f (suc i)) k))
many_fewer f (suc k) (suc c) l e = go (f 0) (many_fewer (λ i. f (suc i)) k c (omega arith) e)
  where
    go : (b : Bool) → how_many (λ i. f (suc i)) k < k → cond b 1 0 + how_many (λ i. f (suc i)) k < suc k
    go true h = omega arith
    go false h = omega arith

-- Where there is none, no channel is in the set.
pub many_none : (f : ℕ → Bool) (k : ℕ) → how_many f k ≡ 0 → (c : ℕ) → c < k → f c ≡ false
unfolding how_many
many_none f zero e c l = absurd (omega arith)
many_none f (suc k) e zero l = go (f 0) refl
  where
    go : (b : Bool) → f 0 ≡ b → f 0 ≡ false
    go true q = absurd (omega (arith, rw q at e))
    go false q = q
many_none f (suc k) e (suc c) l = many_none (λ i. f (suc i)) k (omega arith) c (omega arith)

-- The same channels are as many, and channels that are all among others are no more.
pub many_same : (f g : ℕ → Bool) (k : ℕ) → ((c : ℕ) → c < k → g c ≡ f c) → how_many g k ≡ how_many f k
unfolding how_many
many_same f g zero same = refl
many_same f g (suc k) same = rw (same 0 (omega arith), many_same (λ i. f (suc i)) (λ i. g (suc i)) k (λ c h. same (suc c) (omega arith)))

pub many_less : (f g : ℕ → Bool) (k : ℕ) → ((c : ℕ) → c < k → g c ≡ true → f c ≡ true) → how_many g k ≤ how_many f k
unfolding how_many
many_less f g zero among = omega arith
many_less f g (suc k) among =
    go (f 0) (g 0) (among 0 (omega arith)) (many_less (λ i. f (suc i)) (λ i. g (suc i)) k (λ c h. among (suc c) (omega arith)))
  where
    go : (a b : Bool) → (b ≡ true → a ≡ true) → how_many (λ i. g (suc i)) k ≤ how_many (λ i. f (suc i)) k
        → cond b 1 0 + how_many (λ i. g (suc i)) k ≤ cond a 1 0 + how_many (λ i. f (suc i)) k
    go true true h l = omega arith
    go true false h l = omega arith
    go false true h l = absurd (false≢true (h refl))
    go false false h l = omega arith

-- One channel changed makes at most one more.
pub many_one : (f g : ℕ → Bool) (k c : ℕ) → c < k → ((d : ℕ) → d < k → (d ≡ c → ⊥) → g d ≡ f d) → how_many g k ≤ how_many f k + 1
unfolding how_many
many_one f g zero c l same = absurd (omega arith)
many_one f g (suc k) zero l same =
    rw (many_same (λ i. f (suc i)) (λ i. g (suc i)) k (λ c h. same (suc c) (omega arith) (λ e. omega arith))) (go (f 0) (g 0) (how_many (λ i. f (suc i)) k))
  where
    go : (a b : Bool) (n : ℕ) → cond b 1 0 + n ≤ cond a 1 0 + n + 1
    go true true n = omega arith
    go true false n = omega arith
    go false true n = omega arith
    go false false n = omega arith
many_one f g (suc k) (suc c) l same =
    let rest = many_one (λ i. f (suc i)) (λ i. g (suc i)) k c (omega arith) (λ d h ne. same (suc d) (omega arith) (λ e. ne (omega arith))) in
    rw (same 0 (omega arith) (λ e. omega arith)) (omega arith)
