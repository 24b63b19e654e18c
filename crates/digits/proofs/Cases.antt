-- The definitions computed on cases: words, places and buffers. One statement for each list, by computation.
use Rattle.std.proofs.Common.{◌≡◌, true, false, eqb, leb, [], ◌∷◌, refl}
use Rattle.digits.specs.Bytes.{part, put, pieces, every, gather, all_zero}
use Rattle.digits.specs.Words.{word, word_bytes, with_bit, without_bit, marked, bits_of, how_many, bits_set}
use Rattle.digits.specs.Places.{place_of, word_of, count_of, cw, ccw}
use Rattle.digits.specs.Computing.{computing_digits}

-- -1 is FF FF FF FF and stands one below the origin; the lowest bytes come first
words :
    (word_bytes 4 1000000 ≡ 0x40 ∷ 0x42 ∷ 0x0f ∷ 0 ∷ []) × (word (0x40 ∷ 0x42 ∷ 0x0f ∷ 0 ∷ []) ≡ 1000000)
    × (place_of (word (0xff ∷ 0xff ∷ 0xff ∷ 0xff ∷ [])) ≡ 2147483647) × (word_of 1 ≡ 0x80000001) × (place_of 0x80000000 ≡ 0)
unfolding computing_digits
words = (refl, refl, refl, refl, refl)

-- one pulse CCW is -1 in the pulse buffer, and none is 0 either way
counts : (count_of ccw 1 ≡ 0xffffffff) × (count_of ccw 0 ≡ 0) × (count_of cw 5000 ≡ 5000)
unfolding computing_digits
counts = (refl, refl, refl)

-- what is written stands where it was put, and the rest as it was
buffers :
    (put (1 ∷ 2 ∷ 3 ∷ 4 ∷ []) 1 (9 ∷ 8 ∷ []) ≡ 1 ∷ 9 ∷ 8 ∷ 4 ∷ []) × (part (1 ∷ 2 ∷ 3 ∷ 4 ∷ []) 2 1 ≡ 3 ∷ [])
    × (pieces 2 2 (1 ∷ 2 ∷ 3 ∷ 4 ∷ 5 ∷ []) ≡ (1 ∷ 2 ∷ []) ∷ (3 ∷ 4 ∷ []) ∷ [])
    × (gather (λ c. c ∷ []) 3 ≡ 0 ∷ 1 ∷ 2 ∷ [])
    × (every all_zero ((0 ∷ []) ∷ (0 ∷ 1 ∷ []) ∷ []) ≡ false) × (every all_zero ((0 ∷ []) ∷ (0 ∷ 0 ∷ []) ∷ []) ≡ true)
unfolding computing_digits
buffers = (refl, refl, refl, refl, refl, refl)

-- a bit that is set stays set, one that is clear stays clear
bits : (with_bit 3 0 ≡ 8) × (with_bit 3 9 ≡ 9) × (without_bit 0 9 ≡ 8) × (without_bit 1 9 ≡ 9)
unfolding computing_digits
bits = (refl, refl, refl, refl)

-- a set has bit c for c, the lowest first, and is marked at one place alone
sets :
    (bits_of (λ c. true) 16 ≡ 0xffff) × (bits_of (λ c. eqb c 3) 16 ≡ 8) × (bits_of (λ c. leb 15 c) 16 ≡ 0x8000)
    × (marked true 15 8 ≡ 0x8008) × (marked false 3 0x8008 ≡ 0x8000) × (marked true 3 8 ≡ 8) × (marked false 2 8 ≡ 8)
unfolding computing_digits
sets = (refl, refl, refl, refl, refl, refl, refl)

-- the bits that are set are as many as the channels in the set
counted :
    (bits_set 0 ≡ 0) × (bits_set 0xffff ≡ 16) × (bits_set 0x400b ≡ 4) × (bits_set 0x8000 ≡ 1) × (how_many (λ c. leb 12 c) 16 ≡ 4)
unfolding computing_digits
counted = (refl, refl, refl, refl, refl)
