-- Lemmas on the bits of numbers.
use Rattle.std.proofs.Common.{◌≡◌, ℕ, zero, suc, ◌+◌, ◌-◌, ◌*◌, ◌/◌, ◌%◌, ◌^◌, ◌<◌, ◌≤◌, Bool, true}
use Rattle.std.proofs.Common.{false, cond, eqb, List, [], ◌∷◌, length, get_or, sym, ap, ◌∙◌, arith}
use Rattle.std.proofs.Common.{pow-suc, bit_or, max, add-zero, mul_assoc, mul_comm, ap₂, ⊎_elim}
use Rattle.std.proofs.lemmas.Nat.{pow_pos, shr_split, shr-shr, shr_le, or_lt}
use Rattle.std.proofs.lemmas.Nat.Bits.{bit_at_lowest, bit_at-suc, bit_at-zero, bit_at-lt}
use Rattle.std.proofs.lemmas.Nat.Bits.{bit_at_cat_low, bit_at_cat_high, bit_at_or, bit_at_above}
use Rattle.std.proofs.lemmas.Nat.Bits.{same_from_bits_below}
use Rattle.std.proofs.lemmas.Bool.Decides.{nat_tests}
use Rattle.std.proofs.lemmas.Bool.{cases_lt}
use Rattle.std.proofs.Math.Pow.{pow_mono}
use Rattle.std.specs.Int.{bit_at as bit_of}
use Rattle.col_buf.specs.Bitmap.{number_of}

-- a bit is the number of its test
pub digit_of_bit : (n i : ℕ) → cond (eqb (bit_of n i) 1) 1 0 ≡ bit_of n i
digit_of_bit n i = let small : bit_of n i < 2 = bit_at-lt n i in grind (arith, nat_tests)

-- a truth value is the test of its digit
pub test_of_digit : (b : Bool) (n : ℕ) → n ≡ cond b 1 0 → eqb n 1 ≡ b
test_of_digit true n e = ap (λ m. eqb m 1) e
test_of_digit false n e = ap (λ m. eqb m 1) e

-- the bits of a remainder are those of the number
pub bit_of-mod : (n k i : ℕ) → i < k → bit_of (n % 2 ^ k) i ≡ bit_of n i
bit_of-mod n k i h = sym (bit_at_cat_low (n / 2 ^ k) k (n % 2 ^ k) i h)
    ∙ ap (λ m. bit_of m i) (shr_split n k)

-- a shift to the right moves the bits down
pub bit_of-shr : (n k i : ℕ) → bit_of (n / 2 ^ k) i ≡ bit_of n (k + i)
bit_of-shr n k i = ap (λ m. m % 2) (shr-shr n k i)

-- half of a number whose lowest bit is set apart
pub halved : (b : Bool) (m : ℕ) → (cond b 1 0 + 2 * m) / 2 ≡ m
halved true m = omega arith
halved false m = omega arith

-- the lowest bit
pub lowest : (b : Bool) (m : ℕ) → (cond b 1 0 + 2 * m) % 2 ≡ cond b 1 0
lowest true m = omega arith
lowest false m = omega arith

-- the bits of the number are the truth values
pub bit_of-number_of : (truths : List Bool) (i : ℕ) →
    bit_of (number_of truths) i ≡ cond (get_or truths i false) 1 0
bit_of-number_of [] i = bit_at-zero i
bit_of-number_of (b ∷ truths) zero = bit_at_lowest (number_of (b ∷ truths))
    ∙ lowest b (number_of truths)
bit_of-number_of (b ∷ truths) (suc i) = bit_at-suc (number_of (b ∷ truths)) i
    ∙ ap (λ n. bit_of n i) (halved b (number_of truths)) ∙ bit_of-number_of truths i

-- a digit is at most 1
digit_le : (b : Bool) → cond b 1 0 ≤ 1
digit_le true = omega arith
digit_le false = omega arith

-- the number has no more bits than there are truth values
pub number_of-lt : (truths : List Bool) → number_of truths < 2 ^ length truths
number_of-lt [] = omega arith
number_of-lt (b ∷ truths) =
    omega (arith, number_of-lt truths, digit_le b, pow-suc 2 (length truths))

-- and so it is below the power of any greater width
pub number_of-below : (truths : List Bool) (k : ℕ) → length truths ≤ k → number_of truths < 2 ^ k
number_of-below truths k h = omega (arith, number_of-lt truths, pow_mono h)

-- a number with the truth values as its bits is theirs
pub number_from_bits : (n k : ℕ) (truths : List Bool) → n < 2 ^ k → length truths ≤ k →
    ((i : ℕ) → i < k → bit_of n i ≡ cond (get_or truths i false) 1 0) → n ≡ number_of truths
number_from_bits n k truths small short same =
    same_from_bits_below k n (number_of truths) small (number_of-below truths k short)
    (λ i h. same i h ∙ sym (bit_of-number_of truths i))

-- the bits of a number that is shifted to the left: those below are 0
bit_of-shl_low : (n k i : ℕ) → i < k → bit_of (n * 2 ^ k) i ≡ 0
bit_of-shl_low n k i h = ap (λ m. bit_of m i) (sym (add-zero (n * 2 ^ k)))
    ∙ bit_at_cat_low n k 0 i h ∙ bit_at-zero i

-- and the others are those of the number
bit_of-shl_high : (n k i : ℕ) → k ≤ i → bit_of (n * 2 ^ k) i ≡ bit_of n (i - k)
bit_of-shl_high n k i h = ap (λ m. bit_of m i) (sym (add-zero (n * 2 ^ k)))
    ∙ bit_at_cat_high n k 0 i (pow_pos k) h

-- a shift to the left in two steps, at 64 bits
shifted_twice : (high start : ℕ) → high < 2 ^ 8 → start < 8 →
    high * 2 % 2 ^ 64 * 2 ^ (63 - start) ≡ high * 2 ^ (64 - start)
shifted_twice high start small h =
    let whole : high * 2 % 2 ^ 64 ≡ high * 2 = omega arith in
    let k : suc (63 - start) ≡ 64 - start = omega arith in
    ap (λ m. m * 2 ^ (63 - start)) whole ∙ mul_assoc high 2 (2 ^ (63 - start))
    ∙ ap (λ m. high * m) (mul_comm 2 (2 ^ (63 - start)) ∙ sym (pow-suc 2 (63 - start))
    ∙ ap (λ m. 2 ^ m) k)

-- the bit at a place of a word and the byte above it
joined_bit : (low high start i : ℕ) → low < 2 ^ 64 → start < 8 → i < 64 →
    max (bit_of low (start + i)) (bit_of (high * 2 ^ (64 - start)) i) ≡
    bit_of (high * 2 ^ 64 + low) (start + i)
joined_bit low high start i fits h k = ⊎_elim
    (λ (l : start + i < 64). let a = bit_of-shl_low high (64 - start) i (omega arith) in
    let b = bit_at_cat_low high 64 low (start + i) l in omega arith)
    (λ (l : 64 ≤ start + i). let a = bit_of-shl_high high (64 - start) i (omega arith) in
    let b = bit_at_cat_high high 64 low (start + i) fits l in
    let z = bit_at_above low 64 (start + i) fits l in
    let same : bit_of high (i - (64 - start)) ≡ bit_of high (start + i - 64) =
    ap (bit_of high) (omega arith) in
    omega arith)
    (cases_lt (start + i) 64)

-- two shifts and an `or` join a word and the byte above it
pub joined_is : (low high start : ℕ) → low < 2 ^ 64 → high < 2 ^ 8 → start < 8 →
    bit_or (low / 2 ^ start) (high * 2 % 2 ^ 64 * 2 ^ (63 - start) % 2 ^ 64) ≡
    (high * 2 ^ 64 + low) / 2 ^ start % 2 ^ 64
joined_is low high start fits small h =
    let up = high * 2 % 2 ^ 64 * 2 ^ (63 - start) in
    let all = high * 2 ^ 64 + low in
    let a : bit_or (low / 2 ^ start) (up % 2 ^ 64) < 2 ^ 64 =
    or_lt 64 (low / 2 ^ start) (up % 2 ^ 64) (omega (arith, shr_le low start)) (omega arith) in
    let b : all / 2 ^ start % 2 ^ 64 < 2 ^ 64 = omega arith in
    same_from_bits_below 64 (bit_or (low / 2 ^ start) (up % 2 ^ 64)) (all / 2 ^ start % 2 ^ 64) a b
    (λ i k. bit_at_or (low / 2 ^ start) (up % 2 ^ 64) i
    ∙ ap₂ max (bit_of-shr low start i)
    (bit_of-mod up 64 i k ∙ ap (λ m. bit_of m i) (shifted_twice high start small h))
    ∙ joined_bit low high start i fits h k
    ∙ sym (bit_of-mod (all / 2 ^ start) 64 i k ∙ bit_of-shr all start i))
