-- Powers of ten, digits, and bounds of precisions.
use Rattle.std.proofs.Common.{◌≡◌, ℕ, ◌+◌, ◌-◌, ◌*◌, ◌^◌, ◌<◌, ◌≤◌, ℤ, pos, ◌-ℤ◌}
use Rattle.std.proofs.Common.{FitsSigned, length}
use Rattle.std.proofs.Common.{arith, to_z, of_z, add-one, ◌<ℤ◌}
use Rattle.std.proofs.Common.{Bool, false, true, ◌*ℤ◌, zero, suc, negsuc}
use Rattle.col_decimal.specs.Decimal.{digit_count, is_within, times_ten}
use Rattle.col_decimal.specs.DecimalStep.{signed_limit}
use Rattle.std.specs.Int.{Width, w128}
use Rattle.std.specs.Int.Digits.{digits_of}
use Rattle.std.proofs.Math.Nat.{pow-le-pow_right, pow-succ'}
use Rattle.std.specs.Prelude.{int_div, max, unsigned_abs}
use Rattle.std.specs.Ordering.{int_eq}
use Rattle.std.proofs.lemmas.Bool.Decides.{nat_tests}
use Rattle.std.proofs.lemmas.Int.{ints, quot_fits, to_z-of_z}
use Rattle.std.proofs.lemmas.Int.Digits.{all_below_base_digits_of, length-digits_of-le}
use Rattle.std.proofs.lemmas.Int.Digits.{number_digits_of, number_lt}

-- a larger power of ten is no less
power-le : (i j : ℕ) → i ≤ j → 10 ^ i ≤ 10 ^ j
power-le i j h = pow-le-pow_right {n = 10} (omega arith) h

-- a power of ten of 38 at most has 127 bits
pub power-lt : (k : ℕ) → k ≤ 38 → 10 ^ k < 2 ^ 127
power-lt k h = let small = power-le k 38 h in omega arith

-- it fits
pub power_fits : (k : ℕ) → k ≤ 38 → FitsSigned w128 (pos (10 ^ k))
power_fits k h = record { sfits = power-lt k h }

-- a power of ten is not 0
pub power_pos : (k : ℕ) → 0 < 10 ^ k
power_pos k = let some = power-le 0 k (omega arith) in omega arith

-- one less than a power of ten, as it is worked out
pub limit_worked : (k : ℕ) (n : ℤ) → k ≤ 38 → n ≡ pos (10 ^ k)
    → to_z w128 (of_z w128 (to_z w128 (of_z w128 n) -ℤ pos 1)) ≡ pos (10 ^ k - 1)
limit_worked k n h e =
    let small = power-lt k h in
    let some = power_pos k in
    rw e (omega (arith, ints))

-- a division by a power of ten goes well, in any width that has both numbers
pub quotient_worked : (w : Width) (n d : ℤ) (k : ℕ) → FitsSigned w n → FitsSigned w d
    → d ≡ pos (10 ^ k)
    → (0 < of_z w d) × FitsSigned w (int_div (to_z w (of_z w n)) (to_z w (of_z w d)))
quotient_worked w n d k f g e =
    let some = power_pos k in
    let above : pos 0 <ℤ d = rw e (omega (arith, ints)) in
    rw (to_z-of_z w n f, to_z-of_z w d g) (rw e (omega arith), quot_fits w n d f above)

-- a number is below the power of ten of its digits
pub digits-lt : (n : ℕ) → n < 10 ^ length (digits_of 10 n)
digits-lt n =
    let below = number_lt 10 (digits_of 10 n) (all_below_base_digits_of 10 n (omega arith)) in
    rw (number_digits_of 10 n (omega arith)) at below

-- a power of ten that is below another one has the lesser exponent
power_order : (i j : ℕ) → 10 ^ i < 10 ^ j → i < j
power_order i j h = grind (arith, power-le)

-- the exponent after, by its law
power_next : (k : ℕ) → 10 ^ (k + 1) ≡ 10 * 10 ^ k
power_next k = rw add-one (pow-succ' 10 k)

-- a number between two powers of ten has the digits of the larger one
pub digits_between : (n k : ℕ) → 10 ^ k ≤ n → n < 10 * 10 ^ k → length (digits_of 10 n) ≡ k + 1
digits_between n k low high =
    let next = power_next k in
    let most : length (digits_of 10 n) ≤ k + 1 =
    length-digits_of-le 10 (k + 1) n (omega arith) (omega arith) in
    let below = digits-lt n in
    let least = power_order k (length (digits_of 10 n)) (omega arith) in
    omega arith

-- a larger number has no fewer digits
digits-le : (m n : ℕ) → m ≤ n → length (digits_of 10 m) ≤ length (digits_of 10 n)
digits-le m n h =
    let below = digits-lt n in
    length-digits_of-le 10 (length (digits_of 10 n)) m (omega arith) (omega arith)

-- the larger of two numbers has the larger count of digits
pub digits-max : (m n : ℕ)
    → length (digits_of 10 (max m n)) ≡ max (length (digits_of 10 m)) (length (digits_of 10 n))
digits-max m n = grind (arith, digits-le)

-- a number within a precision has no more digits
pub within-digits : (precision : ℕ) (n : ℤ) → is_within precision n ≡ true
    → digit_count n ≤ precision
within-digits precision n h =
    let some = power_pos precision in
    let below : unsigned_abs n < 10 ^ precision = grind (arith, nat_tests) in
    length-digits_of-le 10 precision (unsigned_abs n) (omega arith) below

-- a number with no more digits than a precision lies within it
pub digits-within : (precision : ℕ) (n : ℤ) → digit_count n ≤ precision
    → is_within precision n ≡ true
digits-within precision n h =
    let below = digits-lt (unsigned_abs n) in
    let least = power-le (digit_count n) precision h in
    let most : unsigned_abs n ≤ 10 ^ precision - 1 = omega arith in
    grind (arith, nat_tests)

-- the limit of a precision lies within it, and so does its negative
pub signed_limit-within : (precision : ℕ) (is_negative : Bool)
    → is_within precision (signed_limit precision is_negative) ≡ true
signed_limit-within precision false = grind (arith, ints, nat_tests)
signed_limit-within precision true = grind (arith, ints, nat_tests)

-- a number times a power of ten is 0 exactly where it is
pub times_zero : (n : ℤ) (k : ℕ) → int_eq (times_ten n k) (pos 0) ≡ int_eq n (pos 0)
times_zero n k = by_sign n (10 ^ k) (power_pos k) where
  by_sign : (n : ℤ) (m : ℕ) → 0 < m → int_eq (n *ℤ pos m) (pos 0) ≡ int_eq n (pos 0)
  by_sign (pos zero) m h = grind (arith, ints, nat_tests)
  by_sign (pos (suc n)) m h = grind (arith, ints, nat_tests)
  by_sign (negsuc n) m h = grind (arith, ints, nat_tests)
