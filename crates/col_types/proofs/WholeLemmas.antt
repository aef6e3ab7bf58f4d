-- What std's answers on machine numbers are as whole numbers, over the width.
use Rattle.std.proofs.Common.{◌≡◌, ℕ, true, leb, ◌-◌, ◌%◌, ◌^◌, ◌<◌, ℤ, pos, negsuc, ◌*ℤ◌, neg_ℤ}
use Rattle.std.proofs.Common.{FitsSigned, arith, refl, sym, ap, ◌∙◌, mod-lt, to_z, of_z}
use Rattle.std.specs.Prelude.{bit_or, bit_xor}
use Rattle.std.specs.Int.{Width, w8, w16, w32, w64, w128, int_wrap, int_wrapping_mul}
use Rattle.std.specs.Int.{int_wrapping_neg}
use Rattle.std.proofs.lemmas.Bool.Decides.{nat_tests}
use Rattle.std.proofs.lemmas.Int.{ints, wrapping_mul_is, wrapping_neg_is}
use Rattle.std.proofs.lemmas.Nat.{or_lt, xor_lt, pow_pos}
use Rattle.std.proofs.Math.Nat.{mod-eq_of_lt}
use Rattle.col_model.specs.Bitwise.{bits_of, bitwise_or, bitwise_xor, number_of_bits}
use Rattle.col_model.specs.Whole.{WholeType, signed, unsigned, bit_count, lowered_into}
use Rattle.col_model.specs.Whole.{wrapped_number}
use mir.Val.{bits}

-- the number of a type with a sign that has the bits m
lowered-signed : (w : Width) (m : ℕ) → m < 2 ^ bits w → to_z w m ≡ lowered_into (signed w) (pos m)
lowered-signed w8 m h = grind (arith, ints, nat_tests)
lowered-signed w16 m h = grind (arith, ints, nat_tests)
lowered-signed w32 m h = grind (arith, ints, nat_tests)
lowered-signed w64 m h = grind (arith, ints, nat_tests)
lowered-signed w128 m h = grind (arith, ints, nat_tests)

-- std's word for wrapping into a type with a sign says the same
int_wrap-is : (w : Width) (n : ℤ) → int_wrap w n ≡ wrapped_number (signed w) n
unfolding int_wrap
int_wrap-is w (pos n) = lowered-signed w (n % 2 ^ bits w) (mod-lt n (pow_pos (bits w)))
int_wrap-is w (negsuc n) =
    lowered-signed w (2 ^ bits w - 1 - n % 2 ^ bits w) (let some = pow_pos (bits w) in omega arith)

-- a product that wraps in a type with a sign
pub signed_product : (w : Width) (a b : ℤ) → FitsSigned w a → FitsSigned w b
    → int_wrapping_mul w a b ≡ wrapped_number (signed w) (a *ℤ b)
signed_product w a b f g = wrapping_mul_is w a b f g ∙ int_wrap-is w (a *ℤ b)

-- a negative that wraps in a type with a sign
pub signed_negative : (w : Width) (a : ℤ) → FitsSigned w a
    → int_wrapping_neg w a ≡ wrapped_number (signed w) (neg_ℤ a)
signed_negative w a f = wrapping_neg_is w a f ∙ int_wrap-is w (neg_ℤ a)

-- the bits of a number of a type with a sign
bits_of-signed : (w : Width) (a : ℤ) → FitsSigned w a → bits_of (signed w) a ≡ of_z w a
bits_of-signed w8 (pos n) f = let s = f.sfits in omega arith
bits_of-signed w8 (negsuc n) f = let s = f.sfits in omega arith
bits_of-signed w16 (pos n) f = let s = f.sfits in omega arith
bits_of-signed w16 (negsuc n) f = let s = f.sfits in omega arith
bits_of-signed w32 (pos n) f = let s = f.sfits in omega arith
bits_of-signed w32 (negsuc n) f = let s = f.sfits in omega arith
bits_of-signed w64 (pos n) f = let s = f.sfits in omega arith
bits_of-signed w64 (negsuc n) f = let s = f.sfits in omega arith
bits_of-signed w128 (pos n) f = let s = f.sfits in omega arith
bits_of-signed w128 (negsuc n) f = let s = f.sfits in omega arith

-- the bits of a number are below 2 ^ w
bits_of-lt : (t : WholeType) (a : ℤ) → bits_of t a < 2 ^ bit_count t
bits_of-lt t (pos n) = mod-lt n (pow_pos (bit_count t))
bits_of-lt t (negsuc n) = let some = pow_pos (bit_count t) in omega arith

-- the number of a type with a sign that has these bits
number_of_bits-signed : (w : Width) (m : ℕ) → m < 2 ^ bits w
    → to_z w m ≡ number_of_bits (signed w) m
number_of_bits-signed w m h =
    lowered-signed w m h ∙ ap (λ (k : ℕ). lowered_into (signed w) (pos k)) (sym (mod-eq_of_lt h))

-- the bits in either of two numbers of a type with a sign
pub signed_or : (w : Width) (a b : ℤ) → FitsSigned w a → FitsSigned w b
    → to_z w (bit_or (of_z w a) (of_z w b)) ≡ bitwise_or (signed w) a b
signed_or w a b f g =
    let small = or_lt (bits w) _ _ (bits_of-lt (signed w) a) (bits_of-lt (signed w) b) in
    rw (← bits_of-signed w a f, ← bits_of-signed w b g) (number_of_bits-signed w _ small)

-- the bits in just one of two numbers of a type with a sign
pub signed_xor : (w : Width) (a b : ℤ) → FitsSigned w a → FitsSigned w b
    → to_z w (bit_xor (of_z w a) (of_z w b)) ≡ bitwise_xor (signed w) a b
signed_xor w a b f g =
    let small = xor_lt (bits w) _ _ (bits_of-lt (signed w) a) (bits_of-lt (signed w) b) in
    rw (← bits_of-signed w a f, ← bits_of-signed w b g) (number_of_bits-signed w _ small)

-- the number of a type without a sign that has these bits
number_of_bits-unsigned : (w : Width) (m : ℕ) → m < 2 ^ bits w
    → number_of_bits (unsigned w) m ≡ pos m
number_of_bits-unsigned w m h =
    let same : m % 2 ^ bits w ≡ m = mod-eq_of_lt h in
    let top : leb m (2 ^ bits w - 1) ≡ true = grind (arith, nat_tests) in
    rw (same, top) refl

-- the bits in either of two numbers of a type without a sign
unsigned_or : (w : Width) (a b : ℕ) → a < 2 ^ bits w → b < 2 ^ bits w
    → pos (bit_or a b) ≡ bitwise_or (unsigned w) (pos a) (pos b)
unsigned_or w a b f g =
    let small = or_lt (bits w) a b f g in
    rw (mod-eq_of_lt f, mod-eq_of_lt g) (sym (number_of_bits-unsigned w _ small))

-- the bits in just one of two numbers of a type without a sign
unsigned_xor : (w : Width) (a b : ℕ) → a < 2 ^ bits w → b < 2 ^ bits w
    → pos (bit_xor a b) ≡ bitwise_xor (unsigned w) (pos a) (pos b)
unsigned_xor w a b f g =
    let small = xor_lt (bits w) a b f g in
    rw (mod-eq_of_lt f, mod-eq_of_lt g) (sym (number_of_bits-unsigned w _ small))

-- `unsigned_or` at 8 bits: `grind` does not find the width from two numbers
pub or_8 : (a b : ℕ) → a < 2 ^ 8 → b < 2 ^ 8
    → pos (bit_or a b) ≡ bitwise_or (unsigned w8) (pos a) (pos b)
or_8 = unsigned_or w8

-- `unsigned_xor` at 8 bits: `grind` does not find the width from two numbers
pub xor_8 : (a b : ℕ) → a < 2 ^ 8 → b < 2 ^ 8
    → pos (bit_xor a b) ≡ bitwise_xor (unsigned w8) (pos a) (pos b)
xor_8 = unsigned_xor w8

-- `unsigned_or` at 16 bits: `grind` does not find the width from two numbers
pub or_16 : (a b : ℕ) → a < 2 ^ 16 → b < 2 ^ 16
    → pos (bit_or a b) ≡ bitwise_or (unsigned w16) (pos a) (pos b)
or_16 = unsigned_or w16

-- `unsigned_xor` at 16 bits: `grind` does not find the width from two numbers
pub xor_16 : (a b : ℕ) → a < 2 ^ 16 → b < 2 ^ 16
    → pos (bit_xor a b) ≡ bitwise_xor (unsigned w16) (pos a) (pos b)
xor_16 = unsigned_xor w16

-- `unsigned_or` at 32 bits: `grind` does not find the width from two numbers
pub or_32 : (a b : ℕ) → a < 2 ^ 32 → b < 2 ^ 32
    → pos (bit_or a b) ≡ bitwise_or (unsigned w32) (pos a) (pos b)
or_32 = unsigned_or w32

-- `unsigned_xor` at 32 bits: `grind` does not find the width from two numbers
pub xor_32 : (a b : ℕ) → a < 2 ^ 32 → b < 2 ^ 32
    → pos (bit_xor a b) ≡ bitwise_xor (unsigned w32) (pos a) (pos b)
xor_32 = unsigned_xor w32

-- `unsigned_or` at 64 bits: `grind` does not find the width from two numbers
pub or_64 : (a b : ℕ) → a < 2 ^ 64 → b < 2 ^ 64
    → pos (bit_or a b) ≡ bitwise_or (unsigned w64) (pos a) (pos b)
or_64 = unsigned_or w64

-- `unsigned_xor` at 64 bits: `grind` does not find the width from two numbers
pub xor_64 : (a b : ℕ) → a < 2 ^ 64 → b < 2 ^ 64
    → pos (bit_xor a b) ≡ bitwise_xor (unsigned w64) (pos a) (pos b)
xor_64 = unsigned_xor w64

-- for the members of the types with a sign, and of those without one
pub ruleset signed_answers = (signed_product, signed_negative, signed_or, signed_xor)

pub ruleset unsigned_answers = (or_8, xor_8, or_16, xor_16, or_32, xor_32, or_64, xor_64)
