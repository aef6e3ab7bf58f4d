-- A number of a type is that of its bits, and bits that are turned or changed twice are as before.
use Rattle.std.proofs.Common.{◌≡◌, ℕ, ◌*◌, ◌-◌, ◌^◌, ◌<◌, ℤ, pos, negsuc, ◌-ℤ◌, ◌+ℤ◌, Bool, true}
use Rattle.std.proofs.Common.{false, refl, ap, ◌∙◌, arith, mod-lt}
use Rattle.std.specs.Prelude.{bit_xor, int_le, unsigned_abs}
use Rattle.std.specs.Int.Bits.{xor_assoc, xor_self, xor_zero_r}
use Rattle.std.proofs.lemmas.Int.{ints, int_rem_euclid_is}
use Rattle.std.proofs.lemmas.Nat.{pow_pos, xor_lt}
use Rattle.std.proofs.Math.Nat.{mod-eq_of_lt}
use Rattle.col_model.specs.Bitwise.{bits_of, bitwise_not, bitwise_xor, number_of_bits}
use Rattle.col_model.specs.Whole.{WholeType, bit_count, greatest_number, is_fitting}
use Rattle.col_model.specs.Whole.{lowered_into}
use Rattle.col_basic.proofs.FormLemmas.{wrapped-fitting}

-- the bits of a number are below 2 ^ w
bits_of-lt : (t : WholeType) (n : ℤ) → bits_of t n < 2 ^ bit_count t
bits_of-lt t (pos n) = mod-lt n (pow_pos (bit_count t))
bits_of-lt t (negsuc n) = let some = pow_pos (bit_count t) in omega arith

-- what is taken off and put back once
put_back : (m n : ℕ) → (pos m -ℤ pos n) +ℤ pos (1 * n) ≡ pos m
put_back m n = omega (arith, ints)

-- lowering a number into a type keeps its bits
bits_of-lowered : (t : WholeType) (m : ℕ) (low : Bool) → m < 2 ^ bit_count t
    → int_le (pos m) (greatest_number t) ≡ low → bits_of t (lowered_into t (pos m)) ≡ m
bits_of-lowered t m true h e = rw e (mod-eq_of_lt h)
bits_of-lowered t m false h e =
    let n = 2 ^ bit_count t in
    let some = pow_pos (bit_count t) in
    let same = int_rem_euclid_is (pos m -ℤ pos n) (pos n) n 1 m some refl (put_back m n) in
    rw e (ap unsigned_abs same ∙ mod-eq_of_lt h)

-- the number of some bits has these bits
bits_of-number : (t : WholeType) (m : ℕ) → m < 2 ^ bit_count t
    → bits_of t (number_of_bits t m) ≡ m
bits_of-number t m h = rw (mod-eq_of_lt h) (bits_of-lowered t m _ h refl)

-- a number that fits is that of its bits
number-bits_of : (t : WholeType) (n : ℤ) → is_fitting t n ≡ true
    → number_of_bits t (bits_of t n) ≡ n
number-bits_of t (pos k) f =
    rw (mod-eq_of_lt (bits_of-lt t (pos k))) (wrapped-fitting t (pos k) f)
number-bits_of t (negsuc k) f =
    rw (mod-eq_of_lt (bits_of-lt t (negsuc k))) (wrapped-fitting t (negsuc k) f)

-- a number that is taken off twice
taken_twice : (top n : ℕ) → n < top → top - 1 - (top - 1 - n) ≡ n
taken_twice top n h = omega arith

-- bits that are turned twice
pub not_twice : (t : WholeType) (n : ℤ) → is_fitting t n ≡ true
    → bitwise_not t (bitwise_not t n) ≡ n
not_twice t n f =
    let small = bits_of-lt t n in
    let back = taken_twice (2 ^ bit_count t) (bits_of t n) small in
    ap (λ (k : ℕ). number_of_bits t (2 ^ bit_count t - 1 - k)) (bits_of-number t _ (omega arith))
    ∙ ap (number_of_bits t) back ∙ number-bits_of t n f

-- bits that are changed where those of m are set, twice
changed_twice : (n m : ℕ) → bit_xor (bit_xor n m) m ≡ n
changed_twice n m = rw (xor_assoc n m m, xor_self m) (xor_zero_r n)

-- bits that are changed twice where others are set
pub xor_twice : (t : WholeType) (a b : ℤ) → is_fitting t a ≡ true
    → bitwise_xor t (bitwise_xor t a b) b ≡ a
xor_twice t a b f =
    let small = xor_lt (bit_count t) _ _ (bits_of-lt t a) (bits_of-lt t b) in
    let back = changed_twice (bits_of t a) (bits_of t b) in
    ap (λ (k : ℕ). number_of_bits t (bit_xor k (bits_of t b))) (bits_of-number t _ small)
    ∙ ap (number_of_bits t) back ∙ number-bits_of t a f
