-- Whole numbers bit by bit: a negative number has the bits of two's complement.
use Rattle.std.specs.Prelude.{ℕ, ◌-◌, ◌^◌, ℤ, pos, bit_and, bit_or, bit_xor, unsigned_abs}
use Rattle.std.specs.Int.{int_rem_euclid}
use Rattle.col_model.specs.Whole.{WholeType, bit_count, wrapped_number}

-- the bits of n in a type of width w, read as a number from 0 to 2 ^ w - 1: it differs from n by a
-- multiple of 2 ^ w
abbrev pub bits_of : WholeType → ℤ → ℕ
bits_of t n = unsigned_abs (int_rem_euclid n (pos (2 ^ bit_count t)))

-- the number of the type with these bits
abbrev pub number_of_bits : WholeType → ℕ → ℤ
number_of_bits t m = wrapped_number t (pos m)

-- each bit that is set in one number or in the other
abbrev pub bitwise_or : WholeType → ℤ → ℤ → ℤ
bitwise_or t a b = number_of_bits t (bit_or (bits_of t a) (bits_of t b))

-- each bit that is set in one of the two numbers and not in the other
abbrev pub bitwise_xor : WholeType → ℤ → ℤ → ℤ
bitwise_xor t a b = number_of_bits t (bit_xor (bits_of t a) (bits_of t b))

-- each bit that is set in both numbers
abbrev pub bitwise_and : WholeType → ℤ → ℤ → ℤ
bitwise_and t a b = number_of_bits t (bit_and (bits_of t a) (bits_of t b))

-- each bit that is not set in the number
abbrev pub bitwise_not : WholeType → ℤ → ℤ
bitwise_not t a = number_of_bits t (2 ^ bit_count t - 1 - bits_of t a)
