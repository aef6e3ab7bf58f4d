-- Decimal types, and the digits of their numbers.
use Rattle.std.specs.Prelude.{ℕ, ◌-◌, ◌^◌, nat_le, ◌==◌, ℤ, pos, ◌*ℤ◌, int_div, unsigned_abs}
use Rattle.std.specs.Prelude.{Bool, ◌&&◌, length}
use Rattle.std.specs.Int.{w128}
use Rattle.std.specs.Int.Digits.{digits_of}
use Rattle.col_model.specs.Whole.{WholeType, signed}
use Rattle.col_types.specs.DataKind.{DataKind, decimal}

-- how many digits the numbers of a decimal type may have; those of other types have none
abbrev pub precision_of : DataKind → ℕ
precision_of (decimal precision scale) = precision
precision_of _ = 0

-- how many of these digits stand after the point
abbrev pub scale_of : DataKind → ℕ
scale_of (decimal precision scale) = scale
scale_of _ = 0

-- two decimal types have the same parameters
abbrev pub has_parameters_of : DataKind → DataKind → Bool
has_parameters_of t u = precision_of t == precision_of u && scale_of t == scale_of u

-- the numbers that a column of decimals stores, whatever its precision
abbrev pub stored_type : WholeType
stored_type = signed w128

-- the greatest number of so many digits
abbrev pub decimal_limit : ℕ → ℕ
decimal_limit precision = 10 ^ precision - 1

-- a number has no more digits than that
abbrev pub is_within : ℕ → ℤ → Bool
is_within precision n = nat_le (unsigned_abs n) (decimal_limit precision)

-- how many digits a number has; 0 has none, and -100 has three
abbrev pub digit_count : ℤ → ℕ
digit_count n = length (digits_of 10 (unsigned_abs n))

-- a number with so many zeros put behind it
abbrev pub times_ten : ℤ → ℕ → ℤ
times_ten n zeros = n *ℤ pos (10 ^ zeros)

-- the quotient by a power of ten, toward zero
abbrev pub quotient_by_ten : ℤ → ℕ → ℤ
quotient_by_ten n zeros = int_div n (pos (10 ^ zeros))
