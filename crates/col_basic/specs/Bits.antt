-- Steps on cells bit by bit, in two's complement.
use Rattle.std.specs.Prelude.{ℤ, Result, Ok}
use Rattle.col_model.specs.Cell.{Cell, null, whole, Cause}
use Rattle.col_model.specs.Whole.{WholeType}
use Rattle.col_model.specs.Bitwise.{bitwise_and, bitwise_not, bitwise_or, bitwise_xor}

-- what is worked out of the numbers of two cells; null beside a cell that is no whole number
abbrev pub on_numbers : (ℤ → ℤ → ℤ) → Cell → Cell → Result Cell Cause
on_numbers result (whole a) (whole b) = Ok (whole (result a b))
on_numbers result _ _ = Ok null

-- each bit that is set in one of two numbers or in both
abbrev pub or_step : WholeType → Cell → Cell → Result Cell Cause
or_step t = on_numbers (bitwise_or t)

-- each bit that is set in one of two numbers alone
abbrev pub xor_step : WholeType → Cell → Cell → Result Cell Cause
xor_step t = on_numbers (bitwise_xor t)

-- each bit that is set in both numbers
abbrev pub and_step : WholeType → Cell → Cell → Result Cell Cause
and_step t = on_numbers (bitwise_and t)

-- each bit that is not set in a number
abbrev pub not_step : WholeType → Cell → Result Cell Cause
not_step t (whole n) = Ok (whole (bitwise_not t n))
not_step t _ = Ok null
