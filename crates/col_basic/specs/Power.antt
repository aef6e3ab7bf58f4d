-- A power of a cell.
use Rattle.std.specs.Prelude.{ℕ, if◌then◌else◌, Result, Ok}
use Rattle.std.specs.Int.{int_pow}
use Rattle.col_model.specs.Cell.{Cell, null, whole, Cause}
use Rattle.col_model.specs.Whole.{WholeType, is_fitting}

-- a whole number to a power, and null where that does not fit; a number to the power 0 is 1, 0 too
abbrev pub checked_power : WholeType → ℕ → Cell → Result Cell Cause
checked_power t exponent (whole n) =
    Ok (if is_fitting t (int_pow n exponent) then whole (int_pow n exponent) else null)
checked_power t exponent _ = Ok null
