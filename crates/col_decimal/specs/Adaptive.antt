-- Steps on decimals of any two types, whose answer has as many digits as its numbers need.
use Rattle.std.specs.Prelude.{ℕ, ◌+◌, ◌-◌, max, nat_le, ◌==◌, ℤ, ◌&&◌, if◌then◌else◌, List, [], ◌∷◌}
use Rattle.std.specs.Prelude.{Option, Some, None, Result, Ok, Err}
use Rattle.col_model.specs.Cell.{Cell, null, whole, Cause, overflow, divide_by_zero}
use Rattle.col_model.specs.Whole.{is_fitting}
use Rattle.col_model.specs.WholeStep.{each_row}
use Rattle.col_types.specs.Answer.{error_of}
use Rattle.col_types.specs.Column.{Column, row_count}
use Rattle.col_types.specs.DataKind.{DataKind, decimal}
use Rattle.col_types.specs.declared.error.Error.{Error}
use Rattle.col_types.specs.declared.error.Error.TheVariants.{InvalidArgumentError}
use Rattle.col_types.specs.declared.error.Reason.TheVariants.{Lengths, Parameters}
use Rattle.col_decimal.specs.Decimal.{digit_count, precision_of, scale_of, stored_type, times_ten}
use Rattle.col_decimal.specs.DecimalStep.{DecimalOperation, decimal_step, is_by_zero, plain}

-- the scale of the answer for two types: the larger one
abbrev pub adaptive_scale : DataKind → DataKind → ℕ
adaptive_scale left right = max (scale_of left) (scale_of right)

-- the digits that the answer for two types has at least: the more before the point, and the more
-- after it
abbrev pub first_precision : DataKind → DataKind → ℕ
first_precision left right =
    max (precision_of left - scale_of left) (precision_of right - scale_of right)
    + adaptive_scale left right

-- a number of a scale in units of a larger one
abbrev pub at_scale : ℕ → ℕ → ℤ → ℤ
at_scale scale larger n = times_ten n (larger - scale)

-- numbers of two scales in units of the larger one, where both fit 128 bits, else none
abbrev pub brought_numbers : ℕ → ℕ → ℤ → ℤ → Option (ℤ × ℤ)
brought_numbers scale other a b =
    if is_fitting stored_type (at_scale scale (max scale other) a)
    && is_fitting stored_type (at_scale other (max scale other) b)
    then Some (at_scale scale (max scale other) a, at_scale other (max scale other) b)
    else None

-- the plain step at 38 digits on two numbers of one scale, and overflow where there are none
abbrev pub brought_step : DecimalOperation → ℕ → Option (ℤ × ℤ) → Result Cell Cause
brought_step operation scale None = Err overflow
brought_step operation scale (Some p) =
    decimal_step operation plain 38 scale (whole p.0) (whole p.1)

-- a step on two cells of any two scales: a divisor of 0 comes first; then each number is brought to
-- the larger scale, and the step is the plain one there; a null beside anything gives null, and so
-- does a cell that is no whole number
abbrev pub adaptive_step : DecimalOperation → ℕ → ℕ → Cell → Cell → Result Cell Cause
adaptive_step operation scale other (whole a) (whole b) =
    if is_by_zero operation b then Err divide_by_zero
    else brought_step operation (max scale other) (brought_numbers scale other a b)
adaptive_step operation scale other _ _ = Ok null

-- the digits of the longest number; a null has none
abbrev pub most_digits : List Cell → ℕ
most_digits [] = 0
most_digits (whole n ∷ cells) = max (digit_count n) (most_digits cells)
most_digits (_ ∷ cells) = most_digits cells

-- a column of the cells, in a type with enough digits for each, or the error of the cause
abbrev pub adaptive_column : ℕ → ℕ → Result (List Cell) Cause → Result Column Error
adaptive_column precision scale (Ok cells) =
    Ok (record { data_type = decimal (max precision (most_digits cells)) scale; cells = cells })
adaptive_column precision scale (Err cause) = Err (error_of cause)

-- what an adaptive kernel answers for two columns: first whether the precision that the types alone
-- ask for is one, then their lengths, then its step at each row
abbrev pub adaptive_answer : DecimalOperation → Column → Column → Result Column Error
adaptive_answer operation left right =
    if nat_le (first_precision left.data_type right.data_type) 38
    then (if row_count left == row_count right
    then adaptive_column (first_precision left.data_type right.data_type)
    (adaptive_scale left.data_type right.data_type)
    (each_row (adaptive_step operation (scale_of left.data_type) (scale_of right.data_type))
    left.cells right.cells)
    else Err (InvalidArgumentError Lengths))
    else Err (InvalidArgumentError Parameters)
