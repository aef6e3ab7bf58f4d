-- One step on two cells of decimals, by operation, form and type.
use Rattle.std.specs.Prelude.{ℕ, ℤ, pos, neg_ℤ, ◌+ℤ◌, ◌-ℤ◌, ◌*ℤ◌, int_div, int_lt, Bool, false, not}
use Rattle.std.specs.Prelude.{◌&&◌, if◌then◌else◌, Option, Some, None, Result, Ok, Err}
use Rattle.std.specs.Ordering.{int_eq}
use Rattle.col_model.specs.Cell.{Cell, null, whole, Cause, overflow, divide_by_zero}
use Rattle.col_model.specs.Whole.{is_fitting}
use Rattle.col_types.specs.Column.{Column, kernel_answer, scalar_answer}
use Rattle.col_types.specs.DataKind.{DataKind}
use Rattle.col_types.specs.declared.error.Error.{Error}
use Rattle.col_types.specs.declared.error.Error.TheVariants.{InvalidArgumentError}
use Rattle.col_types.specs.declared.error.Reason.TheVariants.{Parameters}
use Rattle.col_decimal.specs.Decimal.{decimal_limit, has_parameters_of, is_within, precision_of}
use Rattle.col_decimal.specs.Decimal.{quotient_by_ten, scale_of, stored_type, times_ten}

-- what is worked out
pub data DecimalOperation : Type 0 where
  addition : DecimalOperation
  subtraction : DecimalOperation
  multiplication : DecimalOperation
  division : DecimalOperation

-- what is done where the result has too many digits: the row is refused, or its cell is null, or
-- the limit of the type with the result's sign
pub data DecimalForm : Type 0 where
  plain : DecimalForm
  checked : DecimalForm
  saturating : DecimalForm

-- the exact number that has to be one of 128 bits: the sum, the difference, the product, or the
-- dividend with the zeros of the scale behind it
abbrev pub worked_number : DecimalOperation → ℕ → ℤ → ℤ → ℤ
worked_number addition scale a b = a +ℤ b
worked_number subtraction scale a b = a -ℤ b
worked_number multiplication scale a b = a *ℤ b
worked_number division scale a b = times_ten a scale

-- the result, in units of the scale: 1.50 by 0.25 is 150 by 25 at the scale 2, so 37, for 0.37; and
-- 150 divided by 25 is 600, for 6.00
abbrev pub decimal_result : DecimalOperation → ℕ → ℤ → ℤ → ℤ
decimal_result addition scale a b = a +ℤ b
decimal_result subtraction scale a b = a -ℤ b
decimal_result multiplication scale a b = quotient_by_ten (a *ℤ b) scale
decimal_result division scale a b = int_div (times_ten a scale) b

-- a quotient by 0, of which there is none
abbrev pub is_by_zero : DecimalOperation → ℤ → Bool
is_by_zero addition b = false
is_by_zero subtraction b = false
is_by_zero multiplication b = false
is_by_zero division b = int_eq b (pos 0)

-- two numbers of which one is negative and the other is not
abbrev pub has_two_signs : ℤ → ℤ → Bool
has_two_signs a b = if int_lt a (pos 0) then not (int_lt b (pos 0)) else int_lt b (pos 0)

-- a result that is not 0 is negative
abbrev pub is_negative_result : DecimalOperation → ℤ → ℤ → Bool
is_negative_result addition a b = int_lt (a +ℤ b) (pos 0)
is_negative_result subtraction a b = int_lt (a -ℤ b) (pos 0)
is_negative_result multiplication a b = has_two_signs a b
is_negative_result division a b = has_two_signs a b

-- the result is a number of the precision, and nothing on the way to it passed 128 bits
abbrev pub is_decimal_result : DecimalOperation → ℕ → ℕ → ℤ → ℤ → Bool
is_decimal_result operation precision scale a b =
    is_fitting stored_type (worked_number operation scale a b)
    && is_within precision (decimal_result operation scale a b)

-- the result where there is one and it is a number of the precision, else none
abbrev pub checked_decimal : DecimalOperation → ℕ → ℕ → ℤ → ℤ → Option ℤ
checked_decimal operation precision scale a b =
    if is_by_zero operation b then None
    else (if is_decimal_result operation precision scale a b
    then Some (decimal_result operation scale a b) else None)

-- what a form gives for a divisor of 0
abbrev pub by_zero_decimal : DecimalForm → Result Cell Cause
by_zero_decimal plain = Err divide_by_zero
by_zero_decimal checked = Ok null
by_zero_decimal saturating = Err divide_by_zero

-- the limit of a precision, with a sign
abbrev pub signed_limit : ℕ → Bool → ℤ
signed_limit precision is_negative =
    if is_negative then neg_ℤ (pos (decimal_limit precision)) else pos (decimal_limit precision)

-- what a form gives for a result that is no number of the precision
abbrev pub overflow_decimal : DecimalForm → ℕ → Bool → Result Cell Cause
overflow_decimal plain precision is_negative = Err overflow
overflow_decimal checked precision is_negative = Ok null
overflow_decimal saturating precision is_negative = Ok (whole (signed_limit precision is_negative))

-- what a form gives where there is no result, or none that is a number of the precision
abbrev pub unfit_decimal : DecimalOperation → DecimalForm → ℕ → ℤ → ℤ → Result Cell Cause
unfit_decimal operation form precision a b =
    if is_by_zero operation b then by_zero_decimal form
    else overflow_decimal form precision (is_negative_result operation a b)

-- a step on two cells of one type: a divisor of 0 comes before what fits; a null beside anything
-- gives null, and no refusal, and so does a cell that is no whole number
abbrev pub decimal_step : DecimalOperation → DecimalForm → ℕ → ℕ → Cell → Cell
    → Result Cell Cause
decimal_step operation form precision scale (whole a) (whole b) =
    if is_by_zero operation b then by_zero_decimal form
    else (if is_decimal_result operation precision scale a b
    then Ok (whole (decimal_result operation scale a b))
    else overflow_decimal form precision (is_negative_result operation a b))
decimal_step operation form precision scale _ _ = Ok null

-- the answer, where both types have the same parameters
abbrev pub for_one_type : DataKind → DataKind → Result Column Error → Result Column Error
for_one_type left right answer =
    if has_parameters_of left right then answer else Err (InvalidArgumentError Parameters)

-- what a kernel answers for two columns: their parameters first, then their lengths, then its step
-- at each row
abbrev pub decimal_answer : DecimalOperation → DecimalForm → Column → Column
    → Result Column Error
decimal_answer operation form left right =
    for_one_type left.data_type right.data_type
    (kernel_answer
    (decimal_step operation form (precision_of left.data_type) (scale_of left.data_type))
    left right)

-- what a kernel answers for a column and a scalar of a type: the parameters first, then its step at
-- each row, beside the scalar's cell
abbrev pub decimal_scalar_answer : DecimalOperation → DecimalForm → Column → DataKind → Cell
    → Result Column Error
decimal_scalar_answer operation form left t cell =
    for_one_type left.data_type t
    (scalar_answer
    (decimal_step operation form (precision_of left.data_type) (scale_of left.data_type))
    left cell)
