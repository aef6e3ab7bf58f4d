-- What the operators answer for a column beside an array, or beside a number.
use Rattle.std.specs.Prelude.{ℤ, Bool, List, Result}
use Rattle.col_model.specs.Cell.{whole}
use Rattle.col_model.specs.Whole.{WholeType}
use Rattle.col_model.specs.WholeStep.{Form, Operation, whole_step}
use Rattle.col_types.specs.Column.{Column, kernel_answer, scalar_answer}
use Rattle.col_types.specs.declared.error.Error.{Error}
use Rattle.col_flat.specs.Parts.{PrimitiveParts, column_of}
use Rattle.col_basic.specs.Flagged.{flagged_answer, flagged_scalar_answer}
use Rattle.col_decimal.specs.DecimalStep.{DecimalForm, DecimalOperation, decimal_answer}

-- an array stands beside the column, row by row
abbrev pub beside_array : Operation → Form → WholeType → Column → PrimitiveParts
    → Result Column Error
beside_array operation form t left right =
    kernel_answer (whole_step operation form t) left (column_of right)

-- the number that a value stands for is beside each row
abbrev pub beside_number : {T : Type 0} → Operation → Form → WholeType → (T → ℤ) → Column → T
    → Result Column Error
beside_number operation form t value left x =
    scalar_answer (whole_step operation form t) left (whole (value x))

-- the wrapping form, and for each row whether the exact number does not fit
abbrev pub flagged_beside_array : Operation → WholeType → Column → PrimitiveParts
    → Result (Column × List Bool) Error
flagged_beside_array operation t left right = flagged_answer operation t left (column_of right)

-- the same, where the number that a value stands for is beside each row
abbrev pub flagged_beside_number : {T : Type 0} → Operation → WholeType → (T → ℤ) → Column → T
    → Result (Column × List Bool) Error
flagged_beside_number operation t value left x =
    flagged_scalar_answer operation t left (whole (value x))

-- an array of decimals stands beside the column, row by row
abbrev pub beside_decimals : DecimalOperation → DecimalForm → Column → PrimitiveParts
    → Result Column Error
beside_decimals operation form left right = decimal_answer operation form left (column_of right)
