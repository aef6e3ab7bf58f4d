-- What the overflowing forms answer: the column of the wrapping form, and a flag for each row.
use Rattle.std.specs.Prelude.{Bool, List, map, zip, Result}
use Rattle.col_model.specs.Cell.{Cell}
use Rattle.col_model.specs.Whole.{WholeType}
use Rattle.col_model.specs.WholeStep.{Operation, wrapping, is_flagged, whole_step}
use Rattle.col_types.specs.Column.{Column, kernel_answer, scalar_answer}
use Rattle.col_types.specs.declared.error.Error.{Error}
use Rattle.col_arity.specs.Answered.{beside_flags}

-- for two columns: the flag of a row tells whether the exact number does not fit
abbrev pub flagged_answer : Operation → WholeType → Column → Column
    → Result (Column × List Bool) Error
flagged_answer operation t left right =
    beside_flags (map (λ row. is_flagged operation t row.0 row.1) (zip left.cells right.cells))
    (kernel_answer (whole_step operation wrapping t) left right)

-- for a column and a cell that stands beside each row
abbrev pub flagged_scalar_answer : Operation → WholeType → Column → Cell
    → Result (Column × List Bool) Error
flagged_scalar_answer operation t left cell =
    beside_flags (map (λ a. is_flagged operation t a cell) left.cells)
    (scalar_answer (whole_step operation wrapping t) left cell)
