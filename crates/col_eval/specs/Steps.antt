-- What a step on columns answers, by its row of the table of steps.
use Rattle.std.specs.Prelude.{Option, Some, None, Result, Ok, Err, replicate, if◌then◌else◌, ◌==◌}
use Rattle.col_model.specs.Cell.{Cell, Cause}
use Rattle.col_model.specs.WholeStep.{each_row}
use Rattle.col_types.specs.DataKind.{DataKind}
use Rattle.col_types.specs.Column.{Column, column_answer, row_count}
use Rattle.col_types.specs.declared.error.Error.{Error}
use Rattle.col_types.specs.declared.error.Error.TheVariants.{InvalidArgumentError}
use Rattle.col_types.specs.declared.error.Error.TheVariants.{NotYetImplemented}
use Rattle.col_types.specs.declared.error.Reason.TheVariants.{Lengths}
use Rattle.col_eval.specs.declared.expr.Op.{Op}
use Rattle.col_decimal.specs.DecimalStep.{DecimalForm, DecimalOperation, decimal_answer}
use Rattle.col_decimal.specs.DecimalStep.{decimal_scalar_answer, plain}
use Rattle.col_eval.specs.Entries.{Entry, beside_literal, entry_of}

-- a refusal of the types, else what is answered with a type
abbrev pub with_type : Result DataKind Error → (DataKind → Result Column Error)
    → Result Column Error
with_type (Err e) answer = Err e
with_type (Ok t) answer = answer t

-- what is answered with a type for two columns: the refusal of their lengths, else the step at each
-- row
abbrev pub rows_answer : (Cell → Cell → Result Cell Cause) → Column → Column → DataKind
    → Result Column Error
rows_answer step left right t =
    if row_count left == row_count right
    then column_answer t (each_row step left.cells right.cells)
    else Err (InvalidArgumentError Lengths)

-- what a step with a row answers for two columns: the refusal of their types, then that of their
-- lengths, then the step at each row; without a row it is refused
abbrev pub entry_answer : Option Entry → Column → Column → Result Column Error
entry_answer None left right = Err NotYetImplemented
entry_answer (Some entry) left right =
    with_type entry.answer_type (rows_answer entry.step left right)

-- what a step answers for two columns
abbrev pub step_answer : Op → Column → Column → Result Column Error
step_answer op left right = entry_answer (entry_of op left.data_type right.data_type) left right

-- a column of one cell at so many rows
abbrev pub constant_column : DataKind → Cell → Column → Column
constant_column t cell beside = record { data_type = t; cells = replicate (row_count beside) cell }

-- what a step answers for a column and a scalar of a type: the scalar's cell stands beside each
-- row, and a row that takes no literal is none
abbrev pub scalar_step_answer : Op → Column → DataKind → Cell → Result Column Error
scalar_step_answer op left t cell =
    entry_answer (beside_literal (entry_of op left.data_type t)) left (constant_column t cell left)

-- what the kernel of an operation and a form answers for two columns of decimals
abbrev pub decimals_answer : Option DecimalOperation → Option DecimalForm → Column → Column
    → Result Column Error
decimals_answer (Some operation) (Some form) left right =
    decimal_answer operation form left right
decimals_answer _ _ left right = Err NotYetImplemented

-- the same for a column and a scalar, which the plain form alone has
abbrev pub decimals_scalar_answer : Option DecimalOperation → Option DecimalForm → Column
    → DataKind → Cell → Result Column Error
decimals_scalar_answer (Some operation) (Some plain) left t cell =
    decimal_scalar_answer operation plain left t cell
decimals_scalar_answer _ _ left t cell = Err NotYetImplemented
