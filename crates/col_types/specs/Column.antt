-- Columns, tables, and what a kernel answers for two columns.
use Rattle.std.specs.Prelude.{ℕ, Bool, ◌==◌, if◌then◌else◌, List, [], ◌∷◌, length, map, replicate}
use Rattle.std.specs.Prelude.{slice_index_or, Result, Ok, Err}
use Rattle.std.specs.List.{list_all}
use Rattle.col_model.specs.Cell.{Cell, null, Cause}
use Rattle.col_model.specs.WholeStep.{each_cell, each_row}
use Rattle.col_types.specs.DataKind.{DataKind}
use Rattle.col_types.specs.declared.error.Error.{Error}
use Rattle.col_types.specs.declared.error.Error.TheVariants.{InvalidArgumentError}
use Rattle.col_types.specs.declared.error.Reason.TheVariants.{Lengths}
use Rattle.col_types.specs.Answer.{error_of}

-- a column: its type, and a cell for each row
pub record Column : Type 0 where
  pub data_type : DataKind
  pub cells : List Cell

-- how many rows a column has
abbrev pub row_count : Column → ℕ
row_count c = length c.cells

-- the rows of a table: those of its first column, and none where it has no column
abbrev pub table_row_count : List Column → ℕ
table_row_count [] = 0
table_row_count (c ∷ columns) = row_count c

-- a list of columns is a table where all have one length
abbrev pub is_table : List Column → Bool
is_table columns = list_all (λ c. row_count c == table_row_count columns) columns

-- the types of the columns, in their order
abbrev pub types_of : List Column → List DataKind
types_of columns = map (λ c. c.data_type) columns

-- the cells of one row, a cell for each column
abbrev pub row_at : List Column → ℕ → List Cell
row_at columns row = map (λ c. slice_index_or c.cells row null) columns

-- a column of the cells, or the error of the cause
abbrev pub column_answer : DataKind → Result (List Cell) Cause → Result Column Error
column_answer t (Ok cells) = Ok (record { data_type = t; cells = cells })
column_answer t (Err cause) = Err (error_of cause)

-- what a kernel answers for two columns: their lengths first, then its step at each row; the answer
-- has the left type
abbrev pub kernel_answer : (Cell → Cell → Result Cell Cause) → Column → Column
    → Result Column Error
kernel_answer step left right =
    if row_count left == row_count right
    then column_answer left.data_type (each_row step left.cells right.cells)
    else Err (InvalidArgumentError Lengths)

-- what a kernel answers for a column and a scalar: the scalar's cell stands beside each row
abbrev pub scalar_answer : (Cell → Cell → Result Cell Cause) → Column → Cell → Result Column Error
scalar_answer step left cell =
    column_answer left.data_type (each_row step left.cells (replicate (row_count left) cell))

-- what a kernel answers for one column: its step at each row; the answer has the column's type
abbrev pub unary_answer : (Cell → Result Cell Cause) → Column → Result Column Error
unary_answer step c = column_answer c.data_type (each_cell step c.cells)
