-- What a tree gives for one row, and for a table.
use Rattle.std.specs.Prelude.{ℕ, ◌+◌, nat_le, if◌then◌else◌, List, [], ◌∷◌, map, slice_index_or}
use Rattle.std.specs.Prelude.{Result, Ok, Err}
use Rattle.std.specs.List.{range_with_len}
use Rattle.col_model.specs.Cell.{Cell, null, Cause}
use Rattle.col_types.specs.Answer.{error_of}
use Rattle.col_types.specs.Column.{Column, row_at, table_row_count, types_of}
use Rattle.col_types.specs.DataKind.{DataKind}
use Rattle.col_types.specs.declared.error.Error.{Error}
use Rattle.col_eval.specs.declared.expr.Op.{Op}
use Rattle.col_eval.specs.Entries.{entry_cell, entry_of}
use Rattle.col_eval.specs.Tree.{Tree, column, literal, step, step_count}
use Rattle.col_eval.specs.Typing.{right_type, type_of, typing_of}

-- what one row gives: a cell, or the number of the step that refuses it, with the cause
pub data RowAnswer : Type 0 where
  cell : Cell → RowAnswer
  refused_at : ℕ → Cause → RowAnswer

-- a step on two cells, by the types of its operands; an operand without a type leaves the tree
-- without one, and then no row is asked
abbrev pub step_of : Op → Result DataKind Error → Result DataKind Error → Cell → Cell
    → Result Cell Cause
step_of op (Ok s) (Ok t) a b = entry_cell (entry_of op s t) a b
step_of op (Ok s) (Err e) a b = Ok null
step_of op (Err e) t a b = Ok null

-- the step of this number gives a cell or refuses the row
abbrev pub at_step : ℕ → Result Cell Cause → RowAnswer
at_step number (Ok c) = cell c
at_step number (Err cause) = refused_at number cause

-- the same answer of a tree in front of whose steps there are so many others
abbrev pub behind : ℕ → RowAnswer → RowAnswer
behind count (cell c) = cell c
behind count (refused_at number cause) = refused_at (count + number) cause

-- a refusal stands; else one goes on from the cell
abbrev pub going_on : RowAnswer → (Cell → RowAnswer) → RowAnswer
going_on (cell c) next = next c
going_on (refused_at number cause) next = refused_at number cause

-- the meaning of a tree for the cells of one row: left operand, right operand, then the step. Steps
-- are numbered from 0 in that order, each behind those of its operands
abbrev pub row_meaning : Tree → List DataKind → List Cell → RowAnswer
row_meaning (column position) types cells = cell (slice_index_or cells position null)
row_meaning (literal t c) types cells = cell c
row_meaning (step op left right) types cells =
    going_on (row_meaning left types cells) (λ a.
    going_on (behind (step_count left) (row_meaning right types cells)) (λ b.
    at_step (step_count left + step_count right)
    (step_of op (type_of left types) (right_type right (type_of right types)) a b)))

-- what all rows give: a cell for each, or one refusal
pub data RowsAnswer : Type 0 where
  all_cells : List Cell → RowsAnswer
  refusal : ℕ → Cause → RowsAnswer

-- a row's cell in front of what the rows below give: a refusal below stands
abbrev pub in_front : Cell → RowsAnswer → RowsAnswer
in_front c (all_cells cells) = all_cells (c ∷ cells)
in_front c (refusal number cause) = refusal number cause

-- a row's refusal in front of what the rows below give: the one at the lesser step stands, and of
-- two at one step the upper row's
abbrev pub sooner : ℕ → Cause → RowsAnswer → RowsAnswer
sooner number cause (all_cells cells) = refusal number cause
sooner number cause (refusal other below) =
    if nat_le number other then refusal number cause else refusal other below

-- all rows together: their cells, or the refusal at the least step, and of those at one step at the
-- least row
abbrev pub gathered : List RowAnswer → RowsAnswer
gathered [] = all_cells []
gathered (cell c ∷ rows) = in_front c (gathered rows)
gathered (refused_at number cause ∷ rows) = sooner number cause (gathered rows)

-- the cells of each row of a table, from the first
abbrev pub rows_of : List Column → List (List Cell)
rows_of table = map (row_at table) (range_with_len 0 (table_row_count table))

-- a column of the cells, or the error of the refusal's cause
abbrev pub rows_column : DataKind → RowsAnswer → Result Column Error
rows_column t (all_cells cells) = Ok (record { data_type = t; cells = cells })
rows_column t (refusal number cause) = Err (error_of cause)

-- a typing refusal, else what the rows give together
abbrev pub typed_rows : Result DataKind Error → RowsAnswer → Result Column Error
typed_rows (Err e) rows = Err e
typed_rows (Ok t) rows = rows_column t rows

-- what all rows of a table give together
abbrev pub rows_meaning : Tree → List Column → RowsAnswer
rows_meaning tree table = gathered (map (row_meaning tree (types_of table)) (rows_of table))

-- what a tree gives for a table
abbrev pub outcome_of : Tree → List Column → Result Column Error
outcome_of tree table = typed_rows (typing_of tree (types_of table)) (rows_meaning tree table)
