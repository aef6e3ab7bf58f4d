-- The table that is made of a number of rows, the trees over it, and what is written of them.
use Rattle.std.specs.Prelude.{ℕ, ◌+◌, ◌-◌, ◌*◌, ◌%◌, ◌^◌, ◌==◌, pos, ◌-ℤ◌, List, [], ◌∷◌, ◌++◌}
use Rattle.std.specs.Prelude.{nat_le, ◌&&◌, Bool, IsTrue, if◌then◌else◌, codes, map, ℤ, Option}
use Rattle.std.specs.Prelude.{Some, None}
use Rattle.std.specs.Fmt.{decimal}
use Rattle.std.specs.List.{range_with_len}
use Rattle.col_model.specs.Cell.{Cell, null, whole}
use Rattle.col_types.specs.Column.{Column}
use Rattle.col_types.specs.DataKind.{DataKind}
use Rattle.col_types.specs.DataKind as kind
use Rattle.col_eval.specs.declared.expr.Op.TheVariants.{CheckedMul, Div, SaturatingSub, WrappingMul}
use Rattle.col_eval.specs.Tree.{Tree, column, literal, step}
use Rattle.col_document.specs.Document.{DocumentView}
use Rattle.col_page.specs.Sums.{sums_text}

-- the most rows that are made
abbrev pub max_rows : ℕ
max_rows = 1000000

-- a table is made of 1 to 1000000 rows
abbrev pub is_row_count : ℕ → Bool
is_row_count count = nat_le 1 count && nat_le count max_rows

-- so many rows are made
abbrev pub IsRowCount : ℕ → Type 0
IsRowCount count = IsTrue (is_row_count count)

-- a number as a cell: null where there is none
abbrev pub number_cell : Option ℤ → Cell
number_cell None = null
number_cell (Some n) = whole n

-- the first column: numbers from -10000 to 10000, null in each fiftieth row. Rows 0, 1 and 49 have
-- -10000, -9963 and null
abbrev pub first_cell : ℕ → Cell
first_cell row =
    if (row % 50) == 49 then null else whole (pos ((37 * row) % 20001) -ℤ pos 10000)

-- the second one: the numbers 1 to 7 in turn, null in each sixty-fourth row. Rows 0, 6, 7 and 63
-- have 1, 7, 1 and null
abbrev pub second_cell : ℕ → Cell
second_cell row = if (row % 64) == 63 then null else whole (pos ((row % 7) + 1))

-- the third one: the greatest number of 64 bits, and from row to row one less
abbrev pub third_cell : ℕ → Cell
third_cell row = whole (pos (2 ^ 64 - 1 - row))

-- a column of so many rows, by its cell at each
abbrev pub made_column : DataKind → (ℕ → Cell) → ℕ → Column
made_column t cell count = record { data_type = t; cells = map cell (range_with_len 0 count) }

-- the table of so many rows
abbrev pub made_table : ℕ → List Column
made_table count =
    made_column kind.int64 first_cell count
    ∷ made_column kind.int64 second_cell count
    ∷ made_column kind.uint64 third_cell count
    ∷ []

-- the trees `c0 c1 checked_mul 100 div`, `c2 c2 wrapping_mul`, `c2 3 div`, `c0 c1 saturating_sub`
abbrev pub made_trees : List Tree
made_trees =
    step Div (step CheckedMul (column 0) (column 1)) (literal kind.int64 (whole (pos 100)))
    ∷ step WrappingMul (column 2) (column 2)
    ∷ step Div (column 2) (literal kind.uint64 (whole (pos 3)))
    ∷ step SaturatingSub (column 0) (column 1)
    ∷ []

-- the trees over the table of so many rows
abbrev pub made_document : ℕ → DocumentView
made_document count = record { table = made_table count; trees = made_trees }

-- what is written of so many rows: how many they are, and the sums of the trees. Of 64 rows it is
-- `rows 64`, `Int64 -22104`, `UInt64 89440`, `UInt64 6148914691236516491` and `Int64 -549803`, a
-- line each
abbrev pub summary_text : ℕ → List ℕ
summary_text count =
    codes "rows " ++ decimal count ++ codes "\n" ++ sums_text (made_document count)
