-- A table in two parts, an upper and a lower one, and what the answers of both give together.
use Rattle.std.specs.Prelude.{◌≡◌, IsTrue, List, [], ◌∷◌, ◌++◌}
use Rattle.col_types.specs.Column.{Column, is_table, types_of}
use Rattle.col_eval.specs.Meaning.{RowsAnswer, all_cells, refusal, sooner}

-- the rows of a column and then those of another
abbrev pub stacked_column : Column → Column → Column
stacked_column upper lower = record {
  data_type = upper.data_type;
  cells = upper.cells ++ lower.cells;
}

-- the rows of a table and then those of another, column by column
abbrev pub stacked : List Column → List Column → List Column
stacked [] lower = []
stacked (c ∷ upper) [] = []
stacked (c ∷ upper) (d ∷ lower) = stacked_column c d ∷ stacked upper lower

-- two tables whose columns have the same types
pub record AreParts (upper lower : List Column) : Type 0 where
  pub upper_table : IsTrue (is_table upper)
  pub lower_table : IsTrue (is_table lower)
  pub types : types_of upper ≡ types_of lower

-- what the rows of both parts give together: the upper part's cells and then the lower one's; else
-- the refusal at the lesser step, and of two at one step the upper part's
abbrev pub joined : RowsAnswer → RowsAnswer → RowsAnswer
joined (all_cells cells) (all_cells below) = all_cells (cells ++ below)
joined (all_cells cells) (refusal number cause) = refusal number cause
joined (refusal number cause) below = sooner number cause below
