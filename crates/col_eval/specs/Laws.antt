-- What the definitions of this crate say together.
use Rattle.std.specs.Prelude.{◌≡◌, ◌≢◌, ℕ, ◌<◌, ◌≤◌, ◌⊎◌, IsTrue, IsOk, List, []}
use Rattle.std.specs.Prelude.{◌∷◌, ◌++◌, length, map}
use Rattle.std.specs.Prelude.{slice_get, Some, Ok, Err}
use Rattle.std.specs.List.{All, list_all}
use Rattle.col_model.specs.Cell.{Cell, Cause}
use Rattle.col_types.specs.CellOf.{HoldsItsCells, is_typed_column}
use Rattle.col_types.specs.Column.{Column, is_table, row_at, table_row_count, types_of}
use Rattle.col_types.specs.DataKind.{DataKind}
use Rattle.col_eval.specs.declared.expr.Op.{Op}
use Rattle.col_eval.specs.Tree.{Tree, column, literal, step}
use Rattle.col_eval.specs.Typing.{right_type, type_of, typing_of}
use Rattle.col_eval.specs.Meaning.{RowAnswer, cell, refused_at, row_meaning, step_of}
use Rattle.col_eval.specs.Meaning.{RowsAnswer, all_cells, refusal, gathered, outcome_of}
use Rattle.col_eval.specs.Meaning.{rows_meaning, typed_rows}
use Rattle.col_eval.specs.Split.{AreParts, joined, stacked}

-- a refusal at a step and row is no later than another: its step is less, or the same and its row
-- is not lower
abbrev pub IsNoLater : ℕ → ℕ → ℕ → ℕ → Type 0
IsNoLater number row other other_row = (number < other) ⊎ ((number ≡ other) × (row ≤ other_row))

-- the refusal is that of some row, and no row refuses sooner
pub record IsLeastRefusal (rows : List RowAnswer) (number : ℕ) (cause : Cause) : Type 0 where
  pub row : ℕ
  pub refuses : slice_get rows row ≡ Some (refused_at number cause)
  pub is_least : (other other_row : ℕ) (c : Cause)
      → slice_get rows other_row ≡ Some (refused_at other c) → IsNoLater number row other other_row

-- what all rows give is the cell of each, or their least refusal
abbrev pub IsGatheredFrom : List RowAnswer → RowsAnswer → Type 0
IsGatheredFrom rows (all_cells cells) = rows ≡ map cell cells
IsGatheredFrom rows (refusal number cause) = IsLeastRefusal rows number cause

-- all rows together give the cell of each, or their least refusal: the least step goes before the
-- least row
abbrev pub OutcomeIsTheLeastRefusal : Type 0
OutcomeIsTheLeastRefusal = (rows : List RowAnswer) → IsGatheredFrom rows (gathered rows)

-- rows of equal cells, of one table or of two with equal types, get equal cells
abbrev pub OutcomeDependsOnCellsAlone : Type 0
OutcomeDependsOnCellsAlone =
    (tree : Tree) (table other : List Column) (answer other_answer : Column) (row other_row : ℕ)
    → types_of table ≡ types_of other → outcome_of tree table ≡ Ok answer
    → outcome_of tree other ≡ Ok other_answer
    → row < table_row_count table → other_row < table_row_count other
    → row_at table row ≡ row_at other other_row
    → slice_get answer.cells row ≡ slice_get other_answer.cells other_row

-- the steps of a tree in the order in which they are taken: those of the left operand, those of the
-- right one, then the step itself
abbrev pub steps_in_order : Tree → List Tree
steps_in_order (column position) = []
steps_in_order (literal t c) = []
steps_in_order (step op left right) =
    steps_in_order left ++ (steps_in_order right ++ (step op left right ∷ []))

-- a tree gives a cell for a row
abbrev pub GivesCell : List DataKind → List Cell → Tree → Type 0
GivesCell types row tree = (c : Cell) × (row_meaning tree types row ≡ cell c)

-- a step refuses a row itself: its operands give cells, and these it refuses
pub record RefusesItself (types : List DataKind) (row : List Cell) (cause : Cause) (tree : Tree)
    : Type 0 where
  pub op : Op
  pub left : Tree
  pub right : Tree
  pub a : Cell
  pub b : Cell
  pub is_step : tree ≡ step op left right
  pub left_cell : row_meaning left types row ≡ cell a
  pub right_cell : row_meaning right types row ≡ cell b
  pub refuses : step_of op (type_of left types) (right_type right (type_of right types)) a b
      ≡ Err cause

-- the first step of a tree that fails: so many steps come before it in their order, and pass
pub record IsFirstToFail (Passes Fails : Tree → Type 0) (number : ℕ) (tree : Tree) : Type 0 where
  pub earlier : List Tree
  pub failing : Tree
  pub later : List Tree
  pub in_order : steps_in_order tree ≡ earlier ++ (failing ∷ later)
  pub counted : length earlier ≡ number
  pub earlier_pass : All Passes earlier
  pub fails : Fails failing

-- the number of a refusal is the place of the step that refuses, and no earlier step refuses
abbrev pub RefusalNamesItsStep : Type 0
RefusalNamesItsStep =
    (tree : Tree) (types : List DataKind) (row : List Cell) (number : ℕ) (cause : Cause)
    → row_meaning tree types row ≡ refused_at number cause
    → IsFirstToFail (GivesCell types row) (RefusesItself types row cause) number tree

-- a tree gives a cell for each row of a table
abbrev pub GivesCells : List Column → Tree → Type 0
GivesCells table tree = (cells : List Cell) × (rows_meaning tree table ≡ all_cells cells)

-- a table is refused for a cause by a tree
abbrev pub IsRefusedFor : List Column → Cause → Tree → Type 0
IsRefusedFor table cause tree = (number : ℕ) × (rows_meaning tree table ≡ refusal number cause)

-- the number of a table's refusal is the place of the first step that, as a tree of its own, is
-- refused for the table, and the cause is the same
abbrev pub TableRefusalIsOfItsFirstStep : Type 0
TableRefusalIsOfItsFirstStep =
    (tree : Tree) (table : List Column) (number : ℕ) (cause : Cause)
    → rows_meaning tree table ≡ refusal number cause
    → IsFirstToFail (GivesCells table) (IsRefusedFor table cause) number tree

-- a tree with a type that refuses no row of a table
pub record IsUnrefused (tree : Tree) (table : List Column) : Type 0 where
  pub typed : IsOk (typing_of tree (types_of table))
  pub passes : (row number : ℕ) (cause : Cause) → row < table_row_count table
      → row_meaning tree (types_of table) (row_at table row) ≢ refused_at number cause

-- where each column of a table holds cells of its type, so does the outcome
abbrev pub OutcomeHoldsItsCells : Type 0
OutcomeHoldsItsCells =
    (tree : Tree) (table : List Column) (answer : Column)
    → IsTrue (list_all is_typed_column table) → outcome_of tree table ≡ Ok answer
    → HoldsItsCells answer

-- two parts of a table are a table of the same types, which may be a part again; and what a tree
-- gives for it is what it gives for each of them, joined
pub record JoinsParts (tree : Tree) (upper lower : List Column) : Type 0 where
  pub table : IsTrue (is_table (stacked upper lower))
  pub types : types_of (stacked upper lower) ≡ types_of upper
  pub rows : rows_meaning tree (stacked upper lower) ≡ joined (rows_meaning tree upper)
      (rows_meaning tree lower)
  pub outcome : outcome_of tree (stacked upper lower) ≡ typed_rows
      (typing_of tree (types_of upper))
      (joined (rows_meaning tree upper) (rows_meaning tree lower))

-- this holds of each tree and of any two parts
abbrev pub OutcomesOfPartsJoin : Type 0
OutcomesOfPartsJoin =
    (tree : Tree) (upper lower : List Column) → AreParts upper lower → JoinsParts tree upper lower

-- each step of a tree with a type has a type, as a tree of its own
abbrev pub StepsOfTypedTreesHaveTypes : Type 0
StepsOfTypedTreesHaveTypes =
    (tree : Tree) (types : List DataKind) → IsOk (typing_of tree types)
    → All (λ t. IsOk (typing_of t types)) (steps_in_order tree)
