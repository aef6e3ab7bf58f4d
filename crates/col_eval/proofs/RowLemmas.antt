-- The cell of an outcome at a row is what the tree means for that row.
use Rattle.std.proofs.Common.{◌≡◌, ◌≢◌, ℕ, ◌+◌, ◌<◌, inl, inr, List, length, map, slice_get}
use Rattle.std.proofs.Common.{Option, Some, None, option_map, Result, Ok, Err, IsOk, refl}
use Rattle.std.proofs.Common.{sym, ap, ◌∙◌}
use Rattle.std.proofs.Common.{arith}
use Rattle.std.specs.List.{range_with_len}
use Rattle.std.proofs.lemmas.List.FromFn.{get_or-range_with_len, length-range_with_len}
use Rattle.std.proofs.lemmas.Bool.{cases_lt}
use Rattle.std.proofs.lemmas.List.{length-map}
use Rattle.std.proofs.lemmas.Option.{slice_get-get_or, slice_get-map, slice_get_past}
use Rattle.col_model.specs.Cell.{Cell, Cause}
use Rattle.col_types.specs.Column.{Column, row_at, table_row_count, types_of}
use Rattle.col_types.specs.DataKind.{DataKind}
use Rattle.col_types.specs.declared.error.Error.{Error}
use Rattle.col_eval.specs.Tree.{Tree}
use Rattle.col_eval.specs.Typing.{typing_of}
use Rattle.col_eval.specs.Meaning.{RowAnswer, cell, refused_at, row_meaning, rows_of, outcome_of}
use Rattle.col_eval.specs.Meaning.{RowsAnswer, all_cells, refusal, gathered, rows_meaning}
use Rattle.col_eval.specs.Meaning.{typed_rows}
use Rattle.col_eval.specs.Laws.{IsGatheredFrom}
use Rattle.col_eval.proofs.OperandLemmas.{typed_parts}
use Rattle.col_eval.proofs.RefusalLemmas.{IsGatheredFrom-gathered}

-- one value that is there
some_same : {X : Type 0} {x y : X} → Some x ≡ Some y → x ≡ y
some_same h = cc

-- nothing is not something
none_some : {X : Type 0} {x : X} → None ≡ Some x → ⊥
none_some h = cc

-- the rows are numbered from 0
slice_get-range_with_len : (count row : ℕ) → row < count
    → slice_get (range_with_len 0 count) row ≡ Some row
slice_get-range_with_len count row h =
    let place : 0 + row ≡ row = omega arith in
    slice_get-get_or (range_with_len 0 count) row 0 (rw length-range_with_len h)
    ∙ ap Some (get_or-range_with_len 0 count row 0 h ∙ place)

-- the cells of a table's row
slice_get-rows_of : (table : List Column) (row : ℕ) → row < table_row_count table
    → slice_get (rows_of table) row ≡ Some (row_at table row)
slice_get-rows_of table row h =
    slice_get-map (row_at table) (range_with_len 0 (table_row_count table)) row
    ∙ ap (option_map (row_at table)) (slice_get-range_with_len (table_row_count table) row h)

-- the cell of an outcome at a row
cell_at_row : (tree : Tree) (table : List Column) (answer : Column) (row : ℕ)
    → outcome_of tree table ≡ Ok answer → row < table_row_count table
    → option_map cell (slice_get answer.cells row) ≡ Some
    (row_meaning tree (types_of table) (row_at table row))
cell_at_row tree table answer row h below =
    let types = types_of table in
    let all : rows_meaning tree table ≡ _ =
    (typed_parts (typing_of tree types) (rows_meaning tree table) answer h).1 in
    let same : map (row_meaning tree types) (rows_of table) ≡ map cell answer.cells =
    rw all at (IsGatheredFrom-gathered (map (row_meaning tree types) (rows_of table))) in
    sym (slice_get-map cell answer.cells row)
    ∙ ap (λ (rows : List RowAnswer). slice_get rows row) (sym same)
    ∙ slice_get-map (row_meaning tree types) (rows_of table) row
    ∙ ap (option_map (row_meaning tree types)) (slice_get-rows_of table row below)

-- cells that give equal answers are equal
same_cells : (a b : Option Cell) → option_map cell a ≡ option_map cell b → a ≡ b
same_cells None None h = cc
same_cells None (Some y) h = absurd cc
same_cells (Some x) None h = absurd cc
same_cells (Some x) (Some y) h = cc

-- rows of equal cells get equal cells
pub equal_rows : (tree : Tree) (table other : List Column) (answer other_answer : Column)
    (row other_row : ℕ) → types_of table ≡ types_of other → outcome_of tree table ≡ Ok answer
    → outcome_of tree other ≡ Ok other_answer → row < table_row_count table
    → other_row < table_row_count other → row_at table row ≡ row_at other other_row
    → slice_get answer.cells row ≡ slice_get other_answer.cells other_row
equal_rows tree table other answer other_answer row other_row types h g below other_below cells =
    same_cells (slice_get answer.cells row) (slice_get other_answer.cells other_row)
    (cell_at_row tree table answer row h below
    ∙ rw (types, cells) (sym (cell_at_row tree other other_answer other_row g other_below)))

-- a table has so many rows
pub length-rows_of : (table : List Column) → length (rows_of table) ≡ table_row_count table
length-rows_of table =
    length-map (range_with_len 0 (table_row_count table)) (row_at table)
    ∙ length-range_with_len 0 (table_row_count table)

-- a row that is refused is a row of the table
refused_row : (tree : Tree) (table : List Column) (row number : ℕ) (cause : Cause)
    → slice_get (map (row_meaning tree (types_of table)) (rows_of table)) row ≡ Some
    (refused_at number cause)
    → (row < table_row_count table)
    × (row_meaning tree (types_of table) (row_at table row) ≡ refused_at number cause)
refused_row tree table row number cause h =
    let types = types_of table in
    let moved = sym (slice_get-map (row_meaning tree types) (rows_of table) row) ∙ h in
    elim (cases_lt row (table_row_count table)) [
      | inl below ↦ (below, some_same (rw (slice_get-rows_of table row below) at moved))
      | inr past ↦ absurd (none_some (rw (slice_get_past (rows_of table) row
          (rw (length-rows_of table) past)) at moved))
    ]

-- rows of which none is refused give cells
unrefused_rows : (rows : List RowAnswer) (all : RowsAnswer) (t : Result DataKind Error) → IsOk t
    → IsGatheredFrom rows all
    → ((row number : ℕ) (cause : Cause) → slice_get rows row ≢ Some (refused_at number cause))
    → IsOk (typed_rows t all)
unrefused_rows rows all (Err e) typed g h = absurd cc
unrefused_rows rows (all_cells cells) (Ok t) typed g h = refl
unrefused_rows rows (refusal number cause) (Ok t) typed g h =
    absurd (h g.row number cause g.refuses)

-- a tree with a type, and a table of which it refuses no row, give a column
pub unrefused_column : (tree : Tree) (table : List Column) → IsOk (typing_of tree (types_of table))
    → ((row number : ℕ) (cause : Cause) → row < table_row_count table
    → row_meaning tree (types_of table) (row_at table row) ≢ refused_at number cause)
    → IsOk (outcome_of tree table)
unrefused_column tree table typed h =
    let rows = map (row_meaning tree (types_of table)) (rows_of table) in
    unrefused_rows rows (gathered rows) (typing_of tree (types_of table)) typed
    (IsGatheredFrom-gathered rows)
    (λ row number cause refused. let r = refused_row tree table row number cause refused in
    h row number cause r.0 r.1)
