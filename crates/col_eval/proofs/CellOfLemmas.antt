-- Where the columns of a table hold cells of their types, so does what a tree gives.
use Rattle.std.proofs.Common.{◌≡◌, ℕ, zero, suc, ◌+◌, Bool, true, false}
use Rattle.std.proofs.Common.{cond, nat_lt, List, [], ◌∷◌, map, slice_get, slice_index_or}
use Rattle.std.proofs.Common.{Option, None, Some, Result, Ok, Err, IsTrue, ok_or, refl, sym, ◌∙◌}
use Rattle.std.specs.List.{list_all, range_with_len}
use Rattle.std.proofs.lemmas.Simd.{map-map}
use Rattle.std.proofs.lemmas.Bool.{and_parts}
use Rattle.col_model.specs.Cell.{Cell, null, Cause}
use Rattle.col_types.specs.CellOf.{HoldsItsCells, is_typed_column, is_cell_of}
use Rattle.col_types.specs.Column.{Column, row_at, table_row_count, types_of}
use Rattle.col_types.specs.DataKind.{DataKind}
use Rattle.col_types.specs.declared.error.Error.{Error}
use Rattle.col_types.specs.declared.error.Error.TheVariants.{InvalidArgumentError}
use Rattle.col_types.specs.declared.error.Reason.TheVariants.{Depth, Position}
use Rattle.col_eval.specs.declared.expr.Op.{Op}
use Rattle.col_eval.specs.Tree.{Tree, column, literal, step, level_count, step_count}
use Rattle.col_eval.specs.Typing.{is_literal, max_levels, right_type, step_type, type_of}
use Rattle.col_eval.specs.Typing.{typing_of}
use Rattle.col_eval.specs.Meaning.{RowAnswer, cell, refused_at, at_step, outcome_of}
use Rattle.col_eval.specs.Meaning.{row_meaning, rows_meaning, rows_of, step_of}
use Rattle.col_eval.proofs.EntryLemmas.{entry_cell-type}
use Rattle.col_eval.proofs.GatherLemmas.{row_step}
use Rattle.col_eval.proofs.OperandLemmas.{typed_parts}
use Rattle.col_eval.proofs.RefusalLemmas.{IsGatheredFrom-gathered}

-- the cell of a step with a type
typed_cell : (op : Op) (is_literal : Bool) (s t : Result DataKind Error) (u : DataKind)
    (a b c : Cell) → step_type op is_literal s t ≡ Ok u → step_of op s t a b ≡ Ok c
    → is_cell_of u c ≡ true
typed_cell op is_literal (Ok s) (Ok t) u a b c h g = entry_cell-type op is_literal s t u a b c h g
typed_cell op is_literal (Ok s) (Err e) u a b c h g = absurd cc
typed_cell op is_literal (Err e) t u a b c h g = absurd cc

-- the cell that the step itself gives
at_step-cell : (number : ℕ) (r : Result Cell Cause) (c : Cell) → at_step number r ≡ cell c
    → r ≡ Ok c
at_step-cell number (Ok d) c h = cc
at_step-cell number (Err cause) c h = absurd cc

-- a cell after a step is the step's on two cells
step_cell : (m n : ℕ) (s : Cell → Cell → Result Cell Cause) (a b : RowAnswer) (c : Cell)
    → row_step m n s a b ≡ cell c → (x : Cell) × (y : Cell) × (s x y ≡ Ok c)
step_cell m n s (cell x) (cell y) c h = (x, y, at_step-cell (m + n) (s x y) c h)
step_cell m n s (cell x) (refused_at k d) c h = absurd cc
step_cell m n s (refused_at k d) b c h = absurd cc

-- a row's cell of a column that holds its cells
held_cell : (t : DataKind) (cells : List Cell) (row : ℕ) → list_all (is_cell_of t) cells ≡ true
    → is_cell_of t (slice_index_or cells row null) ≡ true
held_cell t [] row h = refl
held_cell t (c ∷ cells) zero h = (and_parts (is_cell_of t c) (list_all (is_cell_of t) cells) h).0
held_cell t (c ∷ cells) (suc row) h =
    held_cell t cells row (and_parts (is_cell_of t c) (list_all (is_cell_of t) cells) h).1

-- a row's cell of the column at a position
column_cell : (table : List Column) (position row : ℕ) (t : DataKind)
    → list_all is_typed_column table ≡ true → slice_get (types_of table) position ≡ Some t
    → is_cell_of t (slice_index_or (row_at table row) position null) ≡ true
column_cell [] position row t h g = absurd cc
column_cell (c ∷ table) zero row t h g =
    let same : c.data_type ≡ t = cc in
    rw (← same) (held_cell c.data_type c.cells row
    (and_parts (is_typed_column c) (list_all is_typed_column table) h).0)
column_cell (c ∷ table) (suc position) row t h g =
    column_cell table position row t
    (and_parts (is_typed_column c) (list_all is_typed_column table) h).1 g

-- what is there has its value
value_there : (o : Option DataKind) (e : Error) (t : DataKind) → ok_or o e ≡ Ok t → o ≡ Some t
value_there (Some s) e t h = cc
value_there None e t h = absurd cc

-- the cell that a tree with a type gives for a row
row_cell : (tree : Tree) (table : List Column) (row : ℕ) (t : DataKind) (c : Cell)
    → list_all is_typed_column table ≡ true → type_of tree (types_of table) ≡ Ok t
    → row_meaning tree (types_of table) (row_at table row) ≡ cell c → is_cell_of t c ≡ true
row_cell (column position) table row t c held typed h =
    let same : slice_index_or (row_at table row) position null ≡ c = cc in
    rw (← same) (column_cell table position row t held
    (value_there (slice_get (types_of table) position) (InvalidArgumentError Position) t typed))
row_cell (literal s d) table row t c held typed h = absurd cc
row_cell (step op left right) table row t c held typed h =
    let types = types_of table in
    let s = type_of left types in
    let u = right_type right (type_of right types) in
    let cells = step_cell (step_count left) (step_count right) (step_of op s u)
    (row_meaning left types (row_at table row)) (row_meaning right types (row_at table row))
    c h in
    typed_cell op (is_literal right) s u t cells.0 cells.1 c typed cells.2

-- where each row's cell passes, all pass
all_pass : {X : Type 0} (f : X → RowAnswer) (p : Cell → Bool) (xs : List X) (cells : List Cell)
    → map f xs ≡ map cell cells → ((x : X) (c : Cell) → f x ≡ cell c → p c ≡ true)
    → list_all p cells ≡ true
all_pass f p [] [] h g = refl
all_pass f p [] (c ∷ cells) h g = absurd cc
all_pass f p (x ∷ xs) [] h g = absurd cc
all_pass f p (x ∷ xs) (c ∷ cells) h g =
    let first : f x ≡ cell c = cc in
    let rest : map f xs ≡ map cell cells = cc in
    rw (g x c first) (all_pass f p xs cells rest g)

-- a tree whose levels are looked at has the type of any tree
type_within : (deep : Bool) (typed : Result DataKind Error) (t : DataKind)
    → cond deep (Err (InvalidArgumentError Depth)) typed ≡ Ok t → typed ≡ Ok t
type_within true typed t h = absurd cc
type_within false typed t h = h

-- what a tree gives holds cells of its type
pub outcome_holds : (tree : Tree) (table : List Column) (answer : Column)
    → IsTrue (list_all is_typed_column table) → outcome_of tree table ≡ Ok answer
    → HoldsItsCells answer
outcome_holds tree table answer held h =
    let types = types_of table in
    let parts = typed_parts (typing_of tree types) (rows_meaning tree table) answer h in
    let typed = type_within (nat_lt max_levels (level_count tree)) (type_of tree types)
    answer.data_type parts.0 in
    let same : map (row_meaning tree types) (rows_of table) ≡ map cell answer.cells =
    rw parts.1 at (IsGatheredFrom-gathered (map (row_meaning tree types) (rows_of table))) in
    all_pass (λ row. row_meaning tree types (row_at table row)) (is_cell_of answer.data_type)
    (range_with_len 0 (table_row_count table)) answer.cells
    (sym (map-map (row_meaning tree types) (row_at table)
    (range_with_len 0 (table_row_count table))) ∙ same)
    (λ row c. row_cell tree table row answer.data_type c held typed)
