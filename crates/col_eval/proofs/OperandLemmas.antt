-- What the operands of a step and the step give for a table.
use Rattle.std.proofs.Common.{◌≡◌, ℕ, zero, suc, ◌+◌, Bool, true, false, not, ◌&&◌, ◌==◌, cond}
use Rattle.std.proofs.Common.{List, [], ◌∷◌, map, length, replicate, slice_get, slice_index_or}
use Rattle.std.proofs.Common.{Option, None, Some, option_map, Result, Ok, Err, IsOk, IsTrue, refl}
use Rattle.std.proofs.Common.{sym, ap, ◌∙◌, eqb-true, eq-eqb}
use Rattle.std.specs.List.{list_all, range_with_len}
use Rattle.std.proofs.lemmas.Bool.{and_parts}
use Rattle.std.proofs.lemmas.List.{length-map}
use Rattle.std.proofs.lemmas.List.FromFn.{fill_by_all, length-range_with_len}
use Rattle.std.proofs.lemmas.Option.{slice_get-map, get_or_from_slice_get}
use Rattle.std.proofs.lemmas.Simd.{map-map, splat_is_map}
use Rattle.col_model.specs.Cell.{Cell, null, Cause}
use Rattle.col_model.specs.WholeStep.{each_row}
use Rattle.col_types.specs.Answer.{error_of}
use Rattle.col_types.specs.Column.{Column, column_answer, is_table, row_at}
use Rattle.col_types.specs.Column.{row_count, table_row_count, types_of}
use Rattle.col_types.specs.DataKind.{DataKind}
use Rattle.col_types.specs.declared.error.Error.{Error}
use Rattle.col_types.specs.declared.error.Error.TheVariants.{NotYetImplemented}
use Rattle.col_eval.specs.declared.expr.Op.{Op}
use Rattle.col_eval.specs.Entries.{Entry, entry_cell, entry_of, entry_type}
use Rattle.col_eval.specs.Steps.{constant_column, entry_answer, rows_answer, scalar_step_answer}
use Rattle.col_eval.specs.Steps.{step_answer, with_type}
use Rattle.col_eval.specs.Tree.{Tree, column, literal, step, step_count}
use Rattle.col_eval.specs.Typing.{is_literal, right_type, type_of}
use Rattle.col_eval.specs.Meaning.{cell, RowsAnswer, all_cells, refusal, row_meaning, rows_of}
use Rattle.col_eval.specs.Meaning.{step_of, typed_rows, rows_meaning}
use Rattle.col_eval.specs.Operand.{operand_outcome}
use Rattle.col_eval.proofs.EntryLemmas.{beside_literal-typed}
use Rattle.col_eval.proofs.GatherLemmas.{at_rows, gathered-cells, gathered-row_step, rows_step}
use Rattle.col_eval.proofs.RefusalLemmas.{IsGatheredFrom-gathered}
use Rattle.col_eval.proofs.RuleLemmas.{row_count-constant}
use Rattle.col_eval.proofs.TreeLemmas.{IsBelow-row_meaning, IsOk-left, IsOk-right}

-- a column of a table has the table's rows
length-column : (count : ℕ) (table : List Column) (position : ℕ) (c : Column)
    → list_all (λ d. row_count d == count) table ≡ true → slice_get table position ≡ Some c
    → row_count c ≡ count
length-column count [] position c h g = absurd cc
length-column count (d ∷ table) zero c h g = let e : d ≡ c = cc in
    rw (← e) (eqb-true (row_count d) count
    (and_parts (row_count d == count) (list_all (λ d. row_count d == count) table) h).0)
length-column count (d ∷ table) (suc position) c h g =
    length-column count table position c
    (and_parts (row_count d == count) (list_all (λ d. row_count d == count) table) h).1 g

-- the cell of a row at a position is the cell of the column there
row_at-column : (table : List Column) (position : ℕ) (c : Column) (row : ℕ)
    → slice_get table position ≡ Some c
    → slice_index_or c.cells row null ≡ slice_index_or (row_at table row) position null
row_at-column table position c row h =
    sym (get_or_from_slice_get (row_at table row) position (slice_index_or c.cells row null) null
    (slice_get-map (λ d. slice_index_or d.cells row null) table position
    ∙ ap (option_map (λ d. slice_index_or d.cells row null)) h))

-- a column gives a cell for each row
pub rows_meaning-column : (position : ℕ) (table : List Column)
    → rows_meaning (column position) table ≡ all_cells
    (map (λ row. slice_index_or row position null) (rows_of table))
rows_meaning-column position table =
    gathered-cells (λ row. slice_index_or row position null) (rows_of table)

-- a column of the table gives its cells
pub operand_outcome-column : (table : List Column) (position : ℕ) (c : Column)
    → IsTrue (is_table table) → slice_get table position ≡ Some c
    → operand_outcome (column position) table ≡ Ok c
operand_outcome-column table position c h g =
    let count = table_row_count table in
    let cells : c.cells ≡ map (λ row. slice_index_or (row_at table row) position null)
    (range_with_len 0 count) =
    fill_by_all (λ row. slice_index_or (row_at table row) position null) c.cells count null
    (length-column count table position c h g)
    (λ row below. row_at-column table position c row g) in
    let all : rows_meaning (column position) table ≡ all_cells c.cells =
    rows_meaning-column position table
    ∙ ap all_cells (map-map (λ row. slice_index_or row position null) (row_at table)
    (range_with_len 0 count) ∙ sym cells) in
    let type : slice_get (types_of table) position ≡ Some c.data_type =
    slice_get-map (λ d. d.data_type) table position ∙ ap (option_map (λ d. d.data_type)) g in
    rw (type, all) refl

-- a tree that gives cells gives one for each row
length-rows_meaning : (tree : Tree) (table : List Column) (cells : List Cell)
    → rows_meaning tree table ≡ all_cells cells → length cells ≡ table_row_count table
length-rows_meaning tree table cells h =
    let rows = map (row_meaning tree (types_of table)) (rows_of table) in
    let same : rows ≡ map cell cells = rw h at (IsGatheredFrom-gathered rows) in
    sym (length-map cells cell) ∙ ap length (sym same)
    ∙ length-map (rows_of table) (row_meaning tree (types_of table))
    ∙ length-map (range_with_len 0 (table_row_count table)) (row_at table)
    ∙ length-range_with_len 0 (table_row_count table)

-- a literal gives its cell at each row
pub rows_meaning-literal : (t : DataKind) (c : Cell) (table : List Column) (count : ℕ)
    → count ≡ table_row_count table
    → rows_meaning (literal t c) table ≡ all_cells (replicate count c)
rows_meaning-literal t c table count h =
    gathered-cells (λ row. c) (rows_of table)
    ∙ ap all_cells (sym (splat_is_map (rows_of table) count c
    (length-map (range_with_len 0 (table_row_count table)) (row_at table)
    ∙ length-range_with_len 0 (table_row_count table) ∙ sym h)))

-- the type and the cells of what is a column
pub typed_parts : (t : Result DataKind Error) (rows : RowsAnswer) (c : Column)
    → typed_rows t rows ≡ Ok c → (t ≡ Ok c.data_type) × (rows ≡ all_cells c.cells)
typed_parts (Err e) rows c h = absurd cc
typed_parts (Ok t) (all_cells cells) c h =
    let same : record { data_type = t; cells = cells } ≡ c = cc in
    (ap (λ (d : Column). Ok d.data_type) same, ap (λ (d : Column). all_cells d.cells) same)
typed_parts (Ok t) (refusal k cause) c h = absurd cc

-- the type and the refusal of what is none
typed_refusal : (t : Result DataKind Error) (rows : RowsAnswer) (e : Error) → IsOk t
    → typed_rows t rows ≡ Err e
    → (k : ℕ) × (cause : Cause) × (rows ≡ refusal k cause) × (error_of cause ≡ e)
typed_refusal (Err d) rows e h g = absurd cc
typed_refusal (Ok t) (all_cells cells) e h g = absurd cc
typed_refusal (Ok t) (refusal k cause) e h g = (k, cause, refl, cc)

-- a refusal of the rows is the answer of what has a type
typed_rows-refusal : (t : Result DataKind Error) (k : ℕ) (cause : Cause) → IsOk t
    → typed_rows t (refusal k cause) ≡ Err (error_of cause)
typed_rows-refusal (Ok t) k cause h = refl
typed_rows-refusal (Err e) k cause h = absurd cc

-- what all rows give of a step with a type, as a column
typed_rows-at_rows : (t : DataKind) (number : ℕ) (r : Result (List Cell) Cause)
    → typed_rows (Ok t) (at_rows number r) ≡ column_answer t r
typed_rows-at_rows t number (Ok cells) = refl
typed_rows-at_rows t number (Err cause) = refl

-- all rows after a step
pub rows_meaning-step : (op : Op) (left right : Tree) (table : List Column)
    → rows_meaning (step op left right) table ≡ rows_step (step_count left) (step_count right)
    (step_of op (type_of left (types_of table)) (right_type right (type_of right (types_of table))))
    (rows_meaning left table) (rows_meaning right table)
rows_meaning-step op left right table =
    let types = types_of table in
    gathered-row_step (step_count left) (step_count right)
    (step_of op (type_of left types) (right_type right (type_of right types)))
    (row_meaning left types) (row_meaning right types) (rows_of table)
    (IsBelow-row_meaning left types) (IsBelow-row_meaning right types)

-- the rows of two columns of one length
rows_answer-one_length : (s : Cell → Cell → Result Cell Cause) (l r : Column) (t : DataKind)
    → row_count l ≡ row_count r
    → rows_answer s l r t ≡ column_answer t (each_row s l.cells r.cells)
rows_answer-one_length s l r t h = let e = eq-eqb (row_count l) (row_count r) h in rw e refl

-- a step with a type on two columns of one length is what its row of the table says
typed_rows-chosen : (b : Bool) (t : Result DataKind Error) (s : Cell → Cell → Result Cell Cause)
    (number : ℕ) (l r : Column) → IsOk (cond b (Err NotYetImplemented) t)
    → row_count l ≡ row_count r
    → typed_rows (cond b (Err NotYetImplemented) t)
    (at_rows number (each_row s l.cells r.cells))
    ≡ with_type t (rows_answer s l r)
typed_rows-chosen true t s number l r h g = absurd cc
typed_rows-chosen false (Ok u) s number l r h g =
    typed_rows-at_rows u number (each_row s l.cells r.cells)
    ∙ sym (rows_answer-one_length s l r u g)
typed_rows-chosen false (Err e) s number l r h g = absurd cc

-- the same by the row itself
entry_answer-rows : (b : Bool) (entry : Option Entry) (number : ℕ) (l r : Column)
    → IsOk (entry_type b entry) → row_count l ≡ row_count r
    → typed_rows (entry_type b entry)
    (at_rows number (each_row (entry_cell entry) l.cells r.cells)) ≡ entry_answer entry l r
entry_answer-rows b None number l r h g = absurd cc
entry_answer-rows b (Some entry) number l r h g =
    typed_rows-chosen (b && not entry.takes_literal) entry.answer_type entry.step number l r h g

-- a step on two operands that are columns
operand_outcome-step : (op : Op) (left right : Tree) (table : List Column) (l r : Column)
    → IsOk (type_of (step op left right) (types_of table)) → operand_outcome left table ≡ Ok l
    → right_type right (type_of right (types_of table)) ≡ Ok r.data_type
    → rows_meaning right table ≡ all_cells r.cells → row_count l ≡ row_count r
    → operand_outcome (step op left right) table ≡ step_answer op l r
operand_outcome-step op left right table l r typed h right_typed right_cells one_length =
    let parts = typed_parts (type_of left (types_of table)) (rows_meaning left table) l h in
    let entry_typed = rw (parts.0, right_typed) at typed in
    rw (rows_meaning-step op left right table, parts.0, parts.1, right_typed, right_cells)
    (entry_answer-rows (is_literal right) (entry_of op l.data_type r.data_type)
    (step_count left + step_count right) l r entry_typed one_length)

-- a step on two columns is what its row of the table answers
pub operand_outcome-columns : (op : Op) (left right : Tree) (table : List Column) (l r : Column)
    → IsOk (type_of (step op left right) (types_of table))
    → right_type right (type_of right (types_of table)) ≡ type_of right (types_of table)
    → operand_outcome left table ≡ Ok l → operand_outcome right table ≡ Ok r
    → operand_outcome (step op left right) table ≡ step_answer op l r
operand_outcome-columns op left right table l r typed own hl hr =
    let left_parts = typed_parts (type_of left (types_of table)) (rows_meaning left table) l hl in
    let right_parts = typed_parts (type_of right (types_of table)) (rows_meaning right table) r hr
    in
    operand_outcome-step op left right table l r typed hl (own ∙ right_parts.0) right_parts.1
    (length-rows_meaning left table l.cells left_parts.1
    ∙ sym (length-rows_meaning right table r.cells right_parts.1))

-- a step on a column and a literal is what its row of the table answers
pub operand_outcome-scalar : (op : Op) (left : Tree) (t : DataKind) (c : Cell) (table : List Column)
    (l : Column) → IsOk (type_of (step op left (literal t c)) (types_of table))
    → operand_outcome left table ≡ Ok l
    → operand_outcome (step op left (literal t c)) table ≡ scalar_step_answer op l t c
operand_outcome-scalar op left t c table l typed hl =
    let left_parts = typed_parts (type_of left (types_of table)) (rows_meaning left table) l hl in
    let entry = entry_of op l.data_type t in
    let taken = beside_literal-typed entry (rw left_parts.0 at typed) in
    operand_outcome-step op left (literal t c) table l (constant_column t c l) typed hl refl
    (rows_meaning-literal t c table (row_count l)
    (length-rows_meaning left table l.cells left_parts.1)) (row_count-constant t c l)
    ∙ ap (λ (row : Option Entry). entry_answer row l (constant_column t c l)) (sym taken)

-- a refusal of the left operand is the step's
pub operand_outcome-left : (op : Op) (left right : Tree) (table : List Column) (e : Error)
    → IsOk (type_of (step op left right) (types_of table)) → operand_outcome left table ≡ Err e
    → operand_outcome (step op left right) table ≡ Err e
operand_outcome-left op left right table e typed h =
    let own = IsOk-left op (is_literal right) (type_of left (types_of table))
    (right_type right (type_of right (types_of table))) typed in
    let refused = typed_refusal (type_of left (types_of table)) (rows_meaning left table) e own h in
    rw (rows_meaning-step op left right table, refused.2)
    (typed_rows-refusal (type_of (step op left right) (types_of table)) refused.0 refused.1
    typed ∙ ap Err refused.3)

-- a refusal of the right operand is the step's, where the left one is a column
pub operand_outcome-right : (op : Op) (left right : Tree) (table : List Column) (l : Column)
    (e : Error) → IsOk (type_of (step op left right) (types_of table))
    → right_type right (type_of right (types_of table)) ≡ type_of right (types_of table)
    → operand_outcome left table ≡ Ok l → operand_outcome right table ≡ Err e
    → operand_outcome (step op left right) table ≡ Err e
operand_outcome-right op left right table l e typed own hl h =
    let left_parts = typed_parts (type_of left (types_of table)) (rows_meaning left table) l hl in
    let right_typed : IsOk (type_of right (types_of table)) =
    rw own at (IsOk-right op (is_literal right) (type_of left (types_of table))
    (right_type right (type_of right (types_of table))) typed) in
    let refused = typed_refusal (type_of right (types_of table))
    (rows_meaning right table) e right_typed h in
    rw (rows_meaning-step op left right table, left_parts.1, refused.2)
    (typed_rows-refusal (type_of (step op left right) (types_of table))
    (step_count left + refused.0) refused.1 typed ∙ ap Err refused.3)
