-- Sums: for each tree of a document the total of its column.
use Rattle.std.specs.Prelude.{ℕ, Bool, List, ◌++◌, codes, is_err, Result, Ok, Err}
use Rattle.std.specs.List.{flat_map, list_any}
use Rattle.col_types.specs.Column.{Column}
use Rattle.col_types.specs.declared.error.Error.{Error}
use Rattle.col_reduce.specs.Total.{TypedCell, sum_answer}
use Rattle.col_eval.specs.Meaning.{outcome_of}
use Rattle.col_eval.specs.Tree.{Tree}
use Rattle.col_document.specs.Document.{DocumentView}
use Rattle.col_document.specs.TypeText.{type_text}
use Rattle.col_page.specs.Page.{cell_text, line_by}

-- the sum of an outcome: the refusal, where there is one, else what the sum of the column answers
abbrev pub summed : Result Column Error → Result TypedCell Error
summed (Ok c) = sum_answer c
summed (Err e) = Err e

-- what the sum of a tree is over a table
abbrev pub sum_of_tree : Tree → List Column → Result TypedCell Error
sum_of_tree tree table = summed (outcome_of tree table)

-- the text of a total: its type and its number, or `null` where no cell had one: `Int8 -56`
abbrev pub total_text : TypedCell → List ℕ
total_text total = type_text total.data_type ++ codes " " ++ cell_text total.cell

-- the sums of a document: for each tree, in order, a line with its total or its refusal
abbrev pub sums_text : DocumentView → List ℕ
sums_text d = flat_map (λ tree. line_by total_text (sum_of_tree tree d.table)) d.trees

-- whether some line is an error line
abbrev pub has_error_sum : DocumentView → Bool
has_error_sum d = list_any (λ tree. is_err (sum_of_tree tree d.table)) d.trees
