use Rattle.std.proofs.Common.{◌∙◌, ap, map}
use Rattle.std.specs.Prelude.{option_map}
use Rattle.std.proofs.lemmas.Result.{err_from_is_err_and}
use Rattle.serde_json.specs.View.{view}
use Rattle.col_array.specs.Any.{any_column}
use Rattle.col_document.specs.Reading.{only_table}
use Rattle.col_document.proofs.ReadingLemmas.{none-mapped, document_read-parts}
use Rattle.col_document.proofs.document.read_value.Goals as goal

pub returns-in_err-table : goal.returns-in_err-table
returns-in_err-table c =
    let parts = document_read-parts
    (view c.args.value) _ _ _ _ c.in-Some-take_list.ensures c.in-Some.ensures
    c.in_ok-columns.ensures c.in_ok-trees.ensures in
    let p = err_from_is_err_and c.from_residual-in_err-table.result
    c.from_residual-in_err-table.ensures.1 in
    rw (p.1, p.2)
    (none-mapped _ c.in_err-table.field-0.0
    (only_table (map any_column c.in_ok-columns.columns.items)) _ parts c.in_err-table.ensures)

pub returns : goal.returns
returns c =
    let parts = document_read-parts
    (view c.args.value) _ _ _ _ c.in-Some-take_list.ensures c.in-Some.ensures
    c.in_ok-columns.ensures c.in_ok-trees.ensures in
    parts ∙ ap (option_map _) c.in_ok-table.ensures
