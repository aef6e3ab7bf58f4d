use Rattle.serde_json.specs.View.{view}
use Rattle.col_array.specs.Any.{any_column}
use Rattle.col_document.proofs.ReadingLemmas.{Reads-same, column_read-list}
use Rattle.col_document.proofs.cells.read_column.Goals as goal

pub returns : goal.returns
returns c =
    Reads-same any_column _ _ _
    (column_read-list (view c.args.value) _ _ c.in-Some.ensures.value c.in-Some-take_list.ensures)
    c.read_cells.ensures
