use Rattle.std.proofs.Common.{◌≡◌, map}
use Rattle.std.specs.Vec.Iter.{into_iter_items}
use Rattle.serde_json.specs.View.{items_view}
use Rattle.col_array.specs.Any.{any_column}
use Rattle.col_document.specs.Document.{column_read}
use Rattle.col_document.specs.Json.{each}
use Rattle.col_document.proofs.ListLemmas.{front}
use Rattle.col_document.proofs.cells.read_columns.Given as goal

abbrev pub invariant-loop-value : goal.invariant-loop-value
invariant-loop-value l =
    front (map any_column l.columns.items)
    (each column_read (items_view (into_iter_items l.value-iterator)))
    ≡ each column_read (items_view l.fn.values.items)
