use Rattle.std.proofs.Common.{◌≡◌, map}
use Rattle.std.specs.Vec.Iter.{into_iter_items}
use Rattle.serde_json.specs.View.{items_view}
use Rattle.col_flat.specs.Parts.{slot_cell}
use Rattle.col_document.specs.Document.{whole_read}
use Rattle.col_document.specs.Json.{each}
use Rattle.col_document.proofs.ListLemmas.{front}
use Rattle.col_document.proofs.cells.read_slots.Given as goal

abbrev pub invariant-loop-value : goal.invariant-loop-value
invariant-loop-value g l =
    front (map slot_cell l.slots)
    (each (whole_read g.T.NativeWhole.whole_type) (items_view (into_iter_items l.value-iterator)))
    ≡ each (whole_read g.T.NativeWhole.whole_type) (items_view l.fn.values.items)
