use Rattle.std.proofs.Common.{◌≡◌, drop, map}
use Rattle.serde_json.specs.View.{items_view}
use Rattle.col_eval.specs.Tree.{tree_of}
use Rattle.col_document.specs.Document.{tree_read}
use Rattle.col_document.specs.Json.{each}
use Rattle.col_document.proofs.ListLemmas.{front}
use Rattle.col_document.proofs.trees.read_trees.Given as goal

abbrev pub invariant-loop-value : goal.invariant-loop-value
invariant-loop-value l =
    front (map tree_of l.trees.items) (each tree_read (items_view (drop l.value-index l.values)))
    ≡ each tree_read (items_view l.values)
