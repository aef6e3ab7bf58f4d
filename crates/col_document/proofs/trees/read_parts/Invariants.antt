use Rattle.std.proofs.Common.{◌≡◌, [], drop}
use Rattle.std.specs.Prelude.{option_and_then}
use Rattle.serde_json.specs.View.{items_view}
use Rattle.col_document.specs.Document.{piece_read, with_pieces}
use Rattle.col_document.specs.Json.{each}
use Rattle.col_document.specs.Reading.{trees_of}
use Rattle.col_document.proofs.trees.read_parts.Given as goal

abbrev pub invariant-loop-item : goal.invariant-loop-item
invariant-loop-item l =
    option_and_then (λ pieces. with_pieces pieces (trees_of l.parts.items))
    (each piece_read (items_view (drop l.item-index l.items)))
    ≡ option_and_then (λ pieces. with_pieces pieces []) (each piece_read (items_view l.items))
