use Rattle.std.proofs.Common.{◌≡◌, ◌++◌, map}
use Rattle.col_flat.specs.Parts.{column_of, slot_cell}
use Rattle.col_page.proofs.PageLemmas.{rest_text}
use Rattle.col_page.proofs.page.push_cells.Given as goal

-- the text so far with the cells that are left is the text with all cells
abbrev pub invariant-loop-slot : goal.invariant-loop-slot
invariant-loop-slot g l =
    l.text.items ++ rest_text l.is_first (map slot_cell l.slot-iterator)
    ≡ l.initial.text.items ++ rest_text l.initial.is_first (column_of l.array).cells
