use Rattle.std.proofs.Common.{length, map}
use Rattle.col_array.specs.Any.{any_column}
use Rattle.col_document.specs.Document.{column_read}
use Rattle.col_document.proofs.TokenLemmas.{AreReadUpTo}
use Rattle.col_document.proofs.plain.take_items.Given as goal

abbrev pub invariant-items : goal.invariant-items
invariant-items l =
    AreReadUpTo l.levels column_read l.initial.cursor (map any_column l.columns.items) l.cursor

abbrev pub decreases-items : goal.decreases-items
decreases-items l = length l.cursor
