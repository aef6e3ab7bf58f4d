use Rattle.std.proofs.Common.{arith}
use Rattle.std.proofs.lemmas.Option.{IfSome_then}
use Rattle.col_document.specs.Document.{column_read}
use Rattle.col_document.specs.Json.{each}
use Rattle.col_document.proofs.TokenLemmas.{list-read}
use Rattle.col_document.proofs.plain.take_columns.Goals as goal

pub returns : goal.returns
returns c =
    IfSome_then c.take_items.result c.take_items.ensures
    (λ v h. list-read c.args.levels (each column_read) c.args.cursor.now c.open_list.new.cursor
    c.take_items.new.cursor _ (omega arith) c.in_ok-open_list.ensures h)
