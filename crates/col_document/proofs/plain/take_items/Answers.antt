use Rattle.std.proofs.Common.{◌≡◌, ◌∷◌, ◌++◌, [], Some, map, arith, ap, ◌∙◌}
use Rattle.std.proofs.lemmas.List.{map-append}
use Rattle.json.specs.Json.{after_end_array}
use Rattle.json.specs.Token.{begin_object}
use Rattle.col_array.specs.Any.{any_column}
use Rattle.col_document.specs.Document.{column_read}
use Rattle.col_document.specs.Reading.{IsReadAs}
use Rattle.col_document.proofs.TokenLemmas.{read-none, read-more, read-all}
use Rattle.col_document.proofs.plain.take_items.Goals as goal

pub items-init : goal.items-init
items-init c =
    let none : map any_column c.new-columns.result.items ≡ [] = grind arith in
    rw none (read-none c.args.levels column_read c.args.cursor.now)

pub items-preserved : goal.items-preserved
items-preserved c =
    let l = c.items in
    let r = c.take_column.new.cursor in
    let y = c.in_ok-column.column in
    let first : l.cursor ≡ begin_object ∷ c.next.new.self = grind arith in
    let one : IsReadAs c.args.levels column_read l.cursor (any_column y) r =
    rw first c.in_ok-column.ensures in
    let pushed : c.push.new.self.items ≡ l.columns.items ++ y ∷ [] = grind arith in
    let more : map any_column c.push.new.self.items
    ≡ map any_column l.columns.items ++ any_column y ∷ [] =
    ap (map any_column) pushed ∙ map-append any_column l.columns.items (y ∷ []) in
    rw more
    (read-more c.args.levels column_read c.args.cursor.now l.cursor r _ (any_column y) l.invariant
    one)

pub returns-in-EndArray : goal.returns-in-EndArray
returns-in-EndArray c =
    let r = c.next.new.self in
    let ended : after_end_array c.items.cursor ≡ Some r = grind arith in
    read-all c.args.levels column_read c.args.cursor.now c.items.cursor r _ c.items.invariant ended
