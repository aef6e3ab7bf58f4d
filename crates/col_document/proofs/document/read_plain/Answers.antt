use Rattle.std.proofs.Common.{◌≡◌, ◌∷◌, [], None, Some, codes, map, arith, ap, ◌∙◌}
use Rattle.json.specs.Token.{begin_object}
use Rattle.json.specs.Lex.{tokens}
use Rattle.json.specs.Json.{read_key}
use Rattle.serde_json.specs.Find.{as_array}
use Rattle.serde_json.specs.View.{items_view, view}
use Rattle.col_array.specs.Any.{any_column}
use Rattle.col_eval.specs.Tree.{tree_of}
use Rattle.col_document.specs.Document.{tree_read}
use Rattle.col_document.specs.Json.{each}
use Rattle.col_document.specs.Reading.{only_table}
use Rattle.col_json.proofs.BeginsLemmas.{passes-both}
use Rattle.col_document.proofs.TokenLemmas.{document-read}
use Rattle.col_document.proofs.document.read_plain.Goals as goal

pub returns : goal.returns
returns c =
    let ended : c.close_object.new.cursor ≡ [] = grind arith in
    let one = c.in_ok-take_key.ensures in
    let two = c.in_ok-take_key-2.ensures in
    let three = c.in_ok-close_object.ensures in
    let closed : read_key three.0 ≡ Some (None, []) =
    three.2 ∙ ap (λ r. Some (None, r)) ended in
    let items = c.as_slice.result.now in
    let listed : Some (items_view items) ≡ as_array (view c.in_ok-trees.trees) = grind arith in
    let are_trees : each tree_read (items_view items) ≡ Some (map tree_of
    c.in_ok-trees-2.trees.items) = grind arith in
    let is_table : only_table (map any_column c.in_ok-columns.columns.items)
    ≡ Some c.in_ok-table.table = grind arith in
    let is_open : tokens c.args.text.now ≡ begin_object ∷ c.open_object.new.cursor =
    grind arith in
    document-read c.args.text.now c.open_object.new.cursor one.0 c.take_key.new.cursor
    c.take_columns.new.cursor two.0 c.take_key-2.new.cursor c.read_value.new.cursor three.0
    (map any_column c.in_ok-columns.columns.items) c.in_ok-table.table (view c.in_ok-trees.trees)
    (items_view items) (map tree_of c.in_ok-trees-2.trees.items) is_open one.1 one.2
    c.in_ok-columns.ensures (passes-both 126 (codes "trees") (codes "columns") _ two.0 two.1) two.2
    c.in_ok-trees.ensures three.1 closed listed are_trees is_table
