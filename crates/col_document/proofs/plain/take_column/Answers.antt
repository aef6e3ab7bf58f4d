use Rattle.std.proofs.Common.{◌≡◌, ◌-◌, codes, Some, refl, arith}
use Rattle.col_types.specs.DataKind.{kind_of}
use Rattle.col_array.specs.Any.{any_column}
use Rattle.col_document.specs.Document.{type_named}
use Rattle.col_document.proofs.TokenLemmas.{column-read}
use Rattle.col_json.proofs.BeginsLemmas.{passes-both}
use Rattle.col_document.proofs.plain.take_column.Goals as goal

pub returns : goal.returns
returns c =
    let named : type_named c.in_ok-take_text.field-0.now ≡ Some
    (kind_of c.in_ok-data_type.data_type) =
    grind arith in
    let one = c.in_ok-take_key.ensures in
    let two = c.in_ok-take_key-2.ensures in
    let three = c.in_ok-close_object.ensures in
    column-read c.args.levels _ c.args.cursor.now one.0 c.take_key.new.cursor
    c.take_text.new.cursor two.0 c.take_key-2.new.cursor c.open_list.new.cursor
    c.take_cells.new.cursor three.0 c.close_object.new.cursor c.in_ok-take_text.field-0.now
    (kind_of c.in_ok-data_type.data_type) (any_column c.in_ok-column.column) c.requires
    refl one.1 one.2 c.in_ok-take_text.ensures named
    (passes-both (c.args.levels - 1) (codes "values") (codes "type") _ two.0 two.1) two.2
    c.in_ok-open_list.ensures c.in_ok-column.ensures three.1 three.2
