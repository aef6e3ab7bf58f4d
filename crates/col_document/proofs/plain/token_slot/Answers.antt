use Rattle.std.proofs.Common.{◌≡◌, ap}
use Rattle.col_model.specs.Cell as cell
use Rattle.col_flat.specs.Parts.{value_cell}
use Rattle.col_document.proofs.TokenLemmas.{null-cell, number-cell, text-cell}
use Rattle.col_document.proofs.plain.token_slot.Goals as goal

pub returns-in-Null : goal.returns-in-Null
returns-in-Null g c levels rest =
    rw c.in-Null.is (null-cell g.T.NativeWhole.whole_type levels rest)

pub returns-in_ok-spelled_number-in-Number : goal.returns-in_ok-spelled_number-in-Number
returns-in_ok-spelled_number-in-Number g c levels rest =
    let x = c.in_ok-spelled_number-in-Number.field-0 in
    let e = c.in_ok-spelled_number-in-Number.ensures in
    let is_cell : value_cell (g.T.NativeType.numbers x) ≡ cell.whole (g.T.NativeWhole.value x) =
    ap value_cell (g.met.T.NativeWhole.value_law x) in
    rw (c.in-Number.is, is_cell)
    (number-cell g.T.NativeWhole.whole_type levels rest c.in-Number.text.now e.0
    (g.T.NativeWhole.value x) e.1 e.2)

pub returns-in_ok-spelled_number-in-Text : goal.returns-in_ok-spelled_number-in-Text
returns-in_ok-spelled_number-in-Text g c levels rest =
    let x = c.in_ok-spelled_number-in-Text.field-0 in
    let e = c.in_ok-spelled_number-in-Text.ensures in
    let is_cell : value_cell (g.T.NativeType.numbers x) ≡ cell.whole (g.T.NativeWhole.value x) =
    ap value_cell (g.met.T.NativeWhole.value_law x) in
    rw (c.in-Text.is, is_cell)
    (text-cell g.T.NativeWhole.whole_type levels rest c.in-Text.text.now e.0
    (g.T.NativeWhole.value x) e.1 e.2)
