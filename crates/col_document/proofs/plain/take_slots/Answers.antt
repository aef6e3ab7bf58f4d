use Rattle.std.proofs.Common.{◌≡◌, ◌∷◌, ◌++◌, [], Some, map, option_map, arith, ap, ◌∙◌}
use Rattle.std.proofs.lemmas.List.{map-append}
use Rattle.json.specs.Json.{after_end_array}
use Rattle.col_json.specs.Cursor.{token_of}
use Rattle.col_flat.specs.Parts.{native_cell, slot_cell}
use Rattle.col_document.specs.Document.{whole_read}
use Rattle.col_document.specs.Reading.{IsReadAs}
use Rattle.col_document.proofs.TokenLemmas.{read-none, read-more, read-all}
use Rattle.col_document.proofs.plain.take_slots.Goals as goal

pub items-init : goal.items-init
items-init g c levels =
    let none : map slot_cell c.in_ok-slots.slots ≡ [] = grind arith in
    rw none (read-none levels (whole_read g.T.NativeWhole.whole_type) c.args.cursor.now)

pub items-preserved : goal.items-preserved
items-preserved g c levels =
    let f = whole_read g.T.NativeWhole.whole_type in
    let l = c.items in
    let r = c.next.new.self in
    let first : l.cursor ≡ token_of c.in_ok-token.token ∷ r = grind arith in
    let slot = c.in_ok-slot.slot in
    let y = native_cell g.T.NativeType.numbers slot in
    let pushed : c.push.new.self ≡ l.slots ++ option_map g.T.NativeType.numbers slot ∷ [] =
    grind arith in
    let more : map slot_cell c.push.new.self ≡ map slot_cell l.slots ++ y ∷ [] =
    ap (map slot_cell) pushed
    ∙ map-append slot_cell l.slots (option_map g.T.NativeType.numbers slot ∷ []) in
    let one : IsReadAs levels f l.cursor y r = rw first (c.in_ok-slot.ensures levels r) in
    rw more (read-more levels f c.args.cursor.now l.cursor r _ y (l.invariant levels) one)

pub returns-in-EndArray : goal.returns-in-EndArray
returns-in-EndArray g c levels =
    let r = c.next.new.self in
    let ended : after_end_array c.items.cursor ≡ Some r =
    ap after_end_array (c.in_ok-token.ensures ∙ ap (λ k. token_of k ∷ r) c.in-EndArray.is) in
    read-all levels (whole_read g.T.NativeWhole.whole_type) c.args.cursor.now c.items.cursor r _
    (c.items.invariant levels) ended
