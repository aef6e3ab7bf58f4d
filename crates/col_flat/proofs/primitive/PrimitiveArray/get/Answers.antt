use Rattle.std.proofs.Common.{◌<◌, ◌≡◌, ◌∙◌, Some, length, map, slice_get, option_map, unwrap_or}
use Rattle.std.proofs.Common.{[], refl, ap, arith}
use Rattle.std.proofs.lemmas.Option.{slice_get-map, slice_get_read}
use Rattle.col_flat.specs.Parts.{slot_cell, slots_of}
use Rattle.col_flat.proofs.PartsLemmas.{row_count-values, rows_are, slot_at_null, slot_at_valid}
use Rattle.col_flat.proofs.primitive.PrimitiveArray.get.Goals as goal

pub offset_bounds-as_slice-i : goal.offset_bounds-as_slice-i
offset_bounds-as_slice-i g c =
    let rows = rows_are g.T.NativeType.numbers _ c.self.inside.values c.self.inside.validity
    c.args.self.now c.self.view_is in
    rw c.as_slice.ensures (omega arith)

pub bounds-as_slice-i : goal.bounds-as_slice-i
bounds-as_slice-i g c =
    let rows = rows_are g.T.NativeType.numbers _ c.self.inside.values c.self.inside.validity
    c.args.self.now c.self.view_is in
    rw c.as_slice.ensures (omega arith)

pub returns-clause-slot : goal.returns-clause-slot
returns-clause-slot g c =
    let rows = rows_are g.T.NativeType.numbers _ c.self.inside.values c.self.inside.validity
    c.args.self.now c.self.view_is in
    let values = map g.T.NativeType.numbers c.self.inside.values in
    let within : c.args.i < length c.self.inside.values = omega arith in
    let read = slice_get_read c.self.inside.values
    (length c.self.inside.values) c.args.i c.index-as_slice-i.result refl within
    (rw c.as_slice.ensures at c.index-as_slice-i.is) in
    let stored : slice_get values c.args.i
    ≡ Some (g.T.NativeType.numbers c.index-as_slice-i.result) =
    slice_get-map g.T.NativeType.numbers c.self.inside.values c.args.i
    ∙ ap (option_map g.T.NativeType.numbers) read in
    let valid = rw (← c.self.view_is) at (c.if-not-is_valid.ensures.0 refl) in
    rw (← c.self.view_is)
    (slot_at_valid values (unwrap_or c.self.inside.validity []) c.args.i _ stored valid)

pub returns-clause-value : goal.returns-clause-value
returns-clause-value g c =
    slice_get-map slot_cell (slots_of c.args.self.now) c.args.i
    ∙ ap (option_map slot_cell) (returns-clause-slot g c)

pub returns-then-not-is_valid-clause-slot : goal.returns-then-not-is_valid-clause-slot
returns-then-not-is_valid-clause-slot g c =
    let a = c.args.self.now in
    let within : c.args.i < length a.values = omega (arith, c.requires, row_count-values a) in
    slot_at_null a.values (unwrap_or a.validity []) c.args.i within c.if-not-is_valid.ensures.1

pub returns-then-not-is_valid-clause-value : goal.returns-then-not-is_valid-clause-value
returns-then-not-is_valid-clause-value g c =
    slice_get-map slot_cell (slots_of c.args.self.now) c.args.i
    ∙ ap (option_map slot_cell) (returns-then-not-is_valid-clause-slot g c)
