use Rattle.std.proofs.Common.{◌≡◌, ◌∷◌, ◌++◌, [], Option, List, ℤ, map, length, ap, sym, ◌∙◌}
use Rattle.std.proofs.lemmas.List.{length-map, map_push}
use Rattle.col_flat.specs.Parts.{masked_slots}
use Rattle.col_flat.proofs.PushLemmas.{masked_slots-push, slot_beneath-stored}
use Rattle.col_flat.proofs.mutable.MutablePrimitiveArray.push.Goals as goal

pub returns-clause-value : goal.returns-clause-value
returns-clause-value g c =
    let numbers = g.T.NativeType.numbers in
    let values = map numbers c.self.inside.values.items in
    let flags = c.self.inside.flags.items in
    let one_length : length flags ≡ length values =
    c.self.invariant ∙ sym (length-map c.self.inside.values.items numbers) in
    rw (
      c.in_ok-push.ensures.items,
      c.in-Ok.ensures.items,
      c.unwrap_or.ensures,
      c.is_some.ensures,
      ← c.self.view_is,
      map_push,
    )
    (masked_slots-push values flags _ _ one_length
    ∙ ap (λ (slot : Option (List ℤ)). masked_slots values flags ++ slot ∷ [])
    (slot_beneath-stored numbers c.args.slot c.zero.result))
