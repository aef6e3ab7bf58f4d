use Rattle.std.proofs.Common.{◌∙◌, sym, map}
use Rattle.std.proofs.lemmas.List.{length-map}
use Rattle.col_flat.proofs.PartsLemmas.{count_by-null_count, null_count-unmasked}
use Rattle.col_flat.proofs.primitive.PrimitiveArray.null_count.Goals as goal

pub returns-in-Some : goal.returns-in-Some
returns-in-Some g c =
    let one_length = rw c.in-Some.is at c.self.invariant.1 in
    let values = map g.T.NativeType.numbers c.self.inside.values in
    rw (← c.self.view_is, c.in-Some.is)
    (c.unset_bits.ensures
    ∙ count_by-null_count values c.in-Some.mask
    (one_length ∙ sym (length-map c.self.inside.values g.T.NativeType.numbers)))

pub returns-in-None : goal.returns-in-None
returns-in-None g c =
    rw (← c.self.view_is, c.in-None.is)
    (null_count-unmasked (map g.T.NativeType.numbers c.self.inside.values))
