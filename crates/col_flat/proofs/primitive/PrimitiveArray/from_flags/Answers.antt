use Rattle.std.proofs.Common.{List, ℤ, Option, ap, map}
use Rattle.col_types.specs.DataKind.{kind_of}
use Rattle.col_flat.specs.Parts.{slot_cell}
use Rattle.col_flat.proofs.PartsLemmas.{masked_slots-flags}
use Rattle.col_flat.proofs.primitive.PrimitiveArray.from_flags.Goals as goal

pub returns-clause-slots : goal.returns-clause-slots
returns-clause-slots g c =
    rw c.in_ok-values.ensures.value
    (masked_slots-flags
    (map g.T.NativeType.numbers c.args.values.items) c.in_ok-validity.validity c.args.flags.now
    c.in_ok-validity.ensures.value)

pub returns-clause-value : goal.returns-clause-value
returns-clause-value g c =
    ap (λ (slots : List (Option (List ℤ))). record
    { data_type = kind_of c.args.data_type; cells = map slot_cell slots })
    (returns-clause-slots g c)
