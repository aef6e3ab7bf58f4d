use Rattle.std.proofs.lemmas.Result.{IfOk-weaker}
use Rattle.col_flat.proofs.PartsLemmas.{cells-slots, column-cells}
use Rattle.col_flat.proofs.primitive.PrimitiveArray.from_options.Goals as goal

pub returns-clause-value : goal.returns-clause-value
returns-clause-value g c =
    IfOk-weaker c.into_array.result _ _ (λ array column.
    column-cells array _ _ _ column
    (rw c.in_ok-made.ensures.value
    (cells-slots g.T.NativeType.numbers c.args.slots.now)))
    c.into_array.ensures.value
