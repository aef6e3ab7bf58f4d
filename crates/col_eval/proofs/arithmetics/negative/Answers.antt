use Rattle.col_flat.specs.Parts.{column_of}
use Rattle.col_eval.proofs.NegationLemmas.{negative_answer-fields}
use Rattle.col_eval.proofs.arithmetics.negative.Goals as goal

pub returns : goal.returns
returns g c =
    let stored = rw c.data_type-data_type.ensures.value at
    c.data_type-data_type.ensures.made.stored in
    rw (negative_answer-fields (column_of c.args.array.now) _ _ c.requires stored
    g.met.T.NativeType.fields_law) c.negate.ensures.answer
