use Rattle.std.proofs.Common.{◌∙◌, length, sym}
use Rattle.col_reduce.proofs.MaskLemmas.{some_length, total_of-values}
use Rattle.col_reduce.proofs.aggregate.sum.sum_valid.Goals as goal

pub returns-else-is_empty : goal.returns-else-is_empty
returns-else-is_empty g c =
    total_of-values g.T.NativeType.numbers g.T.NativeWhole.value g.met.T.NativeWhole.value_law
    g.T.NativeWhole.whole_type c.args.values.now c.sum_slice.result
    (some_length (length c.args.values.now) (sym c.is_empty.ensures ∙ c.if-is_empty.false))
    c.sum_slice.ensures.answer
