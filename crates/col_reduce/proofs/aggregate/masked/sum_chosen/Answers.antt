use Rattle.std.proofs.Common.{◌+ℤ◌, ◌<◌, ◌∙◌, List, ap, arith, length, map, ℤ}
use Rattle.col_model.specs.Whole.{wrapped_number}
use Rattle.col_reduce.specs.Chosen.{chosen_sum}
use Rattle.col_reduce.proofs.ListLemmas.{drop-next}
use Rattle.col_reduce.proofs.SumLemmas.{IsSoFar-more}
use Rattle.col_reduce.proofs.aggregate.masked.sum_chosen.Goals as goal

pub loop-value-preserved : goal.loop-value-preserved
loop-value-preserved g c =
    let within : c.loop-value.value-index < length c.args.values.now = omega arith in
    IsSoFar-more _ _ _ c.loop-value.invariant
    (ap (λ (xs : List g.row.T.Denot). chosen_sum (map g.T.NativeWhole.value xs) c.loop-value.left)
    (drop-next c.args.values.now c.loop-value.value-index c.value-item.result within
    c.value-item.is))
    (c.add_modulo-total.ensures
    ∙ ap (λ (n : ℤ). wrapped_number g.T.NativeWhole.whole_type
    (g.T.NativeWhole.value c.loop-value.total +ℤ n)) c.value_or_zero.ensures)
