use Rattle.std.proofs.Common.{List, ◌<◌, arith, ap, length, map}
use Rattle.col_reduce.specs.Total.{exact_sum}
use Rattle.col_reduce.proofs.ListLemmas.{drop-next}
use Rattle.col_reduce.proofs.SumLemmas.{IsSoFar-more}
use Rattle.col_reduce.proofs.aggregate.sum.sum_slice.Goals as goal

pub loop-value-preserved : goal.loop-value-preserved
loop-value-preserved g c =
    let within : c.loop-value.value-index < length c.args.values.now = omega arith in
    IsSoFar-more (g.T.NativeWhole.value c.value-item.result) _ _ c.loop-value.invariant
    (ap (λ (xs : List g.row.T.Denot). exact_sum (map g.T.NativeWhole.value xs))
    (drop-next c.args.values.now c.loop-value.value-index c.value-item.result within
    c.value-item.is))
    c.add_modulo-total.ensures
