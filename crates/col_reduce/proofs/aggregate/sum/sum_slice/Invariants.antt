use Rattle.std.proofs.Common.{map, drop}
use Rattle.col_reduce.specs.Total.{exact_sum}
use Rattle.col_reduce.proofs.SumLemmas.{IsSoFar}
use Rattle.col_reduce.proofs.aggregate.sum.sum_slice.Given as goal

-- what was added, and what is left
abbrev pub invariant-loop-value : goal.invariant-loop-value
invariant-loop-value g l =
    IsSoFar g.T.NativeWhole.whole_type (g.T.NativeWhole.value l.total)
    (exact_sum (map g.T.NativeWhole.value (drop l.value-index l.values)))
    (exact_sum (map g.T.NativeWhole.value l.values))
