use Rattle.std.proofs.Common.{map, drop}
use Rattle.col_reduce.specs.Chosen.{chosen_sum}
use Rattle.col_reduce.proofs.SumLemmas.{IsSoFar}
use Rattle.col_reduce.proofs.aggregate.masked.sum_chosen.Given as goal

-- what was added, and what the bits that are left choose of the values that are left
abbrev pub invariant-loop-value : goal.invariant-loop-value
invariant-loop-value g l =
    IsSoFar g.T.NativeWhole.whole_type (g.T.NativeWhole.value l.total)
    (chosen_sum (map g.T.NativeWhole.value (drop l.value-index l.values)) l.left)
    (chosen_sum (map g.T.NativeWhole.value l.values) l.fn.chosen)
