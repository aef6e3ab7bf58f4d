use Rattle.std.proofs.Common.{map, ◌*◌}
use Rattle.col_reduce.proofs.MaskLemmas.{IsMaskedSoFar}
use Rattle.col_reduce.proofs.aggregate.masked.sum_masked.Given as goal

-- what was added, and whether there was a value, in front of the slots that are left
abbrev pub invariant-loop-i : goal.invariant-loop-i
invariant-loop-i g l =
    IsMaskedSoFar g.T.NativeWhole.whole_type (map g.T.NativeType.numbers l.values) l.mask
    (64 * l.i) (g.T.NativeWhole.value l.total) l.found
