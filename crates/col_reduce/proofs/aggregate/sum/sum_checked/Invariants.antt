use Rattle.col_flat.specs.Parts.{slots_of}
use Rattle.col_reduce.proofs.CheckedLemmas.{IsCheckedSoFar}
use Rattle.col_reduce.proofs.aggregate.sum.sum_checked.Given as goal

-- what was added, and whether there was a value, in front of the slots that are left
abbrev pub invariant-loop-slot : goal.invariant-loop-slot
invariant-loop-slot g l =
    IsCheckedSoFar (slots_of l.fn.array) l.slot-iterator l.total l.found
