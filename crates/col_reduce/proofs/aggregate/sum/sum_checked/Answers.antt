use Rattle.std.proofs.Common.{◌+ℤ◌, ◌∙◌, FitsSigned, ap, rules, ℤ}
use Rattle.std.specs.Int.{w128}
use Rattle.std.proofs.lemmas.Int.{to_z-of_z}
use Rattle.col_reduce.specs.Exact.{exact_number}
use Rattle.col_reduce.proofs.CheckedLemmas.{IsCheckedSoFar-value, checked-end}
use Rattle.col_reduce.proofs.aggregate.sum.sum_checked.Goals as goal

pub loop-slot-preserved-in-Some-slot : goal.loop-slot-preserved-in-Some-slot
loop-slot-preserved-in-Some-slot g c =
    let next = rw (c.in-Some-slot.is, g.met.T.NativeWhole.value_law c.in-Some-slot.value)
    at c.in-Some.ensures.steps in
    let fits : FitsSigned w128 c.to_i128.result = search rules in
    let added = rw (to_z-of_z w128 c.to_i128.result fits) at c.plus-total.ensures.value in
    IsCheckedSoFar-value (g.T.NativeWhole.value c.in-Some-slot.value) c.loop-slot.invariant next
    (added
    ∙ ap (λ (n : ℤ). exact_number c.loop-slot.total +ℤ n) c.to_i128.ensures.value)
    c.plus-total.ensures.carries

pub returns-then-found : goal.returns-then-found
returns-then-found g c =
    let last = rw (c.in-None.ensures.steps.0, c.if-found.true) at c.loop-slot.invariant in
    record { answer = c.told.ensures ∙ checked-end g.T.NativeWhole.whole_type last }
