use Rattle.std.proofs.Common.{◌∙◌, FitsSigned, map, rules}
use Rattle.std.specs.Int.{w128}
use Rattle.std.proofs.lemmas.Int.{to_z-of_z}
use Rattle.col_flat.specs.Parts.{slot_cell}
use Rattle.col_decimal.proofs.AdaptiveLemmas.{longest-number}
use Rattle.col_decimal.proofs.adaptive.longest.Goals as goal

pub loop-slot-preserved-in-Some-slot : goal.loop-slot-preserved-in-Some-slot
loop-slot-preserved-in-Some-slot c =
    let number = c.in-Some-slot.number in
    let fits : FitsSigned w128 number = search rules in
    let size = rw (to_z-of_z w128 number fits) at c.unsigned_abs.ensures.value in
    let next = rw c.in-Some-slot.is at c.in-Some.ensures.steps in
    let before = rw next at c.loop-slot.invariant in
    rw (c.max-largest.ensures, size)
    (longest-number c.loop-slot.largest number (map slot_cell c.next.new.self) ∙ before)
