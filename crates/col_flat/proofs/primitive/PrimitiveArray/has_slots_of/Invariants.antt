use Rattle.std.proofs.Common.{◌≡◌, ◌↔◌, length, map}
use Rattle.col_flat.specs.Parts.{column_of, slot_cell}
use Rattle.col_flat.proofs.primitive.PrimitiveArray.has_slots_of.Given as goal

-- as many slots are left of both, and the arrays' slots are equal exactly where those are
abbrev pub invariant-loop-slot : goal.invariant-loop-slot
invariant-loop-slot g l = record {
  lengths : length l.slots ≡ length l.others;
  same : (map slot_cell l.slots ≡ map slot_cell l.others)
      ↔ ((column_of l.self).cells ≡ (column_of l.other).cells);
}
