use Rattle.std.proofs.Common.{◌≡◌, map, option_map, take}
use Rattle.col_flat.proofs.mutable.MutablePrimitiveArray.from_slots.Given as goal

-- the slots that were read are made
abbrev pub invariant-loop-slot : goal.invariant-loop-slot
invariant-loop-slot g l =
    l.made ≡ map (option_map g.T.NativeType.numbers) (take l.slot-index l.slots)
