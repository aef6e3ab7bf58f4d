use Rattle.std.proofs.Common.{◌≡◌, length, map}
use Rattle.std.specs.Prelude.{max}
use Rattle.std.specs.Int.Digits.{digits_of}
use Rattle.col_flat.specs.Parts.{slot_cell, slots_of}
use Rattle.col_decimal.specs.Adaptive.{most_digits}
use Rattle.col_decimal.proofs.adaptive.longest.Given as goal

-- the longest of the numbers so far and of those that are left is the longest of all
abbrev pub invariant-loop-slot : goal.invariant-loop-slot
invariant-loop-slot l =
    max (length (digits_of 10 l.largest)) (most_digits (map slot_cell l.slot-iterator))
    ≡ most_digits (map slot_cell (slots_of l.fn.array))
