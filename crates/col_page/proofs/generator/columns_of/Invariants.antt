use Rattle.std.proofs.Common.{◌≡◌, map}
use Rattle.std.specs.List.{range_with_len}
use Rattle.col_flat.specs.Parts.{slot_cell}
use Rattle.col_page.specs.Generator.{first_cell, second_cell, third_cell}
use Rattle.col_page.proofs.generator.columns_of.Given as goal

-- the slots so far are those of the rows so far
abbrev pub invariant-loop-row : goal.invariant-loop-row
invariant-loop-row l = record {
  first : map slot_cell l.first ≡ map first_cell (range_with_len 0 l.row);
  second : map slot_cell l.second ≡ map second_cell (range_with_len 0 l.row);
  third : map slot_cell l.third ≡ map third_cell (range_with_len 0 l.row);
}
