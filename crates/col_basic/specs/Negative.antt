-- The negative of a cell: of a whole number, or of each part of an interval.
use Rattle.std.specs.Prelude.{ℤ, neg_ℤ, List, [], ◌∷◌, map, Option, Some, None, Result, Ok, Err}
use Rattle.col_model.specs.Cell.{Cell, null, whole, parts, Cause, overflow}
use Rattle.col_model.specs.Whole.{WholeType, checked_numbers, wrapped_numbers}
use Rattle.col_flat.specs.Parts.{value_cell}

-- what is made of the negatives of a cell's numbers; a cell without numbers gives null
abbrev pub on_negatives : (List ℤ → Result Cell Cause) → Cell → Result Cell Cause
on_negatives made (whole n) = made (neg_ℤ n ∷ [])
on_negatives made (parts ns) = made (map neg_ℤ ns)
on_negatives made _ = Ok null

-- the cell of some numbers, or a refusal where there are none
abbrev pub cell_or_overflow : Option (List ℤ) → Result Cell Cause
cell_or_overflow (Some ns) = Ok (value_cell ns)
cell_or_overflow None = Err overflow

-- the cell of some numbers, or null where there are none
abbrev pub cell_or_null : Option (List ℤ) → Result Cell Cause
cell_or_null (Some ns) = Ok (value_cell ns)
cell_or_null None = Ok null

-- the plain negative, by the types of the fields: refused where one of them does not fit
abbrev pub plain_negative : List WholeType → Cell → Result Cell Cause
plain_negative types = on_negatives (λ ns. cell_or_overflow (checked_numbers types ns))

-- the checked negative: null where one of the fields does not fit
abbrev pub checked_negative : List WholeType → Cell → Result Cell Cause
checked_negative types = on_negatives (λ ns. cell_or_null (checked_numbers types ns))

-- the wrapping negative: each field is wrapped into its type
abbrev pub wrapping_negative : List WholeType → Cell → Result Cell Cause
wrapping_negative types = on_negatives (λ ns. Ok (value_cell (wrapped_numbers types ns)))
