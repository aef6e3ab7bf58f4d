-- What the cells of a column add up to.
use Rattle.std.specs.Prelude.{ℤ, pos, ◌+ℤ◌, Bool, false, true, if◌then◌else◌, List, [], ◌∷◌}
use Rattle.std.specs.Prelude.{Option, Some, None, Result, Ok, Err}
use Rattle.col_model.specs.Cell.{Cell, null, whole}
use Rattle.col_model.specs.Whole.{WholeType, is_fitting, wrapped_number}
use Rattle.col_types.specs.CellOf.{physical_fields}
use Rattle.col_types.specs.Column.{Column}
use Rattle.col_types.specs.DataKind.{DataKind}
use Rattle.col_types.specs.DataType.{physical_type_of}
use Rattle.col_types.specs.declared.error.Error.{Error}
use Rattle.col_types.specs.declared.error.Error.TheVariants.{InvalidArgumentError}
use Rattle.col_types.specs.declared.error.Reason.TheVariants.{SumType}
use Rattle.col_flat.specs.Parts.{ScalarParts, slot_cell}
use Rattle.col_array.specs.declared.any_scalar.AnyScalar.{AnyScalar}
use Rattle.col_array.specs.Any.{scalar_parts}
use Rattle.col_reduce.specs.declared.aggregate.sum.Checked.{Checked}
use Rattle.col_reduce.specs.declared.aggregate.sum.Checked.TheVariants as told

-- the sum of numbers, however large
abbrev pub exact_sum : List ℤ → ℤ
exact_sum [] = pos 0
exact_sum (n ∷ ns) = n +ℤ exact_sum ns

-- the sum of the whole numbers among cells, however large: 5, null and 7 give 12
abbrev pub exact_total : List Cell → ℤ
exact_total [] = pos 0
exact_total (whole n ∷ cells) = n +ℤ exact_total cells
exact_total (_ ∷ cells) = exact_total cells

-- some cell is not null
abbrev pub has_value : List Cell → Bool
has_value [] = false
has_value (null ∷ cells) = has_value cells
has_value (_ ∷ cells) = true

-- the total of cells: null where all are null, else the one number of the type that differs from
-- their sum by a multiple of 2 ^ w: of 8 bits with a sign, 100 and 100 give -56
abbrev pub total_of : WholeType → List Cell → Cell
total_of t cells =
    if has_value cells then whole (wrapped_number t (exact_total cells)) else null

-- a sum where it fits the type, else that it does not
abbrev pub fitting_sum : WholeType → ℤ → Checked ℤ
fitting_sum t n = if is_fitting t n then told.Sum n else told.Overflow

-- the sum of cells where it fits the type, or that it does not, or that all are null: of 8 bits
-- with a sign, 100, 100 and -100 give 100, and 100 and 100 an overflow
abbrev pub checked_total : WholeType → List Cell → Checked ℤ
checked_total t cells =
    if has_value cells then fitting_sum t (exact_total cells) else told.NoValue

-- an answer with the number that its value stands for
abbrev pub told_number : {T : Type 0} → (T → ℤ) → Checked T → Checked ℤ
told_number value told.NoValue = told.NoValue
told_number value (told.Sum n) = told.Sum (value n)
told_number value told.Overflow = told.Overflow

-- the type of the one field of values, and none where they have several or are no numbers
abbrev pub only_field : List WholeType → Option WholeType
only_field (t ∷ []) = Some t
only_field _ = None

-- the numbers that the columns of a type hold, where each slot is one number, as the days of a date
-- are: such columns are summed
abbrev pub summed_type : DataKind → Option WholeType
summed_type t = only_field (physical_fields (physical_type_of t))

-- a cell with its type
pub record TypedCell : Type 0 where
  pub data_type : DataKind
  pub cell : Cell

-- the cell that a scalar's parts stand for
abbrev pub typed_slot : ScalarParts → TypedCell
typed_slot s = record { data_type = s.data_type; cell = slot_cell s.slot }

-- the cell that a scalar of any type stands for
abbrev pub typed_cell : AnyScalar → TypedCell
typed_cell s = typed_slot (scalar_parts s)

-- the total of a column by the numbers that it holds, under the column's type
abbrev pub total_under : Option WholeType → Column → Result TypedCell Error
total_under None c = Err (InvalidArgumentError SumType)
total_under (Some t) c = Ok (record { data_type = c.data_type; cell = total_of t c.cells })

-- what a sum answers for a column: its total under its type, refused where such columns are not
-- summed
abbrev pub sum_answer : Column → Result TypedCell Error
sum_answer c = total_under (summed_type c.data_type) c
