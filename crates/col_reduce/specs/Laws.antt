-- What the definitions of totals say together.
use Rattle.std.specs.Prelude.{◌≡◌, ◌↔◌, ℤ, ◌+ℤ◌, IsTrue, List, [], ◌∷◌, ◌++◌}
use Rattle.col_model.specs.Cell.{Cell, null, whole}
use Rattle.col_model.specs.Whole.{WholeType, is_fitting, wrapped_number}
use Rattle.col_reduce.specs.declared.aggregate.sum.Checked.TheVariants as told
use Rattle.col_reduce.specs.Total.{checked_total, exact_total, total_of}

-- the cells that are not null, in their order
abbrev pub valid_cells : List Cell → List Cell
valid_cells [] = []
valid_cells (null ∷ cells) = valid_cells cells
valid_cells (c ∷ cells) = c ∷ valid_cells cells

-- nulls count for nothing
abbrev pub TotalIsOfValidCells : Type 0
TotalIsOfValidCells =
    (t : WholeType) (cells : List Cell) → total_of t cells ≡ total_of t (valid_cells cells)

-- the total of two parts by the totals of each: a part without a value leaves that of the other
abbrev pub joined_totals : WholeType → Cell → Cell → Cell
joined_totals t null c = c
joined_totals t (whole a) (whole b) = whole (wrapped_number t (a +ℤ b))
joined_totals t c _ = c

-- the totals of the parts of a list make its total
abbrev pub TotalsOfPartsJoin : Type 0
TotalsOfPartsJoin =
    (t : WholeType) (upper lower : List Cell)
    → total_of t (upper ++ lower) ≡ joined_totals t (total_of t upper) (total_of t lower)

-- a total is a number of its type
abbrev pub TotalIsOfItsType : Type 0
TotalIsOfItsType =
    (t : WholeType) (cells : List Cell) (n : ℤ) → total_of t cells ≡ whole n
    → IsTrue (is_fitting t n)

-- a checked sum tells a number exactly where it is the total, and the exact sum
abbrev pub CheckedSumIsTheExactTotal : Type 0
CheckedSumIsTheExactTotal =
    (t : WholeType) (cells : List Cell) (n : ℤ)
    → (checked_total t cells ≡ told.Sum n)
    ↔ ((total_of t cells ≡ whole n) × (exact_total cells ≡ n))
