-- One step on two cells of whole numbers, by operation, form and type.
use Rattle.std.specs.Prelude.{ℤ, pos, ◌+ℤ◌, ◌-ℤ◌, ◌*ℤ◌, int_div, int_rem, Bool, false, not, ◌&&◌}
use Rattle.std.specs.Prelude.{if◌then◌else◌, List, [], ◌∷◌, Option, Some, None, Result, Ok, Err}
use Rattle.std.specs.Ordering.{int_eq}
use Rattle.col_model.specs.Cell.{Cell, null, whole, Cause, overflow, divide_by_zero}
use Rattle.col_model.specs.Whole.{WholeType, is_fitting, wrapped_number, nearest_number}

-- what is worked out
pub data Operation : Type 0 where
  addition : Operation
  subtraction : Operation
  multiplication : Operation
  division : Operation
  remainder : Operation

-- what is done where the exact number does not fit: the row is refused, or its cell is null, the
-- number wrapped into the type, or the nearer end of the type
pub data Form : Type 0 where
  plain : Form
  checked : Form
  wrapping : Form
  saturating : Form

-- the exact number, however large: a quotient goes toward zero, a remainder has the dividend's sign
abbrev pub exact_result : Operation → ℤ → ℤ → ℤ
exact_result addition a b = a +ℤ b
exact_result subtraction a b = a -ℤ b
exact_result multiplication a b = a *ℤ b
exact_result division a b = int_div a b
exact_result remainder a b = int_rem a b

-- a quotient or a remainder by 0, of which there is none
abbrev pub is_by_zero : Operation → ℤ → Bool
is_by_zero addition b = false
is_by_zero subtraction b = false
is_by_zero multiplication b = false
is_by_zero division b = int_eq b (pos 0)
is_by_zero remainder b = int_eq b (pos 0)

-- the exact number fits; for a remainder the quotient has to fit too
abbrev pub is_fitting_result : Operation → WholeType → ℤ → ℤ → Bool
is_fitting_result addition t a b = is_fitting t (a +ℤ b)
is_fitting_result subtraction t a b = is_fitting t (a -ℤ b)
is_fitting_result multiplication t a b = is_fitting t (a *ℤ b)
is_fitting_result division t a b = is_fitting t (int_div a b)
is_fitting_result remainder t a b = is_fitting t (int_div a b) && is_fitting t (int_rem a b)

-- what the overflowing form flags: there is an exact number, and it does not fit
abbrev pub is_overflowing : Operation → WholeType → ℤ → ℤ → Bool
is_overflowing operation t a b =
    not (is_by_zero operation b) && not (is_fitting_result operation t a b)

-- the flag beside the cell of an overflowing form: false where one of the two is no whole number
abbrev pub is_flagged : Operation → WholeType → Cell → Cell → Bool
is_flagged operation t (whole a) (whole b) = is_overflowing operation t a b
is_flagged operation t _ _ = false

-- the exact number where there is one and it fits, else none
abbrev pub checked_result : Operation → WholeType → ℤ → ℤ → Option ℤ
checked_result operation t a b =
    if is_by_zero operation b then None
    else (if is_fitting_result operation t a b then Some (exact_result operation a b) else None)

-- what a form gives for a divisor of 0: no call divides in the forms that wrap and saturate, and
-- the step refuses there
abbrev pub by_zero_answer : Form → Result Cell Cause
by_zero_answer plain = Err divide_by_zero
by_zero_answer checked = Ok null
by_zero_answer wrapping = Err divide_by_zero
by_zero_answer saturating = Err divide_by_zero

-- what a form gives where the exact number does not fit
abbrev pub overflow_answer : Form → WholeType → ℤ → Result Cell Cause
overflow_answer plain t n = Err overflow
overflow_answer checked t n = Ok null
overflow_answer wrapping t n = Ok (whole (wrapped_number t n))
overflow_answer saturating t n = Ok (whole (nearest_number t n))

-- an exact number as a cell of its type: itself where it fits, else as the form says
abbrev pub formed : Form → WholeType → Bool → ℤ → Result Cell Cause
formed form t fits n = if fits then Ok (whole n) else overflow_answer form t n

-- a step on two cells: of two whole numbers a divisor of 0 comes before what fits; a null beside
-- anything gives null, and no refusal, and so does a cell that is no whole number
abbrev pub whole_step : Operation → Form → WholeType → Cell → Cell → Result Cell Cause
whole_step operation form t (whole a) (whole b) =
    if is_by_zero operation b then by_zero_answer form
    else formed form t (is_fitting_result operation t a b) (exact_result operation a b)
whole_step operation form t _ _ = Ok null

-- a cell before the cells of the rows below, or the first of the causes
abbrev pub before : Result Cell Cause → Result (List Cell) Cause → Result (List Cell) Cause
before (Err cause) rest = Err cause
before (Ok cell) (Err cause) = Err cause
before (Ok cell) (Ok cells) = Ok (cell ∷ cells)

-- a step at each row of two lists of one length: all its cells, or the cause at the least row that
-- it refuses
abbrev pub each_row : (Cell → Cell → Result Cell Cause) → List Cell → List Cell
    → Result (List Cell) Cause
each_row step [] right = Ok []
each_row step (a ∷ left) [] = Ok []
each_row step (a ∷ left) (b ∷ right) = before (step a b) (each_row step left right)

-- a step at each row of one list: all its cells, or the cause at the least row that it refuses
abbrev pub each_cell : (Cell → Result Cell Cause) → List Cell → Result (List Cell) Cause
each_cell step [] = Ok []
each_cell step (a ∷ cells) = before (step a) (each_cell step cells)
