-- What a step gives for two cells and over rows, said by the names of its operation and form.
use Rattle.std.specs.Prelude.{◌≡◌, ◌≢◌, ℕ, ◌<◌, ℤ, pos, ◌+ℤ◌, ◌*ℤ◌, ◌^◌, int_le, int_lt}
use Rattle.std.specs.Prelude.{int_div, false, true, List, length, slice_get, Option, Some, None}
use Rattle.std.specs.Prelude.{option_map, Result, Ok, Err, ◌↔◌, ◌⊎◌}
use Rattle.std.specs.List.{All}
use Rattle.col_model.specs.Cell.{Cell, null, whole, Cause, overflow, divide_by_zero}
use Rattle.col_model.specs.Whole.{WholeType, bit_count, is_fitting}
use Rattle.col_model.specs.WholeStep.{Operation, division, remainder, Form, plain, checked}
use Rattle.col_model.specs.WholeStep.{wrapping, saturating, exact_result, is_by_zero, is_flagged}
use Rattle.col_model.specs.WholeStep.{is_fitting_result, whole_step, each_cell, each_row}
use Rattle.col_basic.specs.Bits.{not_step, xor_step}

-- the two operations that have no result by 0
abbrev pub Divides : Operation → Type 0
Divides operation = (operation ≡ division) ⊎ (operation ≡ remainder)

-- a number of the type that differs from n by a multiple of 2 ^ w
pub record IsWrapped (t : WholeType) (n m : ℤ) : Type 0 where
  pub fits : is_fitting t m ≡ true
  pub times : ℤ
  pub differs : n ≡ m +ℤ times *ℤ pos (2 ^ bit_count t)

-- a number of the type, and none of the type lies between it and n or beyond n
pub record IsNearest (t : WholeType) (n m : ℤ) : Type 0 where
  pub fits : is_fitting t m ≡ true
  pub from_below : int_lt m n ≡ true
      → (other : ℤ) → is_fitting t other ≡ true → int_le other m ≡ true
  pub from_above : int_lt n m ≡ true
      → (other : ℤ) → is_fitting t other ≡ true → int_le m other ≡ true

-- a division by 0 is refused, but in the checked form, which gives null
pub record AnswersByZero (operation : Operation) (t : WholeType) (a : ℤ) : Type 0 where
  pub plainly : whole_step operation plain t (whole a) (whole (pos 0)) ≡ Err divide_by_zero
  pub checkedly : whole_step operation checked t (whole a) (whole (pos 0)) ≡ Ok null
  pub wrapped : whole_step operation wrapping t (whole a) (whole (pos 0)) ≡ Err divide_by_zero
  pub saturated : whole_step operation saturating t (whole a) (whole (pos 0))
      ≡ Err divide_by_zero

-- an exact number that does not fit is refused, null, wrapped, or the nearest of the type
pub record AnswersUnfit (operation : Operation) (t : WholeType) (a b : ℤ) : Type 0 where
  pub plainly : whole_step operation plain t (whole a) (whole b) ≡ Err overflow
  pub checkedly : whole_step operation checked t (whole a) (whole b) ≡ Ok null
  pub wrapped : (m : ℤ) × (IsWrapped t (exact_result operation a b) m
      × (whole_step operation wrapping t (whole a) (whole b) ≡ Ok (whole m)))
  pub saturated : (m : ℤ) × (IsNearest t (exact_result operation a b) m
      × (whole_step operation saturating t (whole a) (whole b) ≡ Ok (whole m)))

-- by 0, where the exact number fits, and where it does not
pub record FormsAnswerByName : Type 0 where
  pub by_zero : (operation : Operation) (t : WholeType) (a : ℤ)
      → Divides operation → AnswersByZero operation t a
  pub fitting : (operation : Operation) (form : Form) (t : WholeType) (a b : ℤ)
      → is_by_zero operation b ≡ false → is_fitting_result operation t a b ≡ true
      → whole_step operation form t (whole a) (whole b) ≡ Ok (whole (exact_result operation a b))
  pub unfit : (operation : Operation) (t : WholeType) (a b : ℤ)
      → is_by_zero operation b ≡ false → is_fitting_result operation t a b ≡ false
      → AnswersUnfit operation t a b

-- the cell holds a whole number
abbrev pub IsWhole : Cell → Type 0
IsWhole c = (n : ℤ) × (c ≡ whole n)

-- a cell that is no whole number, on either side, gives null: it is not refused, and not flagged
pub record GivesNull (operation : Operation) (form : Form) (t : WholeType)
    (x y : Cell) : Type 0 where
  pub step : whole_step operation form t x y ≡ Ok null
  pub flag : is_flagged operation t x y ≡ false

-- so it is for each step, in each form, at each type
abbrev pub NullGivesNull : Type 0
NullGivesNull =
    (operation : Operation) (form : Form) (t : WholeType) (x y : Cell)
    → (IsWhole x → ⊥) ⊎ (IsWhole y → ⊥) → GivesNull operation form t x y

-- two whole numbers whose exact result there is, and it does not fit
pub record Overflows (operation : Operation) (t : WholeType) (x y : Cell) : Type 0 where
  pub a : ℤ
  pub b : ℤ
  pub left : x ≡ whole a
  pub right : y ≡ whole b
  pub has_result : is_by_zero operation b ≡ false
  pub unfit : is_fitting_result operation t a b ≡ false

-- a flag stands exactly where the numbers overflow
abbrev pub FlagTellsOverflow : Type 0
FlagTellsOverflow =
    (operation : Operation) (t : WholeType) (x y : Cell)
    → (is_flagged operation t x y ≡ true) ↔ Overflows operation t x y

-- a null, or a whole number that the type has
abbrev pub IsNullOrFits : WholeType → Cell → Type 0
IsNullOrFits t c = (c ≡ null) ⊎ ((n : ℤ) × ((c ≡ whole n) × (is_fitting t n ≡ true)))

-- a step gives a cell of its type
abbrev pub StepGivesItsType : Type 0
StepGivesItsType =
    (operation : Operation) (form : Form) (t : WholeType) (x y c : Cell)
    → whole_step operation form t x y ≡ Ok c → IsNullOrFits t c

-- what a step answers at a row of one list: nothing past its end
abbrev pub answer_at : (Cell → Result Cell Cause) → List Cell → ℕ → Option (Result Cell Cause)
answer_at step cells row = option_map step (slice_get cells row)

-- what a step answers for two cells, where both are there
abbrev pub answer_for : (Cell → Cell → Result Cell Cause) → Option Cell → Option Cell
    → Option (Result Cell Cause)
answer_for step (Some a) (Some b) = Some (step a b)
answer_for step _ _ = None

-- what a step answers at a row of two lists: nothing past the end of one
abbrev pub answer_beside : (Cell → Cell → Result Cell Cause) → List Cell → List Cell → ℕ
    → Option (Result Cell Cause)
answer_beside step left right row = answer_for step (slice_get left row) (slice_get right row)

-- a cell for each row, and it is what the row is answered
pub record HasEachAnswer (answers : ℕ → Option (Result Cell Cause)) (count : ℕ)
    (cells : List Cell) : Type 0 where
  pub as_many : length cells ≡ count
  pub each : (row : ℕ) (c : Cell) → slice_get cells row ≡ Some c → answers row ≡ Some (Ok c)

-- some row is refused for this cause, and each row above it is answered a cell
pub record RefusesTheLeastRow (answers : ℕ → Option (Result Cell Cause)) (count : ℕ)
    (cause : Cause) : Type 0 where
  pub row : ℕ
  pub is_row : row < count
  pub refuses : answers row ≡ Some (Err cause)
  pub above : (other : ℕ) → other < row → (c : Cell) × (answers other ≡ Some (Ok c))

-- what all rows give is the cell of each, or the cause at the least row that is refused
abbrev pub IsGatheredFrom : (ℕ → Option (Result Cell Cause)) → ℕ → Result (List Cell) Cause
    → Type 0
IsGatheredFrom answers count (Ok cells) = HasEachAnswer answers count cells
IsGatheredFrom answers count (Err cause) = RefusesTheLeastRow answers count cause

-- so it is for a step on two lists of one length, and for a step on one list
pub record RowsAnswerOrTheLeastRefuses : Type 0 where
  pub beside : (step : Cell → Cell → Result Cell Cause) (left right : List Cell)
      → length left ≡ length right
      → IsGatheredFrom (answer_beside step left right) (length left) (each_row step left right)
  pub alone : (step : Cell → Result Cell Cause) (cells : List Cell)
      → IsGatheredFrom (answer_at step cells) (length cells) (each_cell step cells)

-- where the checked form gives a whole number at a row, a form that gives cells gives the same
abbrev pub CheckedSlotsAreThoseOfOtherForms : Type 0
CheckedSlotsAreThoseOfOtherForms =
    (operation : Operation) (form : Form) (t : WholeType) (left right cells others : List Cell)
    (row : ℕ) (n : ℤ)
    → each_row (whole_step operation checked t) left right ≡ Ok cells
    → each_row (whole_step operation form t) left right ≡ Ok others
    → slice_get cells row ≡ Some (whole n) → slice_get others row ≡ Some (whole n)

-- a sum, a difference or a product of two whole numbers is null in the checked form exactly where
-- the overflowing form flags
abbrev pub CheckedIsNullWhereFlagged : Type 0
CheckedIsNullWhereFlagged =
    (operation : Operation) (t : WholeType) (a b : ℤ) → (Divides operation → ⊥)
    → (whole_step operation checked t (whole a) (whole b) ≡ Ok null)
    ↔ (is_flagged operation t (whole a) (whole b) ≡ true)

-- the quotient times the divisor, and the remainder, are the dividend
pub record RebuildsTheDividend (t : WholeType) (a b : ℤ) : Type 0 where
  pub quotient : ℤ
  pub rest : ℤ
  pub divided : whole_step division plain t (whole a) (whole b) ≡ Ok (whole quotient)
  pub remains : whole_step remainder plain t (whole a) (whole b) ≡ Ok (whole rest)
  pub rebuilt : quotient *ℤ b +ℤ rest ≡ a

-- so it is where the quotient fits
abbrev pub QuotientAndRemainderRebuildTheDividend : Type 0
QuotientAndRemainderRebuildTheDividend =
    (t : WholeType) (a b : ℤ) → is_fitting t a ≡ true → b ≢ pos 0
    → is_fitting t (int_div a b) ≡ true → RebuildsTheDividend t a b

-- the bits of each number are turned, then turned again, and the cells are those of before
pub record IsKeptByNotTwice (t : WholeType) (cells : List Cell) : Type 0 where
  pub once : List Cell
  pub turned : each_cell (not_step t) cells ≡ Ok once
  pub turned_back : each_cell (not_step t) once ≡ Ok cells

-- so it is for nulls and numbers of the type
abbrev pub NotTwiceKeepsSlots : Type 0
NotTwiceKeepsSlots =
    (t : WholeType) (cells : List Cell) → All (IsNullOrFits t) cells → IsKeptByNotTwice t cells

-- the left cell beside a whole number, null beside any other cell
abbrev pub left_beside_number : Cell → Cell → Result Cell Cause
left_beside_number a (whole b) = Ok a
left_beside_number a _ = Ok null

-- xor with one list twice gives the left cell at each row where that list has a number, else null
pub record IsKeptByXorTwice (t : WholeType) (left right : List Cell) : Type 0 where
  pub once : List Cell
  pub changed : each_row (xor_step t) left right ≡ Ok once
  pub changed_back : each_row (xor_step t) once right ≡ each_row left_beside_number left right

-- so it is for nulls and numbers of the type
abbrev pub XorTwiceKeepsSlots : Type 0
XorTwiceKeepsSlots =
    (t : WholeType) (left right : List Cell) → All (IsNullOrFits t) left
    → IsKeptByXorTwice t left right
