-- What the definitions on decimals say together.
use Rattle.std.specs.Prelude.{◌≡◌, ◌↔◌, ℕ, ◌≤◌, ℤ, true, Contains, Ok}
use Rattle.col_model.specs.Cell.{Cell, whole}
use Rattle.col_types.specs.Column.{Column}
use Rattle.col_decimal.specs.Adaptive.{adaptive_answer}
use Rattle.col_decimal.specs.Decimal.{digit_count, is_within, precision_of}
use Rattle.col_decimal.specs.DecimalStep.{DecimalForm, DecimalOperation, checked, decimal_step}

-- a number lies within a precision exactly where it has no more digits
abbrev pub WithinTellsDigits : Type 0
WithinTellsDigits =
    (precision : ℕ) (n : ℤ) → (is_within precision n ≡ true) ↔ (digit_count n ≤ precision)

-- a number that a step gives, in any form, is one of the precision
abbrev pub StepGivesItsPrecision : Type 0
StepGivesItsPrecision =
    (operation : DecimalOperation) (form : DecimalForm) (precision scale : ℕ) (x y : Cell) (n : ℤ)
    → decimal_step operation form precision scale x y ≡ Ok (whole n) → digit_count n ≤ precision

-- where the checked form has a number, each form has it
abbrev pub CheckedNumberIsThatOfEachForm : Type 0
CheckedNumberIsThatOfEachForm =
    (operation : DecimalOperation) (form : DecimalForm) (precision scale : ℕ) (x y : Cell) (n : ℤ)
    → decimal_step operation checked precision scale x y ≡ Ok (whole n)
    → decimal_step operation form precision scale x y ≡ Ok (whole n)

-- each number of an adaptive answer has no more digits than the answer's type
abbrev pub AdaptiveAnswerHoldsItsNumbers : Type 0
AdaptiveAnswerHoldsItsNumbers =
    (operation : DecimalOperation) (left right answer : Column)
    → adaptive_answer operation left right ≡ Ok answer
    → (n : ℤ) → Contains answer.cells (whole n) → digit_count n ≤ precision_of answer.data_type
