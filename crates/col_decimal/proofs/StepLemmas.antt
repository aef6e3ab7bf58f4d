-- What a step on two decimals gives, by where the divisor is 0 and where the result fits.
use Rattle.std.proofs.Common.{◌≡◌, ℕ, ℤ, Bool, true, false, List, [], ◌∷◌, Option, Some, None}
use Rattle.std.proofs.Common.{Result, Ok, refl, length, replicate}
use Rattle.col_model.specs.Cell.{Cell, Cause, null, whole}
use Rattle.col_model.specs.WholeStep.{each_row}
use Rattle.col_types.specs.Answer.{as_errors}
use Rattle.col_types.specs.Column.{Column, row_count, scalar_answer}
use Rattle.col_arity.specs.Answered.{checked_cell}
use Rattle.col_arity.proofs.KernelLemmas.{Values}
use Rattle.col_arity.proofs.StepLemmas.{IsStrict}
use Rattle.col_decimal.specs.DecimalStep.{DecimalForm, DecimalOperation, checked, checked_decimal}
use Rattle.col_decimal.specs.DecimalStep.{decimal_result, decimal_step, is_by_zero}
use Rattle.col_decimal.specs.DecimalStep.{is_decimal_result, unfit_decimal}

-- the numbers that a column of decimals stores, and their cells
abbrev pub stored_values : Values ℤ
stored_values = record {
  numbers = λ n. n ∷ [];
  cell = λ n. whole n;
  is_cell = λ n. refl;
}

-- a null beside anything gives null
pub decimal_strict : (operation : DecimalOperation) (form : DecimalForm) (precision scale : ℕ)
    → IsStrict (decimal_step operation form precision scale)
decimal_strict operation form precision scale = record {
  left = λ c. refl;
  right = null_right operation form precision scale;
} where
  null_right : (operation : DecimalOperation) (form : DecimalForm) (precision scale : ℕ)
      (c : Cell) → decimal_step operation form precision scale c null ≡ Ok null
  null_right operation form precision scale (whole a) = refl
  null_right operation form precision scale _ = refl

-- beside a null each row is null
nulls_beside : (step : Cell → Cell → Result Cell Cause) → IsStrict step → (cells : List Cell)
    → each_row step cells (replicate (length cells) null) ≡ Ok (replicate (length cells) null)
nulls_beside step strict [] = refl
nulls_beside step strict (c ∷ cells) =
    rw (strict.right c, nulls_beside step strict cells) refl

-- a column beside a null scalar is a column of nulls
pub scalar-null : (step : Cell → Cell → Result Cell Cause) → IsStrict step → (left : Column)
    → scalar_answer step left null
    ≡ Ok (record { data_type = left.data_type; cells = replicate (row_count left) null })
scalar-null step strict left = rw (nulls_beside step strict left.cells) refl

module _ (operation : DecimalOperation) (precision scale : ℕ) (a b : ℤ) where
  -- the result that is checked is what each form gives
  pub step-found : (form : DecimalForm) (n : ℤ)
      → Some n ≡ checked_decimal operation precision scale a b
      → Ok (whole n) ≡ as_errors (decimal_step operation form precision scale (whole a) (whole b))
  step-found form n h = by_tests _ _ refl refl where
    by_tests : (zero fits : Bool) → is_by_zero operation b ≡ zero
        → is_decimal_result operation precision scale a b ≡ fits
        → Ok (whole n)
        ≡ as_errors (decimal_step operation form precision scale (whole a) (whole b))
    by_tests true fits z f = let none = rw z at h in cc
    by_tests false true z f =
        let some = rw (z, f) at h in
        let same : n ≡ decimal_result operation scale a b = cc in
        rw (z, f, same) refl
    by_tests false false z f = let none = rw (z, f) at h in cc

  -- where there is none, each form gives what it gives for no result
  pub step-unfit : (form : DecimalForm) → None ≡ checked_decimal operation precision scale a b
      → decimal_step operation form precision scale (whole a) (whole b)
      ≡ unfit_decimal operation form precision a b
  step-unfit form h = by_tests _ _ refl refl where
    by_tests : (zero fits : Bool) → is_by_zero operation b ≡ zero
        → is_decimal_result operation precision scale a b ≡ fits
        → decimal_step operation form precision scale (whole a) (whole b)
        ≡ unfit_decimal operation form precision a b
    by_tests true fits z f = rw z refl
    by_tests false true z f = let some = rw (z, f) at h in cc
    by_tests false false z f = rw (z, f) refl

  -- the checked form gives null there
  pub unfit-checked : Ok null ≡ as_errors (unfit_decimal operation checked precision a b)
  unfit-checked = by_test _ refl where
    by_test : (zero : Bool) → is_by_zero operation b ≡ zero
        → Ok null ≡ as_errors (unfit_decimal operation checked precision a b)
    by_test true z = rw z refl
    by_test false z = rw z refl

  -- what is checked is what the checked form gives
  pub step-checked : (o : Option ℤ) → o ≡ checked_decimal operation precision scale a b
      → checked_cell (λ n. whole n) o
      ≡ as_errors (decimal_step operation checked precision scale (whole a) (whole b))
  step-checked (Some n) h = step-found checked n h
  step-checked None h = rw (step-unfit checked h) unfit-checked
