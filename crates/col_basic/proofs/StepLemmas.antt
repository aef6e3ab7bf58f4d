-- What a step on two numbers gives, by where the divisor is 0 and where the exact number fits.
use Rattle.std.proofs.Common.{◌≡◌, ℤ, Bool, true, false, Option, Some, None, option_map}
use Rattle.std.proofs.Common.{Ok, refl, sym, ◌∙◌}
use Rattle.std.specs.Prelude.{is_some, not}
use Rattle.col_model.specs.Cell.{Cell, null, whole}
use Rattle.col_model.specs.Whole.{WholeType, is_fitting}
use Rattle.col_model.specs.WholeStep.{Operation, Form, by_zero_answer, checked_result}
use Rattle.col_model.specs.WholeStep.{exact_result, is_by_zero, is_fitting_result, is_flagged}
use Rattle.col_model.specs.WholeStep.{is_overflowing, overflow_answer, whole_step}
use Rattle.col_types.specs.Answer.{as_errors}
use Rattle.col_arity.proofs.StepLemmas.{IsNullBeside, IsStrict}

-- a null beside anything gives null
pub whole_strict : (operation : Operation) (form : Form) (t : WholeType)
    → IsStrict (whole_step operation form t)
whole_strict operation form t = record {
  left = λ c. refl;
  right = null_right operation form t;
} where
  null_right : (operation : Operation) (form : Form) (t : WholeType) (c : Cell)
      → whole_step operation form t c null ≡ Ok null
  null_right operation form t (whole a) = refl
  null_right operation form t _ = refl

-- beside a null nothing is flagged
pub flag_strict : (operation : Operation) (t : WholeType)
    → IsNullBeside false (is_flagged operation t)
flag_strict operation t = record {
  left = λ c. refl;
  right = null_right operation t;
} where
  null_right : (operation : Operation) (t : WholeType) (c : Cell)
      → is_flagged operation t c null ≡ false
  null_right operation t (whole a) = refl
  null_right operation t _ = refl

-- by 0, a step gives what its form gives there
pub step-by_zero : (operation : Operation) (form : Form) (t : WholeType) (a b : ℤ)
    → is_by_zero operation b ≡ true
    → whole_step operation form t (whole a) (whole b) ≡ by_zero_answer form
step-by_zero operation form t a b z = rw z refl

-- an exact number that fits is what each form gives
pub step-fitting : (operation : Operation) (form : Form) (t : WholeType) (a b : ℤ)
    → is_by_zero operation b ≡ false → is_fitting_result operation t a b ≡ true
    → whole_step operation form t (whole a) (whole b) ≡ Ok (whole (exact_result operation a b))
step-fitting operation form t a b z f = rw (z, f) refl

-- where the exact number does not fit, a step gives what its form gives for it
pub step-unfit : (operation : Operation) (form : Form) (t : WholeType) (a b : ℤ)
    → is_by_zero operation b ≡ false → is_fitting_result operation t a b ≡ false
    → whole_step operation form t (whole a) (whole b)
    ≡ overflow_answer form t (exact_result operation a b)
step-unfit operation form t a b z f = rw (z, f) refl

-- a form that answers every number by another one, which is the number itself where that fits
pub total_step : (operation : Operation) (form : Form) (t : WholeType) (a b m : ℤ)
    → is_by_zero operation b ≡ false
    → is_fitting_result operation t a b ≡ is_fitting t (exact_result operation a b)
    → (is_fitting t (exact_result operation a b) ≡ true → m ≡ exact_result operation a b)
    → overflow_answer form t (exact_result operation a b) ≡ Ok (whole m)
    → Ok (whole m) ≡ as_errors (whole_step operation form t (whole a) (whole b))
total_step operation form t a b m z same fitted past = by_test _ refl where
  by_test : (fits : Bool) → is_fitting_result operation t a b ≡ fits
      → Ok (whole m) ≡ as_errors (whole_step operation form t (whole a) (whole b))
  by_test true f = rw (step-fitting operation form t a b z f, fitted (sym same ∙ f)) refl
  by_test false f = rw (step-unfit operation form t a b z f, past) refl

-- where there is a result for any two numbers, it does not fit exactly where none is checked
pub flag_step : {T : Type 0} (value : T → ℤ) (operation : Operation) (t : WholeType) (a b : ℤ)
    (o : Option T)
    → is_by_zero operation b ≡ false
    → option_map value o ≡ checked_result operation t a b
    → not (is_some o) ≡ is_overflowing operation t a b
flag_step {T} value operation t a b o z h = by_tests _ o refl h where
  by_tests : (fits : Bool) (o : Option T) → is_fitting_result operation t a b ≡ fits
      → option_map value o ≡ checked_result operation t a b
      → not (is_some o) ≡ is_overflowing operation t a b
  by_tests true None f h = let some = rw (z, f) at h in cc
  by_tests true (Some x) f h = rw (z, f) refl
  by_tests false None f h = rw (z, f) refl
  by_tests false (Some x) f h = let none = rw (z, f) at h in cc
