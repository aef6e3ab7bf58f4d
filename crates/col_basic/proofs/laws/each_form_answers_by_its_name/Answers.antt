use Rattle.std.proofs.Common.{◌≡◌, refl, inl, inr, ℤ, false}
use Rattle.col_model.specs.Whole.{WholeType, nearest_number, wrapped_number}
use Rattle.col_model.specs.WholeStep.{Operation, plain, checked, wrapping, saturating}
use Rattle.col_model.specs.WholeStep.{exact_result, is_by_zero}
use Rattle.col_model.specs.WholeStep.{is_fitting_result}
use Rattle.col_basic.specs.Laws.{AnswersByZero, AnswersUnfit, Divides}
use Rattle.col_basic.proofs.StepLemmas.{step-fitting, step-unfit}
use Rattle.col_basic.proofs.FormLemmas.{nearest, wrapped}
use Rattle.col_basic.proofs.laws.each_form_answers_by_its_name.Goals as goal

zero_of : (operation : Operation) (t : WholeType) (a : ℤ) → Divides operation
    → AnswersByZero operation t a
zero_of operation t a (inl h) =
    record {
      plainly = rw h refl;
      checkedly = rw h refl;
      wrapped = rw h refl;
      saturated = rw h refl;
    }
zero_of operation t a (inr h) =
    record {
      plainly = rw h refl;
      checkedly = rw h refl;
      wrapped = rw h refl;
      saturated = rw h refl;
    }

unfit_of : (operation : Operation) (t : WholeType) (a b : ℤ)
    → is_by_zero operation b ≡ false → is_fitting_result operation t a b ≡ false
    → AnswersUnfit operation t a b
unfit_of operation t a b z f =
    let n = exact_result operation a b in
    record {
      plainly = step-unfit operation plain t a b z f;
      checkedly = step-unfit operation checked t a b z f;
      wrapped = (wrapped_number t n, (wrapped t n, step-unfit operation wrapping t a b z f));
      saturated = (nearest_number t n, (nearest t n, step-unfit operation saturating t a b z f));
    }

pub returns : goal.returns
returns c = record { by_zero = zero_of; fitting = step-fitting; unfit = unfit_of }
