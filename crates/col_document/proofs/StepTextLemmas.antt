-- A text names a step exactly where it is the step's own name.
use Rattle.std.proofs.Common.{◌≡◌, Bool, true, false, cond, List, [], ◌∷◌, Option, Some, refl}
use Rattle.std.specs.Prelude.{find}
use Rattle.std.specs.Str.{bytes_eq}
use Rattle.std.proofs.lemmas.Slice.Eq.{bytes_eq-Decides}
use Rattle.col_eval.specs.declared.expr.Op.{Op}
use Rattle.col_eval.specs.declared.expr.Op.TheVariants.{Add, WrappingAdd, CheckedAdd}
use Rattle.col_eval.specs.declared.expr.Op.TheVariants.{SaturatingAdd, Sub, WrappingSub, CheckedSub}
use Rattle.col_eval.specs.declared.expr.Op.TheVariants.{SaturatingSub, Mul, WrappingMul, CheckedMul}
use Rattle.col_eval.specs.declared.expr.Op.TheVariants.{SaturatingMul, Div, CheckedDiv, Rem}
use Rattle.col_eval.specs.declared.expr.Op.TheVariants.{CheckedRem}
use Rattle.col_document.specs.Document.{step_named}
use Rattle.col_document.specs.Laws.{NamesItsStep}
use Rattle.col_document.specs.StepText.{named_steps, step_text}

-- what is found passes
chosen_passes : {X : Type 0} (p : X → Bool) (x y : X) (b : Bool) (rest : Option X) → p x ≡ b
    → (rest ≡ Some y → p y ≡ true) → cond b (Some x) rest ≡ Some y → p y ≡ true
chosen_passes p x y true rest h below g = let same : x ≡ y = cc in rw (← same) h
chosen_passes p x y false rest h below g = below g

found_passes : {X : Type 0} (p : X → Bool) (xs : List X) (y : X) → find p xs ≡ Some y → p y ≡ true
found_passes p [] y h = absurd cc
found_passes p (x ∷ xs) y h = chosen_passes p x y (p x) (find p xs) refl (found_passes p xs y) h

-- each step's name names it
step_named-text : (op : Op) → step_named (step_text op) ≡ Some op
step_named-text Add = refl
step_named-text WrappingAdd = refl
step_named-text CheckedAdd = refl
step_named-text SaturatingAdd = refl
step_named-text Sub = refl
step_named-text WrappingSub = refl
step_named-text CheckedSub = refl
step_named-text SaturatingSub = refl
step_named-text Mul = refl
step_named-text WrappingMul = refl
step_named-text CheckedMul = refl
step_named-text SaturatingMul = refl
step_named-text Div = refl
step_named-text CheckedDiv = refl
step_named-text Rem = refl
step_named-text CheckedRem = refl

-- a text names a step exactly where it is the step's own name
pub names_its_step : NamesItsStep
names_its_step text op = (
  λ h. (bytes_eq-Decides text (step_text op)).0
      (found_passes (λ o. bytes_eq text (step_text o)) named_steps op h),
  λ same. rw same (step_named-text op),
)
