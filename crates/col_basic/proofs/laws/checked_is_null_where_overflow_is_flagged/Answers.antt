use Rattle.std.proofs.Common.{◌≡◌, ℤ, Bool, true, false, Ok, refl, inl, inr}
use Rattle.std.specs.Prelude.{◌↔◌}
use Rattle.col_model.specs.Cell.{null, whole}
use Rattle.col_model.specs.Whole.{WholeType}
use Rattle.col_model.specs.WholeStep.{Operation, addition, subtraction, multiplication, division}
use Rattle.col_model.specs.WholeStep.{remainder, checked}
use Rattle.col_model.specs.WholeStep.{is_by_zero, is_fitting_result, is_flagged, whole_step}
use Rattle.col_basic.specs.Laws.{CheckedIsNullWhereFlagged, Divides}
use Rattle.col_basic.proofs.laws.checked_is_null_where_overflow_is_flagged.Goals as goal

-- the three other operations have a result by every number
never_by_zero : (operation : Operation) (b : ℤ) → (Divides operation → ⊥)
    → is_by_zero operation b ≡ false
never_by_zero addition b h = refl
never_by_zero subtraction b h = refl
never_by_zero multiplication b h = refl
never_by_zero division b h = absurd (h (inl refl))
never_by_zero remainder b h = absurd (h (inr refl))

-- by whether the result fits
by_test : (operation : Operation) (t : WholeType) (a b : ℤ) (fits : Bool)
    → is_by_zero operation b ≡ false → is_fitting_result operation t a b ≡ fits
    → (whole_step operation checked t (whole a) (whole b) ≡ Ok null)
    ↔ (is_flagged operation t (whole a) (whole b) ≡ true)
by_test operation t a b true z f = rw (z, f) (λ h. absurd cc, λ h. absurd cc)
by_test operation t a b false z f = rw (z, f) (λ h. refl, λ h. refl)

-- so it is by the test of the result itself
law : CheckedIsNullWhereFlagged
law operation t a b h = by_test operation t a b _ (never_by_zero operation b h) refl

pub returns : goal.returns
returns c = law
