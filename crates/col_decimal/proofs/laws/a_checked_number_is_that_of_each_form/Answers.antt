use Rattle.std.proofs.Common.{◌≡◌, Bool, true, false, Ok, refl}
use Rattle.col_model.specs.Cell.{whole}
use Rattle.col_decimal.specs.DecimalStep.{decimal_step, is_by_zero, is_decimal_result}
use Rattle.col_decimal.specs.Laws.{CheckedNumberIsThatOfEachForm}
use Rattle.col_decimal.proofs.laws.a_checked_number_is_that_of_each_form.Goals as goal

law : CheckedNumberIsThatOfEachForm
law operation form precision scale (whole a) (whole b) n h = by_tests _ _ refl refl where
  by_tests : (zero fits : Bool) → is_by_zero operation b ≡ zero
      → is_decimal_result operation precision scale a b ≡ fits
      → decimal_step operation form precision scale (whole a) (whole b) ≡ Ok (whole n)
  by_tests true fits z f = let none = rw z at h in cc
  by_tests false true z f = let given = rw (z, f) at h in rw (z, f) given
  by_tests false false z f = let none = rw (z, f) at h in cc
law operation form precision scale (whole a) _ n h = cc
law operation form precision scale _ y n h = cc

pub returns : goal.returns
returns c = law
