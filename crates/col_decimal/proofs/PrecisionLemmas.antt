-- A cell that a step on decimals gives is null, or a number of the precision.
use Rattle.std.proofs.Common.{◌≡◌, ℕ, ◌≤◌, ℤ, Bool, true, false, Ok, refl, arith}
use Rattle.std.specs.Prelude.{⊤}
use Rattle.std.proofs.lemmas.Bool.{and_parts}
use Rattle.std.proofs.lemmas.Bool.Decides.{nat_tests}
use Rattle.std.proofs.lemmas.Int.{ints}
use Rattle.col_model.specs.Cell.{Cell, null, whole}
use Rattle.col_model.specs.Whole.{is_fitting}
use Rattle.col_decimal.specs.Decimal.{is_within, stored_type}
use Rattle.col_decimal.specs.DecimalStep.{DecimalForm, DecimalOperation, plain, checked}
use Rattle.col_decimal.specs.DecimalStep.{saturating, by_zero_decimal, decimal_result}
use Rattle.col_decimal.specs.DecimalStep.{decimal_step, is_by_zero, is_decimal_result}
use Rattle.col_decimal.specs.DecimalStep.{is_negative_result, overflow_decimal, signed_limit}
use Rattle.col_decimal.specs.DecimalStep.{worked_number}
use Rattle.col_decimal.proofs.DecimalLemmas.{power_fits, signed_limit-within}

-- the cell is null, or a number within the precision
abbrev pub IsNullOrWithin : ℕ → Cell → Type 0
IsNullOrWithin precision null = ⊤
IsNullOrWithin precision (whole n) = is_within precision n ≡ true
IsNullOrWithin precision _ = ⊥

-- null is what a form gives by 0, where it gives a cell
by_zero : (form : DecimalForm) (precision : ℕ) (c : Cell) → by_zero_decimal form ≡ Ok c
    → IsNullOrWithin precision c
by_zero plain precision c h = absurd cc
by_zero checked precision c h = let same : null ≡ c = cc in rw (← same) tt
by_zero saturating precision c h = absurd cc

-- for too many digits it is null or the limit
too_many : (form : DecimalForm) (precision : ℕ) (is_negative : Bool) (c : Cell)
    → overflow_decimal form precision is_negative ≡ Ok c → IsNullOrWithin precision c
too_many plain precision is_negative c h = absurd cc
too_many checked precision is_negative c h = let same : null ≡ c = cc in rw (← same) tt
too_many saturating precision is_negative c h =
    let same : whole (signed_limit precision is_negative) ≡ c = cc in
    rw (← same) (signed_limit-within precision is_negative)

-- a cell that a step gives
pub given_cell : (operation : DecimalOperation) (form : DecimalForm) (precision scale : ℕ)
    (x y c : Cell) → decimal_step operation form precision scale x y ≡ Ok c
    → IsNullOrWithin precision c
given_cell operation form precision scale (whole a) (whole b) c h = by_tests _ _ refl refl where
  by_tests : (zero fits : Bool) → is_by_zero operation b ≡ zero
      → is_decimal_result operation precision scale a b ≡ fits → IsNullOrWithin precision c
  by_tests true fits z f = by_zero form precision c (rw z at h)
  by_tests false true z f =
      let given = rw (z, f) at h in
      let same : whole (decimal_result operation scale a b) ≡ c = cc in
      rw (← same)
      (and_parts (is_fitting stored_type (worked_number operation scale a b))
      (is_within precision (decimal_result operation scale a b)) f).1
  by_tests false false z f =
      too_many form precision (is_negative_result operation a b) c (rw (z, f) at h)
given_cell operation form precision scale (whole a) _ c h =
    let same : null ≡ c = cc in rw (← same) tt
given_cell operation form precision scale _ y c h =
    let same : null ≡ c = cc in rw (← same) tt

-- a number of at most 38 digits is one of 128 bits
pub within-fits : (precision : ℕ) (n : ℤ) → precision ≤ 38 → is_within precision n ≡ true
    → is_fitting stored_type n ≡ true
within-fits precision n small h =
    let below = (power_fits precision small).sfits in
    grind (arith, ints, nat_tests)
