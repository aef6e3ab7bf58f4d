-- A wrapped number is of its type, and so is the nearest; each is what its name says.
use Rattle.std.proofs.Common.{◌≡◌, ℕ, ℤ, pos, negsuc, ◌+ℤ◌, ◌-ℤ◌, ◌*ℤ◌, ◌-◌, ◌^◌, ◌<◌, ◌%◌}
use Rattle.std.proofs.Common.{Bool, true, false, refl, sym, ◌∙◌, arith, mod-lt}
use Rattle.std.specs.Prelude.{int_le, int_lt}
use Rattle.std.specs.Int.{w8, w16, w32, w64, w128, int_rem_euclid, int_div_euclid}
use Rattle.std.proofs.lemmas.Bool.Decides.{nat_tests}
use Rattle.std.proofs.lemmas.Int.{ints}
use Rattle.std.proofs.lemmas.Nat.{pow_pos}
use Rattle.std.proofs.Math.IntN.{suc_ℤ, suc_ℤ-*ℤ}
use Rattle.std.proofs.Math.Nat.{mod-add-div}
use Rattle.col_model.specs.Whole.{WholeType, signed, unsigned, bit_count, is_fitting}
use Rattle.col_model.specs.Whole.{least_number, greatest_number, lowered_into, nearest_number}
use Rattle.col_model.specs.Whole.{wrapped_number}
use Rattle.std.proofs.Common.{inl, inr, Result, Ok}
use Rattle.std.proofs.lemmas.Bool.{and_parts}
use Rattle.col_model.specs.Cell.{Cell, whole, Cause}
use Rattle.col_model.specs.WholeStep.{Operation, addition, subtraction, multiplication, division}
use Rattle.col_model.specs.WholeStep.{remainder, Form, plain, checked, wrapping, saturating}
use Rattle.col_model.specs.WholeStep.{by_zero_answer, exact_result, is_by_zero}
use Rattle.col_model.specs.WholeStep.{is_fitting_result, overflow_answer, whole_step}
use Rattle.col_basic.specs.Laws.{IsNearest, IsNullOrFits, IsWrapped, StepGivesItsType}
use Rattle.col_basic.proofs.StepLemmas.{step-by_zero, step-fitting, step-unfit}

-- a number is its remainder and a multiple of the divisor
euclid : (n : ℤ) (d : ℕ) → 0 < d
    → n ≡ int_rem_euclid n (pos d) +ℤ int_div_euclid n (pos d) *ℤ pos d
euclid (pos a) d h = let whole = mod-add-div a d in grind (arith, ints)
euclid (negsuc a) d h =
    let whole = mod-add-div a d in
    let small = mod-lt a h in
    grind (arith, ints)

-- the remainder is below the divisor
rem_below : (n : ℤ) (d : ℕ) → 0 < d
    → (m : ℕ) × ((int_rem_euclid n (pos d) ≡ pos m) × (m < d))
rem_below (pos a) d h = (a % d, (refl, mod-lt a h))
rem_below (negsuc a) d h = (d - 1 - a % d, (refl, omega arith))

-- a number that is lowered into a type fits it
lowered-fits : (t : WholeType) (m : ℕ) → m < 2 ^ bit_count t
    → is_fitting t (lowered_into t (pos m)) ≡ true
lowered-fits (signed w8) m h = grind (arith, ints, nat_tests)
lowered-fits (signed w16) m h = grind (arith, ints, nat_tests)
lowered-fits (signed w32) m h = grind (arith, ints, nat_tests)
lowered-fits (signed w64) m h = grind (arith, ints, nat_tests)
lowered-fits (signed w128) m h = grind (arith, ints, nat_tests)
lowered-fits (unsigned w8) m h = grind (arith, ints, nat_tests)
lowered-fits (unsigned w16) m h = grind (arith, ints, nat_tests)
lowered-fits (unsigned w32) m h = grind (arith, ints, nat_tests)
lowered-fits (unsigned w64) m h = grind (arith, ints, nat_tests)
lowered-fits (unsigned w128) m h = grind (arith, ints, nat_tests)

-- what is taken off and put back
put_back : (n m p d : ℤ) → n ≡ m +ℤ p → n ≡ (m -ℤ d) +ℤ (p +ℤ d)
put_back n m p d h = omega (arith, ints)

-- one multiple more of what is taken off
one_more : (n m k d : ℤ) → n ≡ m +ℤ k *ℤ d → n ≡ (m -ℤ d) +ℤ suc_ℤ k *ℤ d
one_more n m k d h = rw (suc_ℤ-*ℤ k d) (put_back n m (k *ℤ d) d h)

-- it differs by a multiple of 2 ^ w
lowered-times : (t : WholeType) (n m k : ℤ) → n ≡ m +ℤ k *ℤ pos (2 ^ bit_count t)
    → (j : ℤ) × (n ≡ lowered_into t m +ℤ j *ℤ pos (2 ^ bit_count t))
lowered-times t n m k h = by_test _ refl where
  by_test : (low : Bool) → int_le m (greatest_number t) ≡ low
      → (j : ℤ) × (n ≡ lowered_into t m +ℤ j *ℤ pos (2 ^ bit_count t))
  by_test true e = (k, rw e h)
  by_test false e = (suc_ℤ k, rw e (one_more n m k (pos (2 ^ bit_count t)) h))

-- a wrapped number
pub wrapped : (t : WholeType) (n : ℤ) → IsWrapped t n (wrapped_number t n)
wrapped t n =
    let some = pow_pos (bit_count t) in
    let small = rem_below n (2 ^ bit_count t) some in
    let times = lowered-times t n _ _ (euclid n (2 ^ bit_count t) some) in
    record {
      fits = rw small.1.0 (lowered-fits t small.0 small.1.1);
      times = times.0;
      differs = times.1;
    }

-- the ends of a type are of it, the least below the greatest
ends_fit : (t : WholeType)
    → (is_fitting t (least_number t) ≡ true) × (is_fitting t (greatest_number t) ≡ true)
ends_fit (signed w8) = (refl, refl)
ends_fit (signed w16) = (refl, refl)
ends_fit (signed w32) = (refl, refl)
ends_fit (signed w64) = (refl, refl)
ends_fit (signed w128) = (refl, refl)
ends_fit (unsigned w8) = (refl, refl)
ends_fit (unsigned w16) = (refl, refl)
ends_fit (unsigned w32) = (refl, refl)
ends_fit (unsigned w64) = (refl, refl)
ends_fit (unsigned w128) = (refl, refl)

-- of two numbers in their order, the second is not below the first
lt-not : (n m : ℤ) → int_lt n m ≡ true → int_lt m n ≡ true → ⊥
lt-not n m h g = grind (arith, ints, nat_tests)

-- a number that is not below another is at least that one
not_lt-le : (n m : ℤ) → int_lt n m ≡ false → int_le m n ≡ true
not_lt-le n m h = grind (arith, ints, nat_tests)

-- the nearest number, by the two tests
nearest_of : (t : WholeType) (n : ℤ) (low high : Bool)
    → int_lt n (least_number t) ≡ low → int_lt (greatest_number t) n ≡ high
    → IsNearest t n (nearest_number t n)
nearest_of t n true high l h =
    rw l (record {
      fits = (ends_fit t).0;
      from_below = λ above. absurd (lt-not n (least_number t) l above);
      from_above = λ below other f. (and_parts _ _ f).0;
    })
nearest_of t n false true l h =
    rw (l, h) (record {
      fits = (ends_fit t).1;
      from_below = λ above other f. (and_parts _ _ f).1;
      from_above = λ below. absurd (lt-not (greatest_number t) n h below);
    })
nearest_of t n false false l h =
    rw (l, h) (record {
      fits = rw (not_lt-le n _ l, not_lt-le _ n h) refl;
      from_below = λ above. absurd (lt-not n n above above);
      from_above = λ below. absurd (lt-not n n below below);
    })

-- the nearest number
pub nearest : (t : WholeType) (n : ℤ) → IsNearest t n (nearest_number t n)
nearest t n = nearest_of t n _ _ refl refl

-- what fits as a result fits as a number
result-fits : (operation : Operation) (t : WholeType) (a b : ℤ)
    → is_fitting_result operation t a b ≡ true → is_fitting t (exact_result operation a b) ≡ true
result-fits addition t a b f = f
result-fits subtraction t a b f = f
result-fits multiplication t a b f = f
result-fits division t a b f = f
result-fits remainder t a b f = (and_parts _ _ f).1

-- a whole number that fits
typed_whole : (t : WholeType) (n : ℤ) (c : Cell) → is_fitting t n ≡ true
    → ◌≡◌ {A = Result Cell Cause} (Ok (whole n)) (Ok c) → IsNullOrFits t c
typed_whole t n c f h = let same : c ≡ whole n = cc in inr (n, (same, f))

-- what a form gives where the number does not fit
typed_unfit : (form : Form) (t : WholeType) (n : ℤ) (c : Cell)
    → overflow_answer form t n ≡ Ok c → IsNullOrFits t c
typed_unfit plain t n c h = cc
typed_unfit checked t n c h = inl cc
typed_unfit wrapping t n c h = typed_whole t _ c (wrapped t n).fits h
typed_unfit saturating t n c h = typed_whole t _ c (nearest t n).fits h

-- what a form gives by 0
typed_by_zero : (form : Form) (t : WholeType) (c : Cell)
    → by_zero_answer form ≡ Ok c → IsNullOrFits t c
typed_by_zero plain t c h = cc
typed_by_zero checked t c h = inl cc
typed_by_zero wrapping t c h = cc
typed_by_zero saturating t c h = cc

-- a step on two numbers, by the tests
typed_numbers : (operation : Operation) (form : Form) (t : WholeType) (a b : ℤ) (c : Cell)
    (zero fits : Bool)
    → is_by_zero operation b ≡ zero → is_fitting_result operation t a b ≡ fits
    → whole_step operation form t (whole a) (whole b) ≡ Ok c → IsNullOrFits t c
typed_numbers operation form t a b c true fits z f h =
    typed_by_zero form t c (sym (step-by_zero operation form t a b z) ∙ h)
typed_numbers operation form t a b c false true z f h =
    typed_whole t _ c (result-fits operation t a b f)
    (sym (step-fitting operation form t a b z f) ∙ h)
typed_numbers operation form t a b c false false z f h =
    typed_unfit form t _ c (sym (step-unfit operation form t a b z f) ∙ h)

-- a step gives a cell of its type
pub typed_step : StepGivesItsType
typed_step operation form t (whole a) (whole b) c h =
    typed_numbers operation form t a b c _ _ refl refl h
typed_step operation form t (whole a) _ c h = inl cc
typed_step operation form t _ y c h = inl cc

-- of two numbers in their order, the second is not at most the first
lt-le-not : (n m : ℤ) → int_lt n m ≡ true → int_le m n ≡ true → ⊥
lt-le-not n m h g = grind (arith, ints, nat_tests)

-- a number that fits is the wrapped one
pub wrapped-fitting : (t : WholeType) (n : ℤ) → is_fitting t n ≡ true → wrapped_number t n ≡ n
wrapped-fitting (signed w8) n f = grind (arith, ints, nat_tests)
wrapped-fitting (signed w16) n f = grind (arith, ints, nat_tests)
wrapped-fitting (signed w32) n f = grind (arith, ints, nat_tests)
wrapped-fitting (signed w64) n f = grind (arith, ints, nat_tests)
wrapped-fitting (signed w128) n f = grind (arith, ints, nat_tests)
wrapped-fitting (unsigned w8) n f = grind (arith, ints, nat_tests)
wrapped-fitting (unsigned w16) n f = grind (arith, ints, nat_tests)
wrapped-fitting (unsigned w32) n f = grind (arith, ints, nat_tests)
wrapped-fitting (unsigned w64) n f = grind (arith, ints, nat_tests)
wrapped-fitting (unsigned w128) n f = grind (arith, ints, nat_tests)

-- a number that fits is the nearest to itself
pub nearest-fitting : (t : WholeType) (n : ℤ) → is_fitting t n ≡ true → nearest_number t n ≡ n
nearest-fitting t n f = by_tests _ _ refl refl where
  by_tests : (low high : Bool)
      → int_lt n (least_number t) ≡ low → int_lt (greatest_number t) n ≡ high
      → nearest_number t n ≡ n
  by_tests true high l h =
      absurd (lt-le-not n (least_number t) l (and_parts _ _ f).0)
  by_tests false true l h =
      absurd (lt-le-not (greatest_number t) n h (and_parts _ _ f).1)
  by_tests false false l h = rw (l, h) refl
