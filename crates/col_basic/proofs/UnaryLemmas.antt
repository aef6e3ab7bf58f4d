-- Steps on numbers alone, and numbers that are looked for in a type.
use Rattle.std.proofs.Common.{◌≡◌, ℤ, Bool, true, false, Option, Some, None, option_map}
use Rattle.std.proofs.Common.{Result, Ok, refl}
use Rattle.std.specs.Prelude.{if◌then◌else◌}
use Rattle.col_model.specs.Cell.{Cell, null, whole}
use Rattle.col_model.specs.Whole.{WholeType, checked_number, is_fitting}
use Rattle.col_arity.specs.Answered.{checked_cell}
use Rattle.col_basic.specs.Bits.{on_numbers}
use Rattle.col_arity.proofs.StepLemmas.{IsStrict}

-- what is worked out of two numbers is null beside a null
pub numbers_strict : (result : ℤ → ℤ → ℤ) → IsStrict (on_numbers result)
numbers_strict result = record { left = λ c. refl; right = null_right result } where
  null_right : (result : ℤ → ℤ → ℤ) (c : Cell) → on_numbers result c null ≡ Ok null
  null_right result (whole a) = refl
  null_right result _ = refl

-- a number that is looked for in a type, as a cell
pub checked_as_cell : {T : Type 0} (value : T → ℤ) (t : WholeType) (n m : ℤ) (o : Option T)
    → m ≡ n
    → option_map value o ≡ checked_number t m
    → checked_cell (λ x. whole (value x)) o ≡ Ok (if is_fitting t n then whole n else null)
checked_as_cell {T} value t n m o same h = by_test _ o refl (rw same at h) where
  by_test : (fits : Bool) (o : Option T) → is_fitting t n ≡ fits
      → option_map value o ≡ checked_number t n
      → checked_cell (λ x. whole (value x)) o ≡ Ok (if is_fitting t n then whole n else null)
  by_test true None f h = let some = rw f at h in cc
  by_test true (Some x) f h =
      let some = rw f at h in
      let is : value x ≡ n = cc in
      rw (f, is) refl
  by_test false None f h = rw f refl
  by_test false (Some x) f h = let none = rw f at h in cc
