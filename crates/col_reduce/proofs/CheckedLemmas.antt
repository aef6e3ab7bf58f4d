-- Exact sums, slot by slot.
use Rattle.std.proofs.Common.{◌≡◌, ◌+◌, ◌≤◌, ℤ, pos, ◌+ℤ◌, Bool, true, false, List, [], ◌∷◌}
use Rattle.std.proofs.Common.{length, map, Option, Some, refl, sym, ap, ◌∙◌, arith}
use Rattle.std.specs.Prelude.{◌||◌, unsigned_abs}
use Rattle.std.proofs.lemmas.Int.{ints}
use Rattle.col_model.specs.Whole.{WholeType}
use Rattle.col_flat.specs.Parts.{slot_cell}
use Rattle.col_reduce.specs.declared.aggregate.exact.ExactSum.{ExactSum}
use Rattle.col_reduce.specs.Exact.{exact_number}
use Rattle.col_reduce.specs.Total.{checked_total, exact_total, fitting_sum, has_value}

-- the sum so far and what is left come to the whole; so many slots are left that may carry
pub record IsCheckedSoFar (all left : List (Option (List ℤ))) (total : ExactSum)
    (found : Bool) : Type 0 where
  pub rest : exact_number total +ℤ exact_total (map slot_cell left)
      ≡ exact_total (map slot_cell all)
  pub valid : found || has_value (map slot_cell left) ≡ has_value (map slot_cell all)
  pub carries : unsigned_abs total.carries + length left ≤ length all

-- either of two truths is one
or-true : (b : Bool) → b || true ≡ true
or-true true = refl
or-true false = refl

-- a value more
pub IsCheckedSoFar-value : {all left rest : List (Option (List ℤ))} {total next : ExactSum}
    {found : Bool} (n : ℤ) → IsCheckedSoFar all left total found → left ≡ Some (n ∷ []) ∷ rest
    → exact_number next ≡ exact_number total +ℤ n
    → unsigned_abs next.carries ≤ unsigned_abs total.carries + 1
    → IsCheckedSoFar all rest next true
IsCheckedSoFar-value {all} {left} {rest} {total} {next} {found} n so is e small =
    let whole : exact_number total +ℤ (n +ℤ exact_total (map slot_cell rest))
    ≡ exact_total (map slot_cell all) = rw is at so.rest in
    let valid : found || true ≡ has_value (map slot_cell all) = rw is at so.valid in
    let same : (exact_number total +ℤ n) +ℤ exact_total (map slot_cell rest)
    ≡ exact_number total +ℤ (n +ℤ exact_total (map slot_cell rest)) = omega (arith, ints) in
    let count = ap length is in
    record {
      rest = rw e (same ∙ whole);
      valid = sym (or-true found) ∙ valid;
      carries = omega (arith, so.carries);
    }

-- behind the last slot, where there was a value
pub checked-end : (t : WholeType) {all : List (Option (List ℤ))} {total : ExactSum}
    → IsCheckedSoFar all [] total true
    → fitting_sum t (exact_number total) ≡ checked_total t (map slot_cell all)
checked-end t {all} {total} so =
    let none : exact_number total ≡ exact_number total +ℤ pos 0 = omega (arith, ints) in
    rw (← so.valid) (ap (fitting_sum t) (none ∙ so.rest))
