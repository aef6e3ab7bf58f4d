use Rattle.std.proofs.Common.{◌≡◌, ◌≢◌, ℕ, zero, suc, ◌≤◌, ◌-◌, ◌%◌, ◌^◌, ℤ, pos, negsuc}
use Rattle.std.proofs.Common.{neg_ℤ, true, false, refl, arith, le-leb}
use Rattle.std.specs.Prelude.{int_le, int_div, int_rem, unsigned_abs}
use Rattle.std.specs.Ordering.{int_eq}
use Rattle.std.proofs.lemmas.Bool.{and_parts}
use Rattle.std.proofs.lemmas.Bool.Decides.{nat_tests}
use Rattle.std.proofs.lemmas.Int.{ints, quot-rem}
use Rattle.std.proofs.Math.Nat.{mod-le}
use mir.Val.{bits, hbits}
use Rattle.col_model.specs.Whole.{WholeType, signed, unsigned, is_fitting}
use Rattle.col_model.specs.Whole.{least_number, greatest_number}
use Rattle.col_model.specs.WholeStep.{division, plain, remainder}
use Rattle.col_basic.specs.Laws.{QuotientAndRemainderRebuildTheDividend}
use Rattle.col_basic.proofs.StepLemmas.{step-fitting}
use Rattle.col_basic.proofs.laws.quotient_and_remainder_rebuild_the_dividend.Goals as goal

-- of three numbers in their order, the first is at most the third
int_le-trans : (l m n : ℤ) → int_le l m ≡ true → int_le m n ≡ true → int_le l n ≡ true
int_le-trans l m n h g = grind (arith, ints, nat_tests)

-- a number between two that fit fits
between_fits : (t : WholeType) (low high n : ℤ) → is_fitting t low ≡ true
    → is_fitting t high ≡ true → int_le low n ≡ true → int_le n high ≡ true
    → is_fitting t n ≡ true
between_fits t low high n f g h k =
    let least : int_le (least_number t) low ≡ true = (and_parts _ _ f).0 in
    let greatest : int_le high (greatest_number t) ≡ true = (and_parts _ _ g).1 in
    rw (
      int_le-trans (least_number t) low n least h,
      int_le-trans n high (greatest_number t) k greatest,
    ) refl

-- 0 beside a number and beside its negative
pos-ge : (m : ℕ) → int_le (pos 0) (pos m) ≡ true
pos-ge m = le-leb 0 m (omega arith)

neg-le : (m : ℕ) → int_le (neg_ℤ (pos m)) (pos 0) ≡ true
neg-le zero = refl
neg-le (suc m) = refl

-- a negative number beside one that is nearer to 0
neg-ge : (a m : ℕ) → m ≤ suc a → int_le (negsuc a) (neg_ℤ (pos m)) ≡ true
neg-ge a zero h = refl
neg-ge a (suc m) h = le-leb m a (omega arith)

-- 0 fits each type
zero_fits : (t : WholeType) → is_fitting t (pos 0) ≡ true
zero_fits (signed w) = rw (neg-le (2 ^ hbits w)) (pos-ge (2 ^ hbits w - 1))
zero_fits (unsigned w) = pos-ge (2 ^ bits w - 1)

-- the remainder of a number that fits fits, since it lies between 0 and that number
remainder_fits : (t : WholeType) (a b : ℤ) → is_fitting t a ≡ true
    → is_fitting t (int_rem a b) ≡ true
remainder_fits t (pos a) b f =
    let m = a % unsigned_abs b in
    between_fits t (pos 0) (pos a) (pos m) (zero_fits t) f (pos-ge m)
    (le-leb m a (mod-le a (unsigned_abs b)))
remainder_fits t (negsuc a) b f =
    let m = suc a % unsigned_abs b in
    between_fits t (negsuc a) (pos 0) (neg_ℤ (pos m)) f (zero_fits t)
    (neg-ge a m (mod-le (suc a) (unsigned_abs b))) (neg-le m)

-- the test of a divisor that is not 0
not_zero : (b : ℤ) → b ≢ pos 0 → int_eq b (pos 0) ≡ false
not_zero b h = grind (arith, ints)

-- both fit, and std has the sum
law : QuotientAndRemainderRebuildTheDividend
law t a b f h g =
    let z = not_zero b h in
    record {
      quotient = int_div a b;
      rest = int_rem a b;
      divided = step-fitting division plain t a b z g;
      remains = step-fitting remainder plain t a b z (rw (g, remainder_fits t a b f) refl);
      rebuilt = quot-rem a b;
    }

pub returns : goal.returns
returns c = law
