-- Sums that are wrapped on the way.
use Rattle.std.proofs.Common.{◌≡◌, ℕ, suc, ◌+◌, ◌-◌, ◌*◌, ◌/◌, ◌%◌, ◌^◌, ◌<◌, ◌≤◌, ℤ, pos, negsuc}
use Rattle.std.proofs.Common.{◌+ℤ◌, ◌-ℤ◌, Bool, true, false, refl, sym, ap, ◌∙◌, arith, mod-lt}
use Rattle.std.specs.Prelude.{int_le}
use Rattle.std.specs.Int.{w8, w16, w32, w64, w128, int_rem_euclid}
use Rattle.std.proofs.lemmas.Int.{ints, int_rem_euclid_is}
use Rattle.std.proofs.lemmas.Nat.{pow_pos}
use Rattle.std.proofs.Math.Nat.{add-mul-mod_self_right, mod-add-div', mul-le-mul_left}
use Rattle.col_model.specs.Whole.{WholeType, signed, unsigned, bit_count, greatest_number}
use Rattle.col_model.specs.Whole.{lowered_into, wrapped_number}

-- a multiple of the divisor more leaves the remainder
rem-multiple : (z : ℤ) (n j : ℕ) → 0 < n
    → int_rem_euclid (z +ℤ pos (j * n)) (pos n) ≡ int_rem_euclid z (pos n)
rem-multiple (pos a) n j h = ap pos (add-mul-mod_self_right a j n)
rem-multiple (negsuc a) n j h =
    let m : ℕ = suc a * n - suc a in
    let room : suc a * 1 ≤ suc a * n = mul-le-mul_left (suc a) h in
    int_rem_euclid_is (negsuc a +ℤ pos (j * n)) (pos n) n (suc a) (m + j * n) h refl
    (omega (arith, ints))
    ∙ ap pos (add-mul-mod_self_right m j n)
    ∙ sym (int_rem_euclid_is (negsuc a) (pos n) n (suc a) m h refl (omega (arith, ints)))

-- a remainder in place of a number that is added leaves the sum's remainder
rem-add : (a b : ℤ) (n : ℕ) → 0 < n
    → int_rem_euclid (int_rem_euclid a (pos n) +ℤ b) (pos n) ≡ int_rem_euclid (a +ℤ b) (pos n)
rem-add (pos a) b n h =
    let whole : a % n + a / n * n ≡ a = mod-add-div' a n in
    let same : pos a +ℤ b ≡ (pos (a % n) +ℤ b) +ℤ pos (a / n * n) = omega (arith, ints) in
    rw same (sym (rem-multiple (pos (a % n) +ℤ b) n (a / n) h))
rem-add (negsuc a) b n h =
    let whole : a % n + a / n * n ≡ a = mod-add-div' a n in
    let small = mod-lt a h in
    let same : pos (n - 1 - a % n) +ℤ b ≡ (negsuc a +ℤ b) +ℤ pos ((a / n + 1) * n) =
    omega (arith, ints) in
    rw same (rem-multiple (negsuc a +ℤ b) n (a / n + 1) h)

-- so does a number that is lowered into a type
rem-lowered : (t : WholeType) (m b : ℤ)
    → int_rem_euclid (lowered_into t m +ℤ b) (pos (2 ^ bit_count t))
    ≡ int_rem_euclid (m +ℤ b) (pos (2 ^ bit_count t))
rem-lowered t m b = by_test _ refl where
  by_test : (low : Bool) → int_le m (greatest_number t) ≡ low
      → int_rem_euclid (lowered_into t m +ℤ b) (pos (2 ^ bit_count t))
      ≡ int_rem_euclid (m +ℤ b) (pos (2 ^ bit_count t))
  by_test true e = rw e refl
  by_test false e =
      let d : ℕ = 2 ^ bit_count t in
      let same : m +ℤ b ≡ ((m -ℤ pos d) +ℤ b) +ℤ pos (1 * d) = omega (arith, ints) in
      rw (e, same) (sym (rem-multiple ((m -ℤ pos d) +ℤ b) d 1 (pow_pos (bit_count t))))

-- to wrap on the way changes nothing
pub wrapped-add : (t : WholeType) (a b : ℤ)
    → wrapped_number t (wrapped_number t a +ℤ b) ≡ wrapped_number t (a +ℤ b)
wrapped-add t a b =
    let d : ℕ = 2 ^ bit_count t in
    ap (lowered_into t) (rem-lowered t (int_rem_euclid a (pos d)) b
    ∙ rem-add a b d (pow_pos (bit_count t)))

-- the same on the right
pub wrapped-add_right : (t : WholeType) (a b : ℤ)
    → wrapped_number t (a +ℤ wrapped_number t b) ≡ wrapped_number t (a +ℤ b)
wrapped-add_right t a b =
    let left : a +ℤ wrapped_number t b ≡ wrapped_number t b +ℤ a = omega (arith, ints) in
    let right : b +ℤ a ≡ a +ℤ b = omega (arith, ints) in
    rw left (wrapped-add t b a ∙ ap (wrapped_number t) right)

-- to wrap twice changes nothing
pub wrapped-wrapped : (t : WholeType) (a : ℤ)
    → wrapped_number t (wrapped_number t a) ≡ wrapped_number t a
wrapped-wrapped t a =
    let left : wrapped_number t a ≡ wrapped_number t a +ℤ pos 0 = omega (arith, ints) in
    let right : a +ℤ pos 0 ≡ a = omega (arith, ints) in
    ap (wrapped_number t) left ∙ wrapped-add t a (pos 0) ∙ ap (wrapped_number t) right

-- 0 is a number of each type
wrapped-zero : (t : WholeType) → wrapped_number t (pos 0) ≡ pos 0
wrapped-zero (signed w8) = refl
wrapped-zero (signed w16) = refl
wrapped-zero (signed w32) = refl
wrapped-zero (signed w64) = refl
wrapped-zero (signed w128) = refl
wrapped-zero (unsigned w8) = refl
wrapped-zero (unsigned w16) = refl
wrapped-zero (unsigned w32) = refl
wrapped-zero (unsigned w64) = refl
wrapped-zero (unsigned w128) = refl

-- a sum so far, wrapped into the type, which with what is left comes to the whole
pub record IsSoFar (t : WholeType) (total left all : ℤ) : Type 0 where
  pub wrapped : wrapped_number t total ≡ total
  pub rest : wrapped_number t (total +ℤ left) ≡ wrapped_number t all

-- before the first number
pub IsSoFar-start : (t : WholeType) (total all : ℤ) → total ≡ pos 0 → IsSoFar t total all all
IsSoFar-start t total all e =
    let same : pos 0 +ℤ all ≡ all = omega (arith, ints) in
    record { wrapped = rw e (wrapped-zero t); rest = rw (e, same) refl }

-- a number more
pub IsSoFar-more : {t : WholeType} {total left all : ℤ} (n rest next : ℤ)
    → IsSoFar t total left all → left ≡ n +ℤ rest
    → next ≡ wrapped_number t (total +ℤ n) → IsSoFar t next rest all
IsSoFar-more {t} {total} {left} {all} n rest next so is e =
    let same : (total +ℤ n) +ℤ rest ≡ total +ℤ (n +ℤ rest) = omega (arith, ints) in
    record {
      wrapped = rw e (wrapped-wrapped t (total +ℤ n));
      rest = rw e (wrapped-add t (total +ℤ n) rest ∙ ap (wrapped_number t) same
          ∙ ap (λ (m : ℤ). wrapped_number t (total +ℤ m)) (sym is) ∙ so.rest);
    }

-- behind the last number
pub IsSoFar-end : {t : WholeType} {total left all : ℤ} → IsSoFar t total left all → left ≡ pos 0
    → total ≡ wrapped_number t all
IsSoFar-end {t} {total} {left} {all} so e =
    let same : total ≡ total +ℤ pos 0 = omega (arith, ints) in
    sym so.wrapped ∙ ap (wrapped_number t) same
    ∙ ap (λ (m : ℤ). wrapped_number t (total +ℤ m)) (sym e) ∙ so.rest
