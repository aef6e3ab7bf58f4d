-- The whole numbers of JSON numbers, by the parts of their texts.
use Rattle.std.proofs.Common.{◌≡◌, ℕ, zero, suc, ◌^◌, ◌<◌, ◌≤◌, List, length, drop, get_or}
use Rattle.std.proofs.Common.{true, false}
use Rattle.std.proofs.Common.{◌==◌, pos, int_lt, Some, FitsSigned}
use Rattle.std.proofs.Common.{w64}
use Rattle.std.proofs.Common.{refl}
use Rattle.std.proofs.Common.{arith}
use Rattle.std.proofs.lemmas.Bool.{lt-ltb, le-leb}
use Rattle.fast_float.specs.Text.{Parts, scan, digits_of, with_sign, IsInteger}
use Rattle.serde_json.specs.Find.{of_integer}
use Rattle.serde_json.specs.Read.{number_of, number_from, is_integer}

-- digits alone
is_integer-true : (p : Parts) → IsInteger p → is_integer p ≡ true
is_integer-true p h = rw (lt-ltb 0 (length p.whole) h.0, h.1, h.2) refl

-- a number without a sign
pub unsigned-read : (s : List ℕ) → (get_or s 0 0 == 45) ≡ false → IsInteger (scan s)
    → digits_of (scan s) < 2 ^ 64 → number_of s ≡ Some (of_integer (pos (digits_of (scan s))))
unfolding number_of
unsigned-read s first h fits =
    rw (first, is_integer-true (scan s) h, lt-ltb (digits_of (scan s)) (2 ^ 64) fits) refl

negative-from : (p : Parts) (n : ℕ) → digits_of p ≡ n → IsInteger p
    → FitsSigned w64 (with_sign true n) → int_lt (with_sign true n) (pos 0) ≡ true
    → number_from true p ≡ Some (of_integer (with_sign true n))
negative-from p zero e h fits below = absurd (grind (arith, below))
negative-from p (suc n) e h fits below =
    let some : 0 < suc n = omega arith in
    let within : suc n ≤ 2 ^ 63 = grind (arith, fits) in
    rw (is_integer-true p h, e, lt-ltb 0 (suc n) some, le-leb (suc n) (2 ^ 63) within) refl

-- a number with a minus sign, below 0
pub negative-read : (s : List ℕ) → (get_or s 0 0 == 45) ≡ true → IsInteger (scan (drop 1 s))
    → FitsSigned w64 (with_sign true (digits_of (scan (drop 1 s))))
    → int_lt (with_sign true (digits_of (scan (drop 1 s)))) (pos 0) ≡ true
    → number_of s ≡ Some (of_integer (with_sign true (digits_of (scan (drop 1 s)))))
unfolding number_of
negative-read s first h fits below =
    rw first (negative-from (scan (drop 1 s)) _ refl h fits below)
