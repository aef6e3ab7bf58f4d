-- Digits behind a minus sign or none, read as a number.
use Rattle.std.proofs.Common.{◌≡◌, ℕ, zero, suc, ◌^◌, ◌<◌, ℤ, pos, List, [], ◌∷◌, ◌++◌, length}
use Rattle.std.proofs.Common.{get_or, true, false, ◌==◌, int_lt, Some, FitsSigned, w64}
use Rattle.std.proofs.Common.{refl, sym, ap, ◌∙◌, subst, arith, append-nil}
use Rattle.std.proofs.lemmas.Bool.{ne_eqb}
use Rattle.std.proofs.lemmas.Str.Parse.{digit_from_value}
use Rattle.std.specs.Str.Parse.{AllDigits, digits_value}
use Rattle.fast_float.specs.Text.{Parts, scan, digits_of, with_sign, IsInteger, IsWellFormed}
use Rattle.fast_float.proofs.Writing.{scan-text_of}
use Rattle.serde_json.specs.Find.{of_integer}
use Rattle.serde_json.specs.Read.{number_of}
use Rattle.col_json.specs.Digits.{Spells, IsHeld}
use Rattle.col_json.proofs.NumberLemmas.{unsigned-read, negative-read}

-- the parts of a numeral that is digits alone
abbrev alone : List ℕ → Parts
alone ds =
    record {
      whole = ds;
      point = false;
      fraction = [];
      exponent_negative = false;
      exponent = [];
      len = length (ds ++ []);
    }

-- digits alone are read as their parts
scan-digits : (ds : List ℕ) → AllDigits 10 ds → scan ds ≡ alone ds
scan-digits ds h =
    let formed : IsWellFormed (alone ds) = record {
      whole_digits = h;
      fraction_digits = tt;
      exponent_digits = tt;
      no_point = λ _. refl;
      no_exponent = λ _. refl;
      len_is = refl;
    } in
    ap scan (sym (append-nil ds)) ∙ scan-text_of (alone ds) formed

-- digits alone are a whole number
integer-digits : (ds : List ℕ) → AllDigits 10 ds → 0 < length ds → IsInteger (scan ds)
integer-digits ds h some =
    subst IsInteger (sym (scan-digits ds h)) (some, refl, refl)

-- its digits have the value that the digits spell
value-digits : (ds : List ℕ) → AllDigits 10 ds → digits_of (scan ds) ≡ digits_value 10 ds
value-digits ds h = ap digits_of (scan-digits ds h) ∙ ap (digits_value 10) (append-nil ds)

-- digits begin with no minus sign
no-minus : (ds : List ℕ) → AllDigits 10 ds → (get_or ds 0 0 == 45) ≡ false
no-minus [] h = refl
no-minus (d ∷ ds) h =
    let range = digit_from_value d h.0 in ne_eqb d 45 (λ e. omega (arith, range.0, e))

-- a number below 0 that is held has 64 bits
held-below : (m : ℕ) → IsHeld true m
    → FitsSigned w64 (with_sign true m) × (int_lt (with_sign true m) (pos 0) ≡ true)
held-below zero h = absurd (omega (arith, h.0))
held-below (suc m) h = (grind (arith, h.1), refl)

-- digits behind a minus sign or none, in range, are the whole number that they spell
pub spelled-number : (s : List ℕ) (n : ℤ) → Spells s n → number_of s ≡ Some (of_integer n)
spelled-number s n (false, ds, text, h, some, is, held) =
    let value = value-digits ds h in
    ap number_of text
    ∙ unsigned-read ds (no-minus ds h) (integer-digits ds h some)
    (subst (λ m. m < 2 ^ 64) (sym value) held)
    ∙ ap (λ m. Some (of_integer (pos m))) value ∙ ap (λ i. Some (of_integer i)) (sym is)
spelled-number s n (true, ds, text, h, some, is, held) =
    let value = value-digits ds h in
    let below = subst (λ m. FitsSigned w64 (with_sign true m)
    × (int_lt (with_sign true m) (pos 0) ≡ true)) (sym value)
    (held-below (digits_value 10 ds) held) in
    ap number_of text
    ∙ negative-read (45 ∷ ds) refl (integer-digits ds h some) below.0 below.1
    ∙ ap (λ m. Some (of_integer (with_sign true m))) value
    ∙ ap (λ i. Some (of_integer i)) (sym is)
