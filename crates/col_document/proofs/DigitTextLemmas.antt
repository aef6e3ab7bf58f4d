-- Texts that spell a number.
use Rattle.std.proofs.Common.{◌≡◌, ℕ, ◌<◌, ◌==◌, ◌&&◌, ◌++◌, List, [], ◌∷◌, length, Bool, true}
use Rattle.std.proofs.Common.{false}
use Rattle.std.proofs.Common.{cond, ℤ, zero, suc, Some, None, refl, sym, ap, ◌∙◌, arith}
use Rattle.std.specs.Prelude.{slice_index}
use Rattle.std.specs.Fmt.{sign_text}
use Rattle.std.specs.Str.Parse.{AllDigits, digits_value, signed_digits_value, without_leading_sign}
use Rattle.std.proofs.lemmas.Bool.{false≢true}
use Rattle.std.proofs.lemmas.Option.{none-some, same_Some}
use Rattle.std.proofs.lemmas.Str.Parse.{digit_from_value}
use Rattle.col_json.specs.Digits.{IsHeld, Spells, with_sign}
use Rattle.col_model.specs.Whole.{WholeType, signed, unsigned, checked_number, is_fitting}
use Rattle.col_document.specs.Document.{is_digits, is_sign_had, number_read}
use Rattle.col_document.proofs.NumberTextLemmas.{Decides-is_digits}

-- digits begin with no sign
no_sign : (digits : List ℕ) → 0 < length digits → AllDigits 10 digits
    → ((slice_index digits 0 == 45) ≡ false) × ((slice_index digits 0 == 43) ≡ false)
no_sign [] some all = absurd (omega arith)
no_sign (c ∷ cs) some all =
    let r = digit_from_value c all.0 in (grind (arith, r.0, r.1), grind (arith, r.0, r.1))

-- a number that fits is what `checked_number` gives
fitted : (b : Bool) (n m : ℤ) → cond b (Some n) None ≡ Some m → (b ≡ true) × (n ≡ m)
fitted true n m e = (refl, same_Some _ _ e)
fitted false n m e = absurd (none-some _ e)

-- a sign that a type has, or none, stands in front
sign-had : (t : WholeType) (negative : Bool) (digits : List ℕ) → 0 < length digits
    → AllDigits 10 digits → IsHeld negative (digits_value 10 digits)
    → is_fitting t (with_sign negative (digits_value 10 digits)) ≡ true
    → is_sign_had t (sign_text negative ++ digits) ≡ true
sign-had (signed w) negative digits some all held fits = refl
sign-had (unsigned w) false digits some all held fits = rw ((no_sign digits some all).0) refl
sign-had (unsigned w) true digits some all held fits = never (digits_value 10 digits) held.0 fits
  where
    never : (n : ℕ) → 0 < n → is_fitting (unsigned w) (with_sign true n) ≡ true
        → is_sign_had (unsigned w) (45 ∷ digits) ≡ true
    never zero above e = absurd (omega arith)
    never (suc n) above e = absurd (false≢true e)

-- the text has the digits behind its sign, and their number
spelled-parts : (negative : Bool) (digits : List ℕ) → 0 < length digits → AllDigits 10 digits
    → (without_leading_sign (sign_text negative ++ digits) ≡ digits)
    × (signed_digits_value 10 (sign_text negative ++ digits)
    ≡ with_sign negative (digits_value 10 digits))
spelled-parts true digits some all = (refl, refl)
spelled-parts false digits some all =
    let first = no_sign digits some all in (rw (first.0, first.1) refl, rw (first.0, first.1) refl)

-- a number where three tests hold
tested : (a b c : Bool) (n : ℤ) → a ≡ true → b ≡ true → c ≡ true
    → cond (a && b && c) (Some n) None ≡ Some n
tested a b c n h i j = rw (h, i, j) refl

-- a text that spells a number is read as it, where the number fits
pub spelled-read : (t : WholeType) (text : List ℕ) (n m : ℤ) → Spells text n
    → checked_number t n ≡ Some m → number_read t text ≡ Some m
spelled-read t text n m (negative, digits, is, all, some, valued, held) e =
    let fits = fitted (is_fitting t n) n m e in
    let parts = spelled-parts negative digits some all in
    let value : signed_digits_value 10 text ≡ n =
    ap (signed_digits_value 10) is ∙ parts.1 ∙ sym valued in
    let behind : without_leading_sign text ≡ digits = ap without_leading_sign is ∙ parts.0 in
    let are_digits : is_digits digits ≡ true = (Decides-is_digits digits).1 (some, all) in
    let had : is_sign_had t text ≡ true =
    ap (is_sign_had t) is
    ∙ sign-had t negative digits some all held (ap (is_fitting t) (sym valued) ∙ fits.0) in
    tested _ _ _ (signed_digits_value 10 text) had (ap is_digits behind ∙ are_digits)
    (ap (is_fitting t) value ∙ fits.0) ∙ ap Some (value ∙ fits.1)
