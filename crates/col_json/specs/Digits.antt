-- Whole numbers in decimal digits.
use Rattle.std.specs.Prelude.{◌≡◌, ℕ, ◌^◌, ◌<◌, ◌≤◌, ℤ, Bool, true, false, List, ◌++◌, length}
use Rattle.std.specs.Fmt.{sign_text}
use Rattle.std.specs.Str.Parse.{AllDigits, digits_value}
pub use Rattle.fast_float.specs.Text.{with_sign}

-- a number that `serde_json` holds as a whole number: one of 64 bits, and 0 without a sign
abbrev pub IsHeld : Bool → ℕ → Type 0
IsHeld false n = n < 2 ^ 64
IsHeld true n = (0 < n) × (n ≤ 2 ^ 63)

-- a minus sign or none, then digits, spell a number that `serde_json` holds as a whole number
abbrev pub Spells : List ℕ → ℤ → Type 0
Spells text n =
    (negative : Bool) × (digits : List ℕ) × (text ≡ sign_text negative ++ digits)
    × AllDigits 10 digits × (0 < length digits)
    × (n ≡ with_sign negative (digits_value 10 digits)) × IsHeld negative (digits_value 10 digits)
