-- The texts of offsets: `UTC`, or hours and minutes with a sign for both, as `-01:30`.
use Rattle.std.specs.Prelude.{ℕ, ◌+◌, ◌-◌, ◌*◌, ◌==◌, nat_le, nat_lt, Bool, false, ◌&&◌, ℤ, pos}
use Rattle.std.specs.Prelude.{neg_ℤ, unsigned_abs, if◌then◌else◌, List, [], ◌∷◌, Option}
use Rattle.std.specs.Prelude.{Some, None, option_map, Result, Ok, Err}
use Rattle.col_types.specs.declared.error.Error.{Error}
use Rattle.col_types.specs.declared.error.Error.TheVariants.{InvalidArgumentError}
use Rattle.col_types.specs.declared.error.Reason.TheVariants.{Zone}

-- so many seconds east of UTC, where that is less than a day either way
abbrev pub checked_offset : ℤ → Option ℤ
checked_offset seconds = if nat_lt (unsigned_abs seconds) 86_400 then Some seconds else None

-- a byte from `0` to `9`
abbrev pub is_digit : ℕ → Bool
is_digit byte = nat_le 48 byte && nat_le byte 57

-- the number of two digits
abbrev pub two_digits : ℕ → ℕ → ℕ
two_digits tens ones = (tens - 48) * 10 + (ones - 48)

-- two digits whose number is below a limit
abbrev pub are_below : ℕ → ℕ → ℕ → Bool
are_below limit tens ones = is_digit tens && is_digit ones && nat_lt (two_digits tens ones) limit

-- the seconds of a clock's text: two digits 00 to 23, `:`, and two digits 00 to 59
abbrev pub clock_text_seconds : List ℕ → Option ℤ
clock_text_seconds (a ∷ b ∷ colon ∷ c ∷ d ∷ []) =
    if are_below 24 a b && (colon == 58) && are_below 60 c d
    then Some (pos (two_digits a b * 3_600 + two_digits c d * 60)) else None
clock_text_seconds _ = None

-- the same behind an optional sign, `+` or `-`, which holds for hours and minutes
abbrev pub signed_text_seconds : List ℕ → Option ℤ
signed_text_seconds [] = None
signed_text_seconds (sign ∷ text) =
    if sign == 43 then clock_text_seconds text
    else (if sign == 45 then option_map neg_ℤ (clock_text_seconds text)
    else clock_text_seconds (sign ∷ text))

-- the text `UTC`
abbrev pub is_utc_text : List ℕ → Bool
is_utc_text (a ∷ b ∷ c ∷ []) = (a == 85) && (b == 84) && (c == 67)
is_utc_text _ = false

-- the seconds east of UTC of an offset text
abbrev pub offset_of : List ℕ → Option ℤ
offset_of text = if is_utc_text text then Some (pos 0) else signed_text_seconds text

-- the offset, or the refusal of a zone that is no offset text
abbrev pub zone_answer : Option ℤ → Result ℤ Error
zone_answer (Some seconds) = Ok seconds
zone_answer None = Err (InvalidArgumentError Zone)
