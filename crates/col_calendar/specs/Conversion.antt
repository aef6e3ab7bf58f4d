-- What a conversion answers that has a value for some numbers alone.
use Rattle.std.specs.Prelude.{◌≡◌, ℤ, Bool, not, IsTrue, Option, Some, None, Result, Ok, Err}
use Rattle.col_types.specs.declared.error.Error.{Error}
use Rattle.col_types.specs.declared.error.Error.TheVariants.{OutOfRange}
use Rattle.jiff_core.specs.declared.civil.datetime.DateTime.{DateTime}
use Rattle.col_calendar.specs.Civil.{IsDateTimeOf, day_of, is_civil_day, local_instant}

-- a value with the fact where the number is in range, else the refusal that it is not
abbrev pub Converts : {X : Type 0} → Bool → (X → Type 0) → Result X Error → Type 0
Converts fits fact (Ok x) = IsTrue fits × fact x
Converts fits fact (Err e) = IsTrue (not fits) × (e ≡ OutOfRange)

-- the same where there is no value in place of the refusal
abbrev pub ConvertsOrNone : {X : Type 0} → Bool → (X → Type 0) → Option X → Type 0
ConvertsOrNone fits fact (Some x) = IsTrue fits × fact x
ConvertsOrNone fits fact None = IsTrue (not fits)

-- the instant has a date-time
abbrev pub is_civil : ℤ → Bool
is_civil m = is_civil_day (day_of m)

-- an instant's date-time in UTC, the offset of a clock in seconds east of UTC, and the date-time
-- that this clock shows
pub record OffsetParts : Type 0 where
  pub utc : DateTime
  pub local : DateTime
  pub offset : ℤ

-- the parts of an instant by a clock of that offset
pub record ArePartsOf (m seconds : ℤ) (p : OffsetParts) : Type 0 where
  pub utc : IsDateTimeOf m p.utc
  pub local : IsDateTimeOf (local_instant seconds m) p.local
  pub offset : p.offset ≡ seconds
