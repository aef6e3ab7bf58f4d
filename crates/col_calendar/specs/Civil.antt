-- Days, times of day, and the parts of dates, on the proleptic Gregorian calendar. Days have
-- 86400 seconds, and day 0 is 1970-01-01.
use Rattle.std.specs.Prelude.{◌≡◌, ℕ, zero, suc, ◌+◌, ◌-◌, ◌/◌, Bool, ◌&&◌, if◌then◌else◌}
use Rattle.std.specs.Prelude.{ℤ, pos, neg_ℤ, ◌+ℤ◌, ◌-ℤ◌, ◌*ℤ◌, int_le, int_lt, unsigned_abs}
use Rattle.std.specs.Int.{int_div_euclid, int_rem_euclid}
use Rattle.jiff_core.specs.Calendar.{days_from_civil, weekday_number}
use Rattle.jiff_core.specs.Date.{epoch_day}
use Rattle.jiff_core.specs.Time.{time_nanos}
use Rattle.jiff_core.specs.declared.civil.datetime.DateTime.{DateTime}
use Rattle.col_types.specs.declared.datatypes.TimeUnit.{TimeUnit}
use Rattle.col_types.specs.declared.datatypes.TimeUnit.TheVariants as unit

-- the units of a second
abbrev pub units_per_second : TimeUnit → ℕ
units_per_second unit.Second = 1
units_per_second unit.Millisecond = 1_000
units_per_second unit.Microsecond = 1_000_000
units_per_second unit.Nanosecond = 1_000_000_000

-- the nanoseconds of a unit
abbrev pub nanos_per_unit : TimeUnit → ℕ
nanos_per_unit unit.Second = 1_000_000_000
nanos_per_unit unit.Millisecond = 1_000_000
nanos_per_unit unit.Microsecond = 1_000
nanos_per_unit unit.Nanosecond = 1

-- the nanoseconds of a day
abbrev pub nanos_per_day : ℕ
nanos_per_day = 86_400_000_000_000

-- the nanoseconds since 1970-01-01 00:00:00 of so many units since then
abbrev pub instant_of : TimeUnit → ℤ → ℤ
instant_of u n = n *ℤ pos (nanos_per_unit u)

-- the instant of a day's midnight
abbrev pub midnight_of : ℤ → ℤ
midnight_of day = day *ℤ pos nanos_per_day

-- the instant of whole seconds, and of nanoseconds past them
abbrev pub instant_at : ℤ → ℕ → ℤ
instant_at second nanosecond = second *ℤ pos 1_000_000_000 +ℤ pos nanosecond

-- the instant that a clock shows which is so many seconds east of UTC
abbrev pub local_instant : ℤ → ℤ → ℤ
local_instant seconds m = m +ℤ seconds *ℤ pos 1_000_000_000

-- the day on which an instant lies: the whole days since 1970-01-01, rounded down, so that the
-- instant -1 lies on day -1
abbrev pub day_of : ℤ → ℤ
day_of m = int_div_euclid m (pos nanos_per_day)

-- its time of day, in nanoseconds since midnight: 0 to one day less 1
abbrev pub time_of : ℤ → ℕ
time_of m = unsigned_abs (int_rem_euclid m (pos nanos_per_day))

-- a time of day, in nanoseconds since midnight
abbrev pub is_within_day : ℤ → Bool
is_within_day m = int_le (pos 0) m && int_lt m (pos nanos_per_day)

-- the days that have a date: -9999-01-01 to 9999-12-31
abbrev pub is_civil_day : ℤ → Bool
is_civil_day n = int_le (neg_ℤ (pos 4_371_587)) n && int_le n (pos 2_932_896)

-- the date-time of an instant: the date whose day number is the instant's day, and its time of day
pub record IsDateTimeOf (m : ℤ) (dt : DateTime) : Type 0 where
  pub date : epoch_day dt.date ≡ day_of m
  pub time : time_nanos dt.time ≡ time_of m

-- how many of the first so many spans have begun by day n, each with a first day
unfoldable pub begun : (ℕ → ℤ) → ℤ → ℕ → ℕ
begun first n zero = 0
begun first n (suc count) = begun first n count + (if int_le (first count) n then 1 else 0)

-- the year of day n: on -9999-01-01 the first of 19999 years has begun, on 1970-01-01 the 11970th,
-- and on 9999-12-31 the last
unfoldable pub year_of : ℤ → ℤ
year_of n = pos (begun (λ k. days_from_civil (pos k -ℤ pos 9_999) 1 1) n 19_999) -ℤ pos 10_000

-- its month, from 1: as many months of the year as have begun
unfoldable pub month_of : ℤ → ℕ
month_of n = begun (λ k. days_from_civil (year_of n) (k + 1) 1) n 12

-- its day in the month, from 1
unfoldable pub day_of_month : ℤ → ℕ
day_of_month n = unsigned_abs (n -ℤ days_from_civil (year_of n) (month_of n) 1) + 1

-- its place in the year, from 1
unfoldable pub place_in_year : ℤ → ℕ
place_in_year n = unsigned_abs (n -ℤ days_from_civil (year_of n) 1 1) + 1

-- its day in the week: Monday is 1, and Sunday 7
abbrev pub weekday_of_day : ℤ → ℕ
weekday_of_day n = weekday_number n + 1

-- the Thursday of its week, which begins on a Monday
abbrev pub thursday_of : ℤ → ℤ
thursday_of n = n -ℤ pos (weekday_number n) +ℤ pos 3

-- its week by ISO 8601: week 1 has the first Thursday of a year, so that a week's number is how
-- many Thursdays of that year have come with it
abbrev pub iso_week_of : ℤ → ℕ
iso_week_of n = 1 + (place_in_year (thursday_of n) - 1) / 7
