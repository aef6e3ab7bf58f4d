-- The parts of dates and times, and what a kernel answers that takes one of a column.
use Rattle.std.specs.Prelude.{ℕ, ◌/◌, ◌%◌, Bool, true, false, ◌&&◌, not, ℤ, pos}
use Rattle.std.specs.Prelude.{if◌then◌else◌, Option, Some, None, Result, Ok, Err}
use Rattle.col_model.specs.Cell.{Cell, null, whole, Cause, out_of_range}
use Rattle.col_model.specs.WholeStep.{each_cell}
use Rattle.col_types.specs.declared.datatypes.TimeUnit.{TimeUnit}
use Rattle.col_types.specs.declared.datatypes.TimeUnit.TheVariants as unit
use Rattle.col_types.specs.declared.error.Error.{Error}
use Rattle.col_types.specs.declared.error.Error.TheVariants.{InvalidArgumentError}
use Rattle.col_types.specs.declared.error.Error.TheVariants.{NotYetImplemented}
use Rattle.col_types.specs.declared.error.Reason.TheVariants.{Zone}
use Rattle.col_types.specs.Column.{Column, column_answer}
use Rattle.col_types.specs.DataKind.{DataKind}
use Rattle.col_types.specs.DataKind as kind
use Rattle.col_types.specs.DataType.{is_time32_unit}
use Rattle.col_calendar.specs.Civil.{day_of, day_of_month, instant_of, is_within_day, iso_week_of}
use Rattle.col_calendar.specs.Civil.{local_instant, midnight_of, month_of, time_of}
use Rattle.col_calendar.specs.Civil.{weekday_of_day, year_of}
use Rattle.col_calendar.specs.Conversion.{is_civil}
use Rattle.col_calendar.specs.Offset.{offset_of}

-- what may be asked of an instant
pub data Part : Type 0 where
  the_year : Part
  the_month : Part
  the_day : Part
  the_weekday : Part
  the_iso_week : Part
  the_hour : Part
  the_minute : Part
  the_second : Part
  the_nanosecond : Part

-- the parts that a time of day has too
abbrev pub is_clock_part : Part → Bool
is_clock_part the_hour = true
is_clock_part the_minute = true
is_clock_part the_second = true
is_clock_part the_nanosecond = true
is_clock_part _ = false

-- the part of a day and a time of day, which is given in nanoseconds since midnight; the
-- nanoseconds are those within the second
abbrev pub part_of : Part → ℤ → ℕ → ℤ
part_of the_year day time = year_of day
part_of the_month day time = pos (month_of day)
part_of the_day day time = pos (day_of_month day)
part_of the_weekday day time = pos (weekday_of_day day)
part_of the_iso_week day time = pos (iso_week_of day)
part_of the_hour day time = pos (time / 3_600_000_000_000)
part_of the_minute day time = pos (time / 60_000_000_000 % 60)
part_of the_second day time = pos (time / 1_000_000_000 % 60)
part_of the_nanosecond day time = pos (time % 1_000_000_000)

-- the part of an instant as a cell
abbrev pub part_cell : Part → ℤ → Cell
part_cell p m = whole (part_of p (day_of m) (time_of m))

-- the type of a column of the part
abbrev pub part_type : Part → DataKind
part_type the_year = kind.int32
part_type _ = kind.uint32

-- the columns that have the part: dates and instants have all, and times of day those of a clock
abbrev pub can_part : Part → DataKind → Bool
can_part p kind.date32 = true
can_part p kind.date64 = true
can_part p (kind.timestamp u place) = true
can_part p (kind.time32 u) = is_clock_part p && is_time32_unit u
can_part p (kind.time64 u) = is_clock_part p && not (is_time32_unit u)
can_part p _ = false

-- the offset by which a column is read, in seconds east of UTC: none where its zone is not read
abbrev pub offset_of_type : DataKind → Option ℤ
offset_of_type (kind.timestamp u (Some zone)) = offset_of zone
offset_of_type _ = Some (pos 0)

-- the part of a time of day, or the refusal of one that is not within a day
abbrev pub clock_step : Part → ℤ → Result Cell Cause
clock_step p m = if is_within_day m then Ok (part_cell p m) else Err out_of_range

-- the part of an instant as a clock of the offset shows it, or the refusal of one whose day has no
-- date, in UTC or by that clock
abbrev pub instant_step : Part → ℤ → ℤ → Result Cell Cause
instant_step p offset m =
    if is_civil m && is_civil (local_instant offset m)
    then Ok (part_cell p (local_instant offset m)) else Err out_of_range

-- the unit of times of day: none of another type
abbrev pub time_unit_of : DataKind → Option TimeUnit
time_unit_of (kind.time32 u) = Some u
time_unit_of (kind.time64 u) = Some u
time_unit_of _ = None

-- the unit of instants of 64 bits: milliseconds of a date, else the type's own
abbrev pub instant_unit_of : DataKind → TimeUnit
instant_unit_of (kind.timestamp u place) = u
instant_unit_of _ = unit.Millisecond

-- the part of a number of the type
abbrev pub number_step : Part → DataKind → ℤ → ℤ → Result Cell Cause
number_step p (kind.time32 u) offset n = clock_step p (instant_of u n)
number_step p (kind.time64 u) offset n = clock_step p (instant_of u n)
number_step p (kind.timestamp u place) offset n = instant_step p offset (instant_of u n)
number_step p kind.date64 offset n = instant_step p offset (instant_of unit.Millisecond n)
number_step p _ offset n = instant_step p offset (midnight_of n)

-- a step on the number of a cell: a null gives null
abbrev pub on_number : (ℤ → Result Cell Cause) → Cell → Result Cell Cause
on_number step (whole n) = step n
on_number step _ = Ok null

-- the parts of a column by its offset, or the refusal of its zone
abbrev pub parts_by : Part → Column → Option ℤ → Result Column Error
parts_by p c None = Err (InvalidArgumentError Zone)
parts_by p c (Some offset) =
    column_answer (part_type p) (each_cell (on_number (number_step p c.data_type offset)) c.cells)

-- what a kernel answers for a column: its type first, then its zone, then each row
abbrev pub part_answer : Part → Column → Result Column Error
part_answer p c =
    if can_part p c.data_type then parts_by p c (offset_of_type c.data_type)
    else Err NotYetImplemented
