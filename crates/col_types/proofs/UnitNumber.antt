-- Units and types of keys as numbers, by which the prover stores them.
use Rattle.std.specs.Prelude.{◌≡◌, ℕ, ◌==◌, cond, refl}
use Rattle.col_types.specs.declared.datatypes.TimeUnit.{TimeUnit}
use Rattle.col_types.specs.declared.datatypes.TimeUnit.TheVariants as unit
use Rattle.col_types.specs.declared.datatypes.IntervalUnit.{IntervalUnit}
use Rattle.col_types.specs.declared.datatypes.IntervalUnit.TheVariants as span
use Rattle.col_types.specs.declared.datatypes.IntegerType.{IntegerType}
use Rattle.col_types.specs.declared.datatypes.IntegerType.TheVariants as key

-- units of time, in their order from 0
abbrev pub unit_number : TimeUnit → ℕ
unit_number unit.Second = 0
unit_number unit.Millisecond = 1
unit_number unit.Microsecond = 2
unit_number unit.Nanosecond = 3

-- the unit of time with a number
abbrev pub unit_at : ℕ → TimeUnit
unit_at n =
    cond (n == 0) unit.Second (
    cond (n == 1) unit.Millisecond (
    cond (n == 2) unit.Microsecond unit.Nanosecond))

-- a unit of time has its own number
pub unit_at-unit_number : (v : TimeUnit) → unit_at (unit_number v) ≡ v
unit_at-unit_number unit.Second = refl
unit_at-unit_number unit.Millisecond = refl
unit_at-unit_number unit.Microsecond = refl
unit_at-unit_number unit.Nanosecond = refl

-- units of intervals, in their order from 0
abbrev pub span_number : IntervalUnit → ℕ
span_number span.YearMonth = 0
span_number span.DayTime = 1
span_number span.MonthDayNano = 2

-- the unit of intervals with a number
abbrev pub span_at : ℕ → IntervalUnit
span_at n =
    cond (n == 0) span.YearMonth (
    cond (n == 1) span.DayTime span.MonthDayNano)

-- a unit of intervals has its own number
pub span_at-span_number : (v : IntervalUnit) → span_at (span_number v) ≡ v
span_at-span_number span.YearMonth = refl
span_at-span_number span.DayTime = refl
span_at-span_number span.MonthDayNano = refl

-- types of keys, in their order from 0
abbrev pub key_number : IntegerType → ℕ
key_number key.Int8 = 0
key_number key.Int16 = 1
key_number key.Int32 = 2
key_number key.Int64 = 3
key_number key.UInt8 = 4
key_number key.UInt16 = 5
key_number key.UInt32 = 6
key_number key.UInt64 = 7

-- the type of keys with a number
abbrev pub key_at : ℕ → IntegerType
key_at n =
    cond (n == 0) key.Int8 (
    cond (n == 1) key.Int16 (
    cond (n == 2) key.Int32 (
    cond (n == 3) key.Int64 (
    cond (n == 4) key.UInt8 (
    cond (n == 5) key.UInt16 (
    cond (n == 6) key.UInt32 key.UInt64))))))

-- a type of keys has its own number
pub key_at-key_number : (v : IntegerType) → key_at (key_number v) ≡ v
key_at-key_number key.Int8 = refl
key_at-key_number key.Int16 = refl
key_at-key_number key.Int32 = refl
key_at-key_number key.Int64 = refl
key_at-key_number key.UInt8 = refl
key_at-key_number key.UInt16 = refl
key_at-key_number key.UInt32 = refl
key_at-key_number key.UInt64 = refl
