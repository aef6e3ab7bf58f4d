-- What values of intervals stand for.
use Rattle.std.specs.Prelude.{ℤ}

-- a span of days and milliseconds
pub record DayTime : Type 0 where
  pub days : ℤ
  pub milliseconds : ℤ

-- a span of months, days and nanoseconds
pub record MonthDayTime : Type 0 where
  pub months : ℤ
  pub days : ℤ
  pub ns : ℤ
