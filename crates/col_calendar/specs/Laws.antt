-- What the definitions on the calendar say together, and days that are known.
use Rattle.std.specs.Prelude.{◌≡◌, ℕ, ◌-◌, ◌*◌, IsTrue, ℤ, pos, neg_ℤ, ◌+ℤ◌, ◌<ℤ◌, ◌≤ℤ◌}
use Rattle.jiff_core.specs.Calendar.{IsYear, iso_year_start}
use Rattle.jiff_core.specs.Date.{epoch_day, ordinal}
use Rattle.jiff_core.specs.declared.civil.date.Date.{Date}
use Rattle.col_calendar.specs.Civil.{day_of_month, is_civil_day, iso_week_of, month_of}
use Rattle.col_calendar.specs.Civil.{place_in_year, thursday_of, weekday_of_day, year_of}

-- a day has this year, month, day in the month and day in the week, and lies in this week of this
-- year, which is that of its Thursday
pub record IsKnownDay (n : ℤ) (year : ℤ) (month day weekday week : ℕ) (of_year : ℤ) : Type 0 where
  pub is_year : year_of n ≡ year
  pub is_month : month_of n ≡ month
  pub is_day : day_of_month n ≡ day
  pub is_weekday : weekday_of_day n ≡ weekday
  pub is_week : iso_week_of n ≡ week
  pub is_week_of : year_of (thursday_of n) ≡ of_year

-- the first day that there is was a Monday; day 0, 1970-01-01, a Thursday; 2000 had a 29 February;
-- 2021-01-03 was the Sunday of week 53 of 2020; and the last day is a Friday
pub record KnownDays : Type 0 where
  pub first : IsKnownDay (neg_ℤ (pos 4_371_587)) (neg_ℤ (pos 9_999)) 1 1 1 1 (neg_ℤ (pos 9_999))
  pub epoch : IsKnownDay (pos 0) (pos 1_970) 1 1 4 1 (pos 1_970)
  pub leap : IsKnownDay (pos 11_016) (pos 2_000) 2 29 2 9 (pos 2_000)
  pub week_53 : IsKnownDay (pos 18_630) (pos 2_021) 1 3 7 53 (pos 2_020)
  pub last : IsKnownDay (pos 2_932_896) (pos 9_999) 12 31 5 52 (pos 9_999)

-- the parts of a date's day number are the date's own: so the year, the month and the day of a day
-- number are those of the one date that has it
pub record DayNumberTellsItsDate (d : Date) : Type 0 where
  pub is_year : year_of (epoch_day d) ≡ d.year
  pub is_month : month_of (epoch_day d) ≡ d.month
  pub is_day : day_of_month (epoch_day d) ≡ d.day
  pub is_place : place_in_year (epoch_day d) ≡ ordinal d

-- at each date
abbrev pub DayNumbersTellDates : Type 0
DayNumbersTellDates = (d : Date) → DayNumberTellsItsDate d

-- a day lies in this week of this year, as the standard counts them: week 1 begins on the Monday on
-- or before 4 January, each other one 7 days after the week before it, and the year's weeks end
-- where the next year's week 1 begins
pub record LiesInWeek (n year : ℤ) (week : ℕ) : Type 0 where
  pub since : (iso_year_start year +ℤ pos (7 * (week - 1))) ≤ℤ n
  pub before : n <ℤ (iso_year_start year +ℤ pos (7 * week))
  pub in_year : n <ℤ iso_year_start (year +ℤ pos 1)

-- a day lies in the week of its number, in the year of its Thursday, and in no week of another
-- number of any year
pub record WeekIsCounted (n : ℤ) : Type 0 where
  pub lies : LiesInWeek n (year_of (thursday_of n)) (iso_week_of n)
  pub alone : (year : ℤ) (week : ℕ) → IsYear year → LiesInWeek n year week → week ≡ iso_week_of n

-- so does each day that has a date
abbrev pub WeeksAreCounted : Type 0
WeeksAreCounted = (n : ℤ) → IsTrue (is_civil_day n) → WeekIsCounted n
