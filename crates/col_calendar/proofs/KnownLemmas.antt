-- Days that are known, each by its date and the date of its Thursday.
use Rattle.std.proofs.Common.{◌≡◌, ℕ, ◌+◌, ◌-◌, ◌/◌, refl, ap, arith, rules, ℤ, pos, neg_ℤ, ◌+ℤ◌}
use Rattle.std.proofs.Common.{◌-ℤ◌}
use Rattle.jiff_core.specs.Calendar.{days_from_civil, weekday_number, days_of_months, days_of_years}
use Rattle.jiff_core.specs.Calendar.{IsCivilDate, day_count}
use Rattle.jiff_core.specs.Date.{epoch_day, ordinal}
use Rattle.jiff_core.specs.declared.civil.date.Date.{Date}
use Rattle.jiff_core.proofs.DateLemmas.{days_from_civil-day, days_from_civil-max}
use Rattle.jiff_core.proofs.DateLemmas.{days_from_civil-min}
use Rattle.jiff_core.proofs.SignedLemmas.{signed_arith}
use Rattle.col_calendar.specs.Civil.{place_in_year}
use Rattle.col_calendar.specs.Civil.{thursday_of}
use Rattle.col_calendar.specs.Laws.{IsKnownDay}
use Rattle.col_calendar.proofs.CivilLemmas.{day_number-date}

-- a day is known by the date that has its number, and by the date of its Thursday
pub known : (d t : Date) (n thursday : ℤ) (weekday place : ℕ)
    → epoch_day d ≡ n → weekday_number n ≡ weekday → epoch_day t ≡ thursday
    → n -ℤ pos weekday +ℤ pos 3 ≡ thursday → ordinal t ≡ place
    → IsKnownDay n d.year d.month d.day (weekday + 1) (1 + (place - 1) / 7) t.year
known d t n thursday weekday place is_day is_weekday is_thursday moved is_place =
    let date = day_number-date d in
    let week : place_in_year (thursday_of n) ≡ place =
    rw (is_weekday, moved, ← is_thursday, (day_number-date t).is_place, is_place) refl in
    record {
      is_year = rw (← is_day) date.is_year;
      is_month = rw (← is_day) date.is_month;
      is_day = rw (← is_day) date.is_day;
      is_weekday = ap (λ w. w + 1) is_weekday;
      is_week = rw week refl;
      is_week_of = rw (is_weekday, moved, ← is_thursday) (day_number-date t).is_year;
    }

-- a date by its parts
abbrev date : (y : ℤ) (m d : ℕ) → IsCivilDate y m d → Date
date y m d h =
    record { year = y; month = m; day = d; year_in = h.0; month_in = h.1; day_in = h.2 }

-- the Thursday after the first day, and the one before the last
first_thursday : days_from_civil (neg_ℤ (pos 9_999)) 1 4 ≡ neg_ℤ (pos 4_371_584)
first_thursday =
    omega (
      arith,
      signed_arith,
      days_from_civil-min,
      days_from_civil-day (neg_ℤ (pos 9_999)) 1 1 4 (omega arith) (omega arith),
    )

last_thursday : days_from_civil (pos 9_999) 12 30 ≡ pos 2_932_895
last_thursday =
    omega (
      arith,
      signed_arith,
      days_from_civil-max,
      days_from_civil-day (pos 9_999) 12 30 31 (omega arith) (omega arith),
    )

-- -9999-01-01
pub known_first : IsKnownDay (neg_ℤ (pos 4_371_587)) (neg_ℤ (pos 9_999)) 1 1 1 1
    (neg_ℤ (pos 9_999))
unfolding weekday_number days_of_months
known_first =
    known (date (neg_ℤ (pos 9_999)) 1 1 (search rules))
    (date (neg_ℤ (pos 9_999)) 1 4 (search rules))
    (neg_ℤ (pos 4_371_587)) (neg_ℤ (pos 4_371_584)) 0 4
    days_from_civil-min refl first_thursday refl refl

-- 1970-01-01
pub known_epoch : IsKnownDay (pos 0) (pos 1_970) 1 1 4 1 (pos 1_970)
unfolding days_from_civil day_count days_of_years days_of_months weekday_number
known_epoch =
    known (date (pos 1_970) 1 1 (search rules)) (date (pos 1_970) 1 1 (search rules))
    (pos 0) (pos 0) 3 1 refl refl refl refl refl

-- 2000-02-29
pub known_leap : IsKnownDay (pos 11_016) (pos 2_000) 2 29 2 9 (pos 2_000)
unfolding days_from_civil day_count days_of_years days_of_months weekday_number
known_leap =
    known (date (pos 2_000) 2 29 (search rules)) (date (pos 2_000) 3 2 (search rules))
    (pos 11_016) (pos 11_018) 1 62 refl refl refl refl refl

-- 2021-01-03
pub known_week_53 : IsKnownDay (pos 18_630) (pos 2_021) 1 3 7 53 (pos 2_020)
unfolding days_from_civil day_count days_of_years days_of_months weekday_number
known_week_53 =
    known (date (pos 2_021) 1 3 (search rules)) (date (pos 2_020) 12 31 (search rules))
    (pos 18_630) (pos 18_627) 6 366 refl refl refl refl refl

-- 9999-12-31
pub known_last : IsKnownDay (pos 2_932_896) (pos 9_999) 12 31 5 52 (pos 9_999)
unfolding weekday_number days_of_months
known_last =
    known (date (pos 9_999) 12 31 (search rules)) (date (pos 9_999) 12 30 (search rules))
    (pos 2_932_896) (pos 2_932_895) 4 364
    days_from_civil-max refl last_thursday refl refl
