-- The year, month and day of a date's day number, and its week.
use Rattle.std.proofs.Common.{◌≡◌, ℕ, zero, suc, ◌+◌, ◌-◌, ◌<◌, ◌≤◌, inl, inr, refl, sym, ap}
use Rattle.std.proofs.Common.{◌∙◌, arith, ℤ, pos, neg_ℤ, ◌+ℤ◌, ◌-ℤ◌, ◌<ℤ◌, ◌≤ℤ◌, unsigned_abs}
use Rattle.std.proofs.Common.{IsTrue, rules}
use Rattle.std.proofs.lemmas.Bool.{cases_order}
use Rattle.jiff_core.specs.Calendar.{IsBetween, IsCivilDate, days_from_civil}
use Rattle.jiff_core.specs.Date.{epoch_day, ordinal}
use Rattle.jiff_core.specs.declared.civil.date.Date.{Date}
use Rattle.jiff_core.proofs.SignedLemmas.{signed_arith}
use Rattle.jiff_core.proofs.CalendarLemmas.{day_count-day, day_count-day_of_year}
use Rattle.jiff_core.proofs.CalendarLemmas.{day_count-later_year, day_count-lt_month}
use Rattle.jiff_core.proofs.CalendarLemmas.{day_of_year_bound, days_from_civil-day_count}
use Rattle.jiff_core.proofs.CalendarLemmas.{days_in_month_bounds, weekday_number-parts}
use Rattle.jiff_core.proofs.DateLemmas.{civil}
use borrow.Author.Differences.{up, down}
use Rattle.col_calendar.specs.Civil.{begun, day_of_month, month_of, place_in_year}
use Rattle.col_calendar.specs.Civil.{is_civil_day, thursday_of, year_of}
use Rattle.col_calendar.specs.Laws.{DayNumberTellsItsDate}

-- a day that has a date lies between the first and the last
pub civil_day-between : (d : ℤ) → IsTrue (is_civil_day d)
    → IsBetween (neg_ℤ (pos 4_371_587)) (pos 2_932_896) d
civil_day-between d h = search rules

pub between-civil_day : (d : ℤ) → IsBetween (neg_ℤ (pos 4_371_587)) (pos 2_932_896) d
    → IsTrue (is_civil_day d)
between-civil_day d h = search rules

-- a span that has begun counts, and one that has not does not
pub begun-more : (first : ℕ → ℤ) (n : ℤ) (k : ℕ) → first k ≤ℤ n
    → begun first n (suc k) ≡ begun first n k + 1
unfolding begun
begun-more first n k h = grind (arith, signed_arith)

pub begun-same : (first : ℕ → ℤ) (n : ℤ) (k : ℕ) → n <ℤ first k
    → begun first n (suc k) ≡ begun first n k
unfolding begun
begun-same first n k h = grind (arith, signed_arith)

pub begun-zero : (first : ℕ → ℤ) (n : ℤ) → begun first n zero ≡ 0
unfolding begun
begun-zero first n = refl

-- where all have begun, all count
begun-all : (first : ℕ → ℤ) (n : ℤ) (k : ℕ) → ((j : ℕ) → j < k → first j ≤ℤ n)
    → begun first n k ≡ k
begun-all first n zero h = begun-zero first n
begun-all first n (suc k) h =
    let here = begun-more first n k (h k (omega arith)) in
    let rest = begun-all first n k (λ j lt. h j (omega arith)) in
    omega arith

-- where those up to place i have begun, and the ones past it have not, i + 1 have
begun-to : (first : ℕ → ℤ) (n : ℤ) (i k : ℕ) → i < k
    → ((j : ℕ) → j ≤ i → first j ≤ℤ n) → ((j : ℕ) → i < j → n <ℤ first j)
    → begun first n k ≡ i + 1
begun-to first n i zero lt low high = absurd (omega arith)
begun-to first n i (suc k) lt low high =
    elim (cases_order i k) [
      | inl same ↦
          let here = begun-more first n k (low k (omega arith)) in
          let rest = begun-all first n k (λ j less. low j (omega arith)) in
          omega arith
      | inr (inl less) ↦
          let here = begun-same first n k (high k less) in
          let rest = begun-to first n i k less low high in
          omega arith
      | inr (inr more) ↦ absurd (omega arith)
    ]

-- a date lies in its year: its year's first day has come, and the next one's has not
years_low : (d : Date) (i j : ℕ) → d.year +ℤ pos 9_999 ≡ pos i → j ≤ i
    → days_from_civil (pos j -ℤ pos 9_999) 1 1 ≤ℤ epoch_day d
years_low d i j e h =
    elim (cases_order j i) [
      | inl same ↦
          let year : pos j -ℤ pos 9_999 ≡ d.year = omega (arith, signed_arith) in
          rw year (omega (
            arith,
            signed_arith,
            days_from_civil-day_count,
            day_count-day_of_year d.year d.month d.day d.day_in.0,
          ))
      | inr (inl less) ↦
          let before : (pos j -ℤ pos 9_999) <ℤ d.year = omega (arith, signed_arith) in
          let low : neg_ℤ (pos 10_000) ≤ℤ (pos j -ℤ pos 9_999) = omega (arith, signed_arith) in
          omega (
            arith,
            signed_arith,
            days_from_civil-day_count,
            day_count-later_year (pos j -ℤ pos 9_999) d.year low before,
            day_count-day_of_year d.year d.month d.day d.day_in.0,
          )
      | inr (inr more) ↦ absurd (omega arith)
    ]

years_high : (d : Date) (i j : ℕ) → d.year +ℤ pos 9_999 ≡ pos i → i < j
    → epoch_day d <ℤ days_from_civil (pos j -ℤ pos 9_999) 1 1
years_high d i j e h =
    let before : d.year <ℤ (pos j -ℤ pos 9_999) = omega (arith, signed_arith) in
    let low : neg_ℤ (pos 10_000) ≤ℤ d.year = omega (arith, signed_arith, d.year_in) in
    omega (
      arith,
      signed_arith,
      days_from_civil-day_count,
      day_count-later_year d.year (pos j -ℤ pos 9_999) low before,
      day_count-day_of_year d.year d.month d.day d.day_in.0,
      day_of_year_bound d.year d.month d.day (civil d),
    )

-- counted from -9999, the year in place i is i less 9999
year_back : (i : ℕ) (y : ℤ) → y +ℤ pos 9_999 ≡ pos i → pos (i + 1) -ℤ pos 10_000 ≡ y
year_back i y h = omega (arith, signed_arith)

-- the days from one day number to a later one
pub days_after : (a b : ℤ) (k : ℕ) → a ≡ b +ℤ pos k → unsigned_abs (a -ℤ b) ≡ k
days_after a b k h =
    let apart : a -ℤ b ≡ pos k = omega (arith, signed_arith) in
    ap unsigned_abs apart

-- the year of a date's day number is the date's
pub year_of-epoch_day : (d : Date) → year_of (epoch_day d) ≡ d.year
unfolding year_of
year_of-epoch_day d =
    let i = up d.year + 9_999 - down d.year in
    let place : d.year +ℤ pos 9_999 ≡ pos i = omega (arith, signed_arith, d.year_in) in
    let within : i < 19_999 = omega (arith, signed_arith, d.year_in) in
    let count =
    begun-to (λ k. days_from_civil (pos k -ℤ pos 9_999) 1 1) (epoch_day d) i 19_999 within
    (λ j h. years_low d i j place h) (λ j h. years_high d i j place h) in
    rw count (year_back i d.year place)

-- a date lies in its month
months_low : (d : Date) (j : ℕ) → j + 1 ≤ d.month
    → days_from_civil d.year (j + 1) 1 ≤ℤ epoch_day d
months_low d j h =
    elim (cases_order (j + 1) d.month) [
      | inl same ↦
          rw same (omega (
            arith,
            signed_arith,
            days_from_civil-day_count,
            day_count-day d.year d.month d.day 1 d.day_in.0 (omega arith),
          ))
      | inr (inl less) ↦
          let bounds = days_in_month_bounds d.year (j + 1) in
          let is : IsCivilDate d.year (j + 1) 1 =
          (d.year_in, (omega arith, omega (arith, d.month_in)), (omega arith, omega arith)) in
          omega (
            arith,
            signed_arith,
            days_from_civil-day_count,
            day_count-lt_month d.year (j + 1) 1 d.month d.day is d.day_in.0 less,
          )
      | inr (inr more) ↦ absurd (omega arith)
    ]

months_high : (d : Date) (j : ℕ) → d.month < j + 1
    → epoch_day d <ℤ days_from_civil d.year (j + 1) 1
months_high d j h =
    omega (
      arith,
      signed_arith,
      days_from_civil-day_count,
      day_count-lt_month d.year d.month d.day (j + 1) 1 (civil d) (omega arith) h,
    )

-- the month of a date's day number is the date's
pub month_of-epoch_day : (d : Date) → month_of (epoch_day d) ≡ d.month
unfolding month_of
month_of-epoch_day d =
    let count =
    begun-to (λ k. days_from_civil d.year (k + 1) 1) (epoch_day d) (d.month - 1) 12
    (omega (arith, d.month_in)) (λ j h. months_low d j (omega (arith, d.month_in)))
    (λ j h. months_high d j (omega (arith, d.month_in))) in
    rw (year_of-epoch_day d, count) (omega (arith, d.month_in))

-- and the day in the month
pub day_of_month-epoch_day : (d : Date) → day_of_month (epoch_day d) ≡ d.day
unfolding day_of_month
day_of_month-epoch_day d =
    let after : epoch_day d ≡ days_from_civil d.year d.month 1 +ℤ pos (d.day - 1) =
    omega (
      arith,
      signed_arith,
      days_from_civil-day_count,
      d.day_in.0,
      day_count-day d.year d.month d.day 1 d.day_in.0 (omega arith),
    ) in
    rw (year_of-epoch_day d, month_of-epoch_day d, days_after _ _ _ after)
    (omega (arith, d.day_in.0))

-- and the place in the year
pub place_in_year-epoch_day : (d : Date) → place_in_year (epoch_day d) ≡ ordinal d
unfolding place_in_year
place_in_year-epoch_day d =
    let after : epoch_day d ≡ days_from_civil d.year 1 1 +ℤ pos (ordinal d - 1) =
    omega (
      arith,
      signed_arith,
      days_from_civil-day_count,
      d.day_in.0,
      day_count-day_of_year d.year d.month d.day d.day_in.0,
    ) in
    rw (year_of-epoch_day d, days_after _ _ _ after) (omega (arith, d.day_in.0))

-- the parts of a date's day number
pub day_number-date : (d : Date) → DayNumberTellsItsDate d
day_number-date d = record {
  is_year = year_of-epoch_day d;
  is_month = month_of-epoch_day d;
  is_day = day_of_month-epoch_day d;
  is_place = place_in_year-epoch_day d;
}

-- the same for a day that is known to be the date's
pub date_year : (d : Date) (n : ℤ) → epoch_day d ≡ n → d.year ≡ year_of n
date_year d n e = sym (year_of-epoch_day d) ∙ ap year_of e

pub date_month : (d : Date) (n : ℤ) → epoch_day d ≡ n → d.month ≡ month_of n
date_month d n e = sym (month_of-epoch_day d) ∙ ap month_of e

pub date_day : (d : Date) (n : ℤ) → epoch_day d ≡ n → d.day ≡ day_of_month n
date_day d n e = sym (day_of_month-epoch_day d) ∙ ap day_of_month e

pub date_place : (d : Date) (n : ℤ) → epoch_day d ≡ n → ordinal d ≡ place_in_year n
date_place d n e = sym (place_in_year-epoch_day d) ∙ ap place_in_year e

-- the Thursday of a week with a day that has a date has one too: the first day is a Monday, and
-- the last a Friday
pub thursday-civil : (n : ℤ) → IsTrue (is_civil_day n) → IsTrue (is_civil_day (thursday_of n))
thursday-civil n h = between-civil_day (thursday_of n) between where
  between : IsBetween (neg_ℤ (pos 4_371_587)) (pos 2_932_896) (thursday_of n)
  between =
      let is = civil_day-between n h in
      omega (arith, signed_arith, weekday_number-parts n)
