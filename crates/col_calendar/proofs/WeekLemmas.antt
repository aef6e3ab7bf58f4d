-- The year of a day by the first days of years, and its week by the weeks from 4 January on.
use Rattle.std.proofs.Common.{◌≡◌, ℕ, zero, suc, ◌+◌, ◌-◌, ◌*◌, ◌/◌, ◌<◌, ◌≤◌, inl, inr, arith}
use Rattle.std.proofs.Common.{ℤ, pos, neg_ℤ, ◌+ℤ◌, ◌-ℤ◌, ◌*ℤ◌, ◌<ℤ◌, ◌≤ℤ◌, unsigned_abs, IsTrue, refl}
use Rattle.std.specs.Int.{int_div_euclid}
use Rattle.std.proofs.lemmas.Bool.{cases_order}
use Rattle.std.proofs.lemmas.Int.{by_lt_z}
use Rattle.jiff_core.specs.Calendar.{IsBetween, IsYear, days_from_civil, iso_year_start}
use Rattle.jiff_core.specs.Calendar.{weekday_number}
use Rattle.jiff_core.proofs.SignedLemmas.{one_part, signed_arith}
use Rattle.jiff_core.proofs.CalendarLemmas.{day_count-end, day_count-later_year}
use Rattle.jiff_core.proofs.CalendarLemmas.{days_from_civil-day_count, days_in_year_bounds}
use Rattle.jiff_core.proofs.CalendarLemmas.{weekday_number_bound}
use Rattle.jiff_core.proofs.DateLemmas.{days_from_civil-min}
use Rattle.jiff_core.proofs.IsoWeekLemmas.{iso_year_start_near}
use Rattle.col_calendar.specs.Civil.{begun, is_civil_day, iso_week_of, place_in_year, thursday_of}
use Rattle.col_calendar.specs.Civil.{year_of}
use Rattle.col_calendar.specs.Laws.{LiesInWeek, WeekIsCounted}
use Rattle.col_calendar.proofs.CivilLemmas.{begun-more, begun-same, begun-zero, civil_day-between}
use Rattle.col_calendar.proofs.CivilLemmas.{days_after}
use Rattle.col_calendar.proofs.CivilLemmas.{thursday-civil}

-- so many of k spans have begun by a day: the last of them at or before it, the next one after it
record IsLastBegun (first : ℕ → ℤ) (n : ℤ) (k count : ℕ) : Type 0 where
  some : 1 ≤ count
  within : count ≤ k
  last : first (count - 1) ≤ℤ n
  next : count < k → n <ℤ first count

-- one span more
begun-next : (first : ℕ → ℤ) (n : ℤ) (k count : ℕ)
    → ((i : ℕ) → i < suc k → first i <ℤ first (suc k))
    → IsLastBegun first n (suc k) count → begun first n (suc k) ≡ count
    → IsLastBegun first n (suc (suc k)) (begun first n (suc (suc k)))
begun-next first n k count rise h e = by_lt_z n (first (suc k)) before since where
  before : n <ℤ first (suc k) → IsLastBegun first n (suc (suc k)) (begun first n (suc (suc k)))
  before late =
      rw (begun-same first n (suc k) late, e) (record {
        some = h.some;
        within = omega (arith, h.within);
        last = h.last;
        next = λ less. elim (cases_order count (suc k)) [
          | inl same ↦ rw same late
          | inr (inl less) ↦ h.next less
          | inr (inr more) ↦ absurd (omega (arith, h.within))
        ];
      })

  since : first (suc k) ≤ℤ n → IsLastBegun first n (suc (suc k)) (begun first n (suc (suc k)))
  since come =
      let all : count ≡ suc k =
      elim (cases_order count (suc k)) [
        | inl same ↦ same
        | inr (inl less) ↦ absurd (omega (arith, signed_arith, h.next less, rise count less))
        | inr (inr more) ↦ absurd (omega (arith, h.within))
      ] in
      let one : begun first n (suc (suc k)) ≡ suc (suc k) =
      omega (arith, begun-more first n (suc k) come) in
      rw one (record {
        some = omega arith;
        within = omega arith;
        last = let back : suc (suc k) - 1 ≡ suc k = omega arith in rw back come;
        next = λ less. absurd (omega arith);
      })

-- where their first days ascend, and the first has come
begun-last : (first : ℕ → ℤ) (n : ℤ) (k : ℕ)
    → ((i j : ℕ) → i < j → j ≤ k → first i <ℤ first j) → first 0 ≤ℤ n
    → IsLastBegun first n (suc k) (begun first n (suc k))
begun-last first n zero rise low =
    let one : begun first n 1 ≡ 1 = omega (arith, begun-more first n 0 low, begun-zero first n) in
    rw one (record {
      some = omega arith;
      within = omega arith;
      last = low;
      next = λ h. absurd (omega arith);
    })
begun-last first n (suc k) rise low =
    let rest = begun-last first n k (λ i j less most. rise i j less (omega arith)) low in
    begun-next first n k _ (λ i less. rise i (suc k) less (omega arith)) rest refl

-- the day lies in a year, from its first day to the next one's
record IsInYear (n y : ℤ) : Type 0 where
  is_year : IsYear y
  since : days_from_civil y 1 1 ≤ℤ n
  before : n <ℤ days_from_civil (y +ℤ pos 1) 1 1

abbrev first_day : ℕ → ℤ
first_day k = days_from_civil (pos k -ℤ pos 9_999) 1 1

first_day-rise : (i j : ℕ) → i < j → first_day i <ℤ first_day j
first_day-rise i j less =
    let low : neg_ℤ (pos 10_000) ≤ℤ (pos i -ℤ pos 9_999) = omega (arith, signed_arith) in
    let later : (pos i -ℤ pos 9_999) <ℤ (pos j -ℤ pos 9_999) = omega (arith, signed_arith) in
    omega (
      arith,
      signed_arith,
      days_from_civil-day_count,
      day_count-later_year (pos i -ℤ pos 9_999) (pos j -ℤ pos 9_999) low later,
      days_in_year_bounds (pos i -ℤ pos 9_999),
    )

year_at : (n : ℤ) (b : ℕ) → n ≤ℤ pos 2_932_896 → IsLastBegun first_day n 19_999 b
    → IsInYear n (pos b -ℤ pos 10_000)
year_at n b most h = record {
  is_year = omega (arith, signed_arith, h.some, h.within);
  since =
      let same : pos (b - 1) -ℤ pos 9_999 ≡ pos b -ℤ pos 10_000 =
      omega (arith, signed_arith, h.some) in
      rw same at h.last;
  before =
      let same : pos b -ℤ pos 10_000 +ℤ pos 1 ≡ pos b -ℤ pos 9_999 = omega (arith, signed_arith) in
      rw same (elim (cases_order b 19_999) [
        | inl all ↦ rw all (omega (arith, signed_arith, days_from_civil-day_count, day_count-end))
        | inr (inl less) ↦ h.next less
        | inr (inr more) ↦ absurd (omega (arith, h.within))
      ]);
}

year_of-holds : (n : ℤ) → IsTrue (is_civil_day n) → IsInYear n (year_of n)
unfolding year_of
year_of-holds n civil =
    let is = civil_day-between n civil in
    let low : first_day 0 ≤ℤ n = omega (arith, signed_arith, days_from_civil-min, is) in
    year_at n _ is.1
    (begun-last first_day n 19_998 (λ i j less most. first_day-rise i j less) low)

-- Mondays lie 7 days apart, and day -3 was one: so many came up to this day, from there on
abbrev mondays : ℤ → ℤ
mondays z = int_div_euclid (z +ℤ pos 3) (pos 7)

monday-place : (z : ℤ) → z -ℤ pos (weekday_number z) +ℤ pos 3 ≡ mondays z *ℤ pos 7
unfolding weekday_number
monday-place z = omega (arith, signed_arith)

-- where a week lies whose Thursday is k days after 1 January
week_place : (n t j s a b : ℤ) (w k : ℕ) → w < 7 → n -ℤ pos w +ℤ pos 3 ≡ t → t ≡ b *ℤ pos 7
    → s +ℤ pos 3 ≡ a *ℤ pos 7 → s ≤ℤ (j +ℤ pos 3) → j ≤ℤ (s +ℤ pos 3) → t ≡ j +ℤ pos k
    → ((s +ℤ pos (7 * (k / 7))) ≤ℤ n) × (n <ℤ (s +ℤ pos (7 * (k / 7 + 1))))
week_place n t j s a b w k small thursday whole start low high e = omega (arith, signed_arith)

-- and that it ends before the first week of the next year
week_ends : (n t j s a b : ℤ) (w : ℕ) → w < 7 → n -ℤ pos w +ℤ pos 3 ≡ t → t ≡ b *ℤ pos 7
    → s +ℤ pos 3 ≡ a *ℤ pos 7 → j ≤ℤ (s +ℤ pos 3) → t <ℤ j → n <ℤ s
week_ends n t j s a b w small thursday whole start high h = omega (arith, signed_arith)

iso_week-place : (n : ℤ) (k : ℕ)
    → thursday_of n ≡ days_from_civil (year_of (thursday_of n)) 1 1 +ℤ pos k
    → iso_week_of n ≡ k / 7 + 1
unfolding place_in_year
iso_week-place n k e =
    let back : k + 1 - 1 ≡ k = omega arith in
    rw (days_after _ _ k e, back) (omega arith)

distance : (a b : ℤ) → a ≤ℤ b → b ≡ a +ℤ pos (unsigned_abs (b -ℤ a))
distance a b h = omega (arith, signed_arith, one_part (b -ℤ a))

week-lies : (n : ℤ) → IsTrue (is_civil_day n)
    → LiesInWeek n (year_of (thursday_of n)) (iso_week_of n)
week-lies n civil =
    let t = thursday_of n in
    let y = year_of t in
    let first = days_from_civil y 1 1 in
    let k = unsigned_abs (t -ℤ first) in
    let year = year_of-holds t (thursday-civil n civil) in
    let after = distance first t year.since in
    let here : IsBetween (neg_ℤ (pos 9_999)) (pos 10_000) y =
    omega (arith, signed_arith, year.is_year) in
    let there : IsBetween (neg_ℤ (pos 9_999)) (pos 10_000) (y +ℤ pos 1) =
    omega (arith, signed_arith, year.is_year) in
    let near = iso_year_start_near y here in
    let next = iso_year_start_near (y +ℤ pos 1) there in
    let back : k / 7 + 1 - 1 ≡ k / 7 = omega arith in
    let fourth = days_from_civil y 1 4 in
    let other = days_from_civil (y +ℤ pos 1) 1 4 in
    let place =
    week_place n t first (iso_year_start y) (mondays fourth) (mondays n) (weekday_number n) k
    (weekday_number_bound n) refl (monday-place n) (monday-place fourth) near.0 near.1 after in
    rw (iso_week-place n k after) (record {
      since = rw back place.0;
      before = place.1;
      in_year =
          week_ends n t _ (iso_year_start (y +ℤ pos 1)) (mondays other) (mondays n)
          (weekday_number n) (weekday_number_bound n) refl (monday-place n) (monday-place other)
          next.1 year.before;
    })

-- a later year's first week begins no sooner
year_start-rise : (y later : ℤ) → IsBetween (neg_ℤ (pos 9_999)) (pos 10_000) y
    → IsBetween (neg_ℤ (pos 9_999)) (pos 10_000) later → y ≤ℤ later
    → iso_year_start y ≤ℤ iso_year_start later
year_start-rise y later is will h = by_lt_z y later more same where
  more : y <ℤ later → iso_year_start y ≤ℤ iso_year_start later
  more less =
      let low : neg_ℤ (pos 10_000) ≤ℤ y = omega (arith, signed_arith, is) in
      omega (
        arith,
        signed_arith,
        days_from_civil-day_count,
        day_count-later_year y later low less,
        days_in_year_bounds y,
        iso_year_start_near y is,
        iso_year_start_near later will,
      )

  same : later ≤ℤ y → iso_year_start y ≤ℤ iso_year_start later
  same most = let e : y ≡ later = omega (arith, signed_arith) in rw e (omega (arith, signed_arith))

-- a day lies in the weeks of one year, and in one of them
weeks_apart : (n y z : ℤ) (v w : ℕ) → IsYear y → IsYear z → LiesInWeek n y v → LiesInWeek n z w
    → z ≤ℤ y
weeks_apart n y z v w is will g h = by_lt_z y z beyond (λ most. most) where
  beyond : y <ℤ z → z ≤ℤ y
  beyond less =
      let rise =
      year_start-rise (y +ℤ pos 1) z (omega (arith, signed_arith, is))
      (omega (arith, signed_arith, will)) (omega (arith, signed_arith)) in
      absurd (omega (arith, signed_arith, g.in_year, h.since))

same_week : (n y : ℤ) (v w : ℕ) → LiesInWeek n y v → LiesInWeek n y w → v ≡ w
same_week n y v w g h =
    omega (arith, signed_arith, g.since, g.before, h.since, h.before)

week-alone : (n y z : ℤ) (v w : ℕ) → IsYear y → IsYear z → LiesInWeek n y v → LiesInWeek n z w
    → v ≡ w
week-alone n y z v w is will g h =
    let low = weeks_apart n y z v w is will g h in
    let high = weeks_apart n z y w v will is h g in
    let e : y ≡ z = omega (arith, signed_arith) in
    same_week n z v w (rw e at g) h

pub week-counted : (n : ℤ) → IsTrue (is_civil_day n) → WeekIsCounted n
week-counted n civil =
    let lies = week-lies n civil in
    let year = year_of-holds (thursday_of n) (thursday-civil n civil) in
    record {
      lies = lies;
      alone = λ y w is h. week-alone n y _ w _ is year.is_year h lies;
    }
