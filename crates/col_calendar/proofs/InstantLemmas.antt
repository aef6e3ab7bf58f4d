-- Days and times of day of instants that are given by whole seconds.
use Rattle.std.proofs.Common.{◌≡◌, ℕ, ◌<◌, refl, sym, ◌∙◌, arith}
use Rattle.std.proofs.Common.{ℤ, pos, neg_ℤ, ◌+ℤ◌, ◌*ℤ◌, IsTrue}
use Rattle.std.specs.Prelude.{Bool, true, false, not, ◌&&◌}
use Rattle.std.specs.Int.{int_div_euclid, int_rem_euclid}
use Rattle.jiff_core.specs.Calendar.{IsBetween}
use Rattle.jiff_core.specs.Date.{epoch_day}
use Rattle.jiff_core.specs.Time.{time_nanos, time_seconds}
use Rattle.jiff_core.specs.declared.civil.datetime.DateTime.{DateTime}
use Rattle.jiff_core.proofs.SignedLemmas.{signed_arith}
use Rattle.col_calendar.specs.Civil.{IsDateTimeOf, day_of, instant_at, local_instant}
use Rattle.col_calendar.specs.Civil.{midnight_of, time_of}
use Rattle.col_calendar.specs.Conversion.{is_civil}
use Rattle.col_calendar.proofs.CivilLemmas.{civil_day-between}

-- the day is the whole days of the seconds
pub instant-day : (s : ℤ) (n : ℕ) → n < 1_000_000_000
    → day_of (instant_at s n) ≡ int_div_euclid s (pos 86_400)
instant-day s n h = omega (arith, signed_arith)

-- the time of day is what they leave
pub instant-time : (s : ℤ) (n : ℕ) → n < 1_000_000_000
    → pos (time_of (instant_at s n))
    ≡ instant_at (int_rem_euclid s (pos 86_400)) n
instant-time s n h = omega (arith, signed_arith)

-- a clock's instant has the same nanoseconds
pub instant-local : (s o : ℤ) (n : ℕ)
    → local_instant o (instant_at s n) ≡ instant_at (s +ℤ o) n
instant-local s o n = omega (arith, signed_arith)

-- the seconds of an instant that has a date-time
pub civil-seconds : (s : ℤ) (n : ℕ) → n < 1_000_000_000 → IsTrue (is_civil (instant_at s n))
    → IsBetween (neg_ℤ (pos 377_705_116_800)) (pos 253_402_300_799) s
civil-seconds s n h civil =
    let is = civil_day-between (int_div_euclid s (pos 86_400)) (rw (instant-day s n h) at civil) in
    omega (arith, signed_arith)

-- a date on the day and a time of the seconds are the instant's
pub parts_at : (s : ℤ) (n : ℕ) (dt : DateTime) → n < 1_000_000_000
    → epoch_day dt.date ≡ int_div_euclid s (pos 86_400)
    → pos (time_seconds dt.time) ≡ int_rem_euclid s (pos 86_400)
    → dt.time.subsec_nanosecond ≡ n
    → IsDateTimeOf (instant_at s n) dt
parts_at s n dt h date time rest =
    let whole : pos (time_nanos dt.time) ≡ pos (time_of (instant_at s n)) =
    omega (arith, signed_arith, instant-time s n h, rest, time) in
    record {
      date = date ∙ sym (instant-day s n h);
      time = cc;
    }

not_both : (a b : Bool) → IsTrue (not b) → IsTrue (not (a && b))
not_both true b h = h
not_both false b h = refl

both : (a b : Bool) → IsTrue a → IsTrue b → IsTrue (a && b)
both true b g h = h
both false b g h = cc

-- a clock's instant has a date-time where that of its seconds has
pub local-civil : (s o l : ℤ) (n : ℕ) → l ≡ s +ℤ o → IsTrue (is_civil (instant_at s n))
    → IsTrue (is_civil (instant_at l n))
    → IsTrue (is_civil (instant_at s n) && is_civil (local_instant o (instant_at s n)))
local-civil s o l n e g h = rw (instant-local s o n, ← e) (both _ _ g h)

pub local-none : (s o l : ℤ) (n : ℕ) → l ≡ s +ℤ o → IsTrue (not (is_civil (instant_at l n)))
    → IsTrue (not (is_civil (instant_at s n) && is_civil (local_instant o (instant_at s n))))
local-none s o l n e h = rw (instant-local s o n, ← e) (not_both _ _ h)

pub local-parts : (s o l : ℤ) (n : ℕ) (dt : DateTime) → l ≡ s +ℤ o
    → IsDateTimeOf (instant_at l n) dt → IsDateTimeOf (local_instant o (instant_at s n)) dt
local-parts s o l n dt e h = rw (instant-local s o n, ← e) h

-- a day's midnight, in seconds
pub instant-midnight : (s n : ℤ) → s ≡ n *ℤ pos 86_400 → instant_at s 0 ≡ midnight_of n
instant-midnight s n e = omega (arith, signed_arith)
