use Rattle.std.proofs.Common.{◌≡◌, ◌+ℤ◌, true, false, rules, w64, to_z, of_z, refl}
use Rattle.col_calendar.specs.Civil.{instant_at}
use Rattle.col_calendar.specs.Conversion.{is_civil}
use Rattle.col_calendar.proofs.PartLemmas.{instant_step-beyond, instant_step-within}
use Rattle.col_calendar.proofs.kernels.part_of_instant.Goals as goal

pub returns-then-not-has_date-2 : goal.returns-then-not-has_date-2
returns-then-not-has_date-2 g c =
    let s = c.args.second in
    let o = c.args.zone.now in
    let n = c.args.nanosecond in
    let l = to_z w64 (of_z w64 c.local_second-local.result) in
    let e : l ≡ s +ℤ o = search rules in
    let told = c.has_date-2.ensures n c.requires in
    let none : is_civil (instant_at l n) ≡ false = search rules in
    rw (instant_step-beyond g.P.CivilPart.part s o l n e none) refl

pub returns : goal.returns
returns g c =
    let s = c.args.second in
    let o = c.args.zone.now in
    let n = c.args.nanosecond in
    let l = to_z w64 (of_z w64 c.local_second-local.result) in
    let e : l ≡ s +ℤ o = search rules in
    let first = c.has_date.ensures n c.requires in
    let told = c.has_date-2.ensures n c.requires in
    let utc : is_civil (instant_at s n) ≡ true = search rules in
    let shown : is_civil (instant_at l n) ≡ true = search rules in
    rw (instant_step-within g.P.CivilPart.part s o l n e utc shown) (search rules)
