use Rattle.std.proofs.Common.{◌≡◌, IsTrue, rules, subst, sym, ℤ, ◌+ℤ◌, ◌-ℤ◌, pos, w64, to_z, of_z}
use Rattle.col_calendar.specs.Civil.{is_civil_day, thursday_of}
use Rattle.col_calendar.proofs.CivilLemmas.{thursday-civil}
use Rattle.col_calendar.proofs.parts.thursday_of_week.Goals as goal

pub returns-clause-civil : goal.returns-clause-civil
returns-clause-civil c =
    let is
    : to_z w64 (of_z w64 (to_z w64 (of_z w64 c.args.day) -ℤ to_z w64 (of_z w64 c.from.result)))
    +ℤ pos 3 ≡ thursday_of c.args.day =
    search rules in
    let P : ℤ → Type 0 = λ n. IsTrue (is_civil_day n) in
    search (rules, subst P (sym is) (thursday-civil c.args.day c.requires))
