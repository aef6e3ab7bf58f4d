use Rattle.std.proofs.Common.{◌≡◌, ℤ, rules}
use Rattle.col_flat.specs.Parts.{column_of}
use Rattle.col_calendar.specs.Civil.{instant_of}
use Rattle.col_calendar.specs.Part.{clock_step, instant_step, number_step}
use Rattle.col_calendar.proofs.kernels.parts_of_64.Goals as goal

pub parts_of_numbers-requires-clause-step : goal.parts_of_numbers-requires-clause-step
parts_of_numbers-requires-clause-step g c =
    let p = g.P.CivilPart.part in
    let t = (column_of c.args.array.now).data_type in
    let is
    : (n : ℤ) → number_step p t c.args.zone.now n ≡ clock_step p (instant_of c.in-Some.unit n) =
    search rules in
    λ n r h. rw (is n) (search rules)

pub parts_of_numbers-requires-in-None-clause-step :
    goal.parts_of_numbers-requires-in-None-clause-step
parts_of_numbers-requires-in-None-clause-step g c =
    let p = g.P.CivilPart.part in
    let t = (column_of c.args.array.now).data_type in
    let o = c.args.zone.now in
    let is
    : (n : ℤ) → number_step p t o n
    ≡ instant_step p o (instant_of c.instant_unit-unit.result n) =
    search rules in
    λ n r h. rw (is n) (search rules)
