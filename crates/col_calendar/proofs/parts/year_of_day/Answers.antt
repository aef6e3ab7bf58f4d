use Rattle.std.proofs.Common.{◌≡◌, ◌∙◌, rules, w32, to_z, of_z}
use Rattle.col_calendar.proofs.CivilLemmas.{date_year}
use Rattle.col_calendar.proofs.parts.year_of_day.Goals as goal

pub returns : goal.returns
returns c =
    let is : to_z w32 (of_z w32 c.from.result) ≡ c.date_of.result.year = search rules in
    is ∙ date_year c.date_of.result c.args.day (search rules)
