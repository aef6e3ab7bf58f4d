use Rattle.std.proofs.Common.{◌≡◌, ◌∙◌, rules}
use Rattle.col_calendar.proofs.CivilLemmas.{date_day}
use Rattle.col_calendar.proofs.parts.day_in_month.Goals as goal

pub returns : goal.returns
returns c =
    let is : c.from.result ≡ c.date_of.result.day = search rules in
    is ∙ date_day c.date_of.result c.args.day (search rules)
