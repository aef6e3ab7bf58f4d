use Rattle.std.proofs.Common.{◌≡◌, ◌∙◌, rules}
use Rattle.col_calendar.proofs.CivilLemmas.{date_month}
use Rattle.col_calendar.proofs.parts.month_of_day.Goals as goal

pub returns : goal.returns
returns c =
    let is : c.from.result ≡ c.date_of.result.month = search rules in
    is ∙ date_month c.date_of.result c.args.day (search rules)
