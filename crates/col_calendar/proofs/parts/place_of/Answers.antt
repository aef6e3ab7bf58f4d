use Rattle.std.proofs.Common.{◌≡◌, ◌∙◌, rules}
use Rattle.jiff_core.specs.Date.{ordinal}
use Rattle.col_calendar.proofs.CivilLemmas.{date_place}
use Rattle.col_calendar.proofs.parts.place_of.Goals as goal

pub returns-clause-value : goal.returns-clause-value
returns-clause-value c =
    let is : c.from.result ≡ ordinal c.date_of.result = search rules in
    is ∙ date_place c.date_of.result c.args.day (search rules)
