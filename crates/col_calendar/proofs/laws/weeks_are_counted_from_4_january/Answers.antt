use Rattle.col_calendar.proofs.WeekLemmas.{week-counted}
use Rattle.col_calendar.proofs.laws.weeks_are_counted_from_4_january.Goals as goal

pub returns : goal.returns
returns c = week-counted
