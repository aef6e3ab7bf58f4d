use Rattle.col_calendar.proofs.CivilLemmas.{day_number-date}
use Rattle.col_calendar.proofs.laws.day_numbers_tell_dates.Goals as goal

pub returns : goal.returns
returns c = day_number-date
