use Rattle.std.proofs.Common.{rules}
use Rattle.jiff_core.specs.Calendar.{weekday_number}
use Rattle.col_calendar.proofs.parts.weekday_index.Goals as goal

pub returns-clause-value : goal.returns-clause-value
unfolding weekday_number
returns-clause-value c = search rules
