use Rattle.col_calendar.proofs.KnownLemmas.{known_epoch, known_first, known_last, known_leap}
use Rattle.col_calendar.proofs.KnownLemmas.{known_week_53}
use Rattle.col_calendar.proofs.laws.known_days.Goals as goal

pub returns : goal.returns
returns c = record {
  first = known_first;
  epoch = known_epoch;
  leap = known_leap;
  week_53 = known_week_53;
  last = known_last;
}
