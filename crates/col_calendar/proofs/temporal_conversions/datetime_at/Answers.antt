use Rattle.std.proofs.Common.{rules}
use Rattle.col_calendar.proofs.InstantLemmas.{instant-day, parts_at}
use Rattle.col_calendar.proofs.temporal_conversions.datetime_at.Goals as goal

pub returns : goal.returns
returns c = (
  rw (instant-day c.args.second c.args.nanosecond c.requires) (search rules),
  parts_at c.args.second c.args.nanosecond c.from_parts.result c.requires
      (search rules) (search rules) (search rules),
)
