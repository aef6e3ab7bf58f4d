use Rattle.std.proofs.Common.{rules, ◌≡◌, ◌+ℤ◌, w64, to_z, of_z}
use Rattle.col_calendar.proofs.InstantLemmas.{civil-seconds, local-civil, local-none, local-parts}
use Rattle.col_calendar.proofs.temporal_conversions.zoned_at.Goals as goal

pub local_second-local-requires : goal.local_second-local-requires
local_second-local-requires c =
    civil-seconds _ c.args.nanosecond c.requires c.in-Some.ensures.0

pub returns-in_default-datetime_at : goal.returns-in_default-datetime_at
returns-in_default-datetime_at c =
    let s = c.args.second in
    let o = c.args.timezone.now in
    let l = to_z w64 (of_z w64 c.local_second-local.result) in
    let e : l ≡ s +ℤ o = search rules in
    local-none s o l c.args.nanosecond e c.in_default-datetime_at.ensures

pub returns : goal.returns
returns c =
    let s = c.args.second in
    let o = c.args.timezone.now in
    let l = to_z w64 (of_z w64 c.local_second-local.result) in
    let e : l ≡ s +ℤ o = search rules in (
      local-civil s o l c.args.nanosecond e (search rules) c.in-Some-datetime_at.ensures.0,
      record {
        utc = search rules;
        local = rw c.new.ensures.local
            (local-parts s o l c.args.nanosecond _ e c.in-Some-datetime_at.ensures.1);
        offset = search rules;
      },
    )
