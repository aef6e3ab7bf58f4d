use Rattle.std.proofs.Common.{◌≡◌, ◌*ℤ◌, pos, rules, w64, to_z, of_z}
use Rattle.col_calendar.proofs.InstantLemmas.{instant-midnight}
use Rattle.col_calendar.proofs.kernels.part_of_day.Goals as goal

pub returns : goal.returns
returns g c =
    let second = to_z w64 (of_z w64 (to_z w64 (of_z w64 c.from.result) *ℤ pos 86_400)) in
    let is : second ≡ c.args.n *ℤ pos 86_400 = search rules in
    rw (← instant-midnight second c.args.n is) (search rules)
