use Rattle.std.proofs.Common.{sym}
use Rattle.col_decimal.proofs.DecimalLemmas.{digits_between}
use Rattle.col_decimal.proofs.decimal.digits_of_size.Goals as goal

pub returns-in-Some : goal.returns-in-Some
returns-in-Some c =
    let found = c.in-Some.ensures in
    sym (digits_between c.args.size c.in-Some.place found.power_le found.next_power_gt)
