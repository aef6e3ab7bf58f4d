use Rattle.col_decimal.proofs.DecimalLemmas.{limit_worked}
use Rattle.col_decimal.proofs.decimal.max_value.Goals as goal

pub returns : goal.returns
returns c = limit_worked c.args.precision _ c.requires c.power_of_ten.ensures
