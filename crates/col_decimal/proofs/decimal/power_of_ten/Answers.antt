use Rattle.col_decimal.proofs.DecimalLemmas.{power_fits}
use Rattle.col_decimal.proofs.decimal.power_of_ten.Goals as goal

pub pow-requires : goal.pow-requires
pow-requires c = power_fits c.args.exponent c.requires
