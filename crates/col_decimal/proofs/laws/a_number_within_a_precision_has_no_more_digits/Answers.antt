use Rattle.col_decimal.specs.Laws.{WithinTellsDigits}
use Rattle.col_decimal.proofs.DecimalLemmas.{digits-within, within-digits}
use Rattle.col_decimal.proofs.laws.a_number_within_a_precision_has_no_more_digits.Goals as goal

law : WithinTellsDigits
law precision n = (within-digits precision n, digits-within precision n)

pub returns : goal.returns
returns c = law
