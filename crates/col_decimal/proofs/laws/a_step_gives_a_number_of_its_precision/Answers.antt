use Rattle.col_model.specs.Cell.{whole}
use Rattle.col_decimal.specs.Laws.{StepGivesItsPrecision}
use Rattle.col_decimal.proofs.DecimalLemmas.{within-digits}
use Rattle.col_decimal.proofs.PrecisionLemmas.{given_cell}
use Rattle.col_decimal.proofs.laws.a_step_gives_a_number_of_its_precision.Goals as goal

law : StepGivesItsPrecision
law operation form precision scale x y n h =
    within-digits precision n (given_cell operation form precision scale x y (whole n) h)

pub returns : goal.returns
returns c = law
