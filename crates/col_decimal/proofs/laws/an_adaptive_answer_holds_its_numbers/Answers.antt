use Rattle.col_decimal.specs.Laws.{AdaptiveAnswerHoldsItsNumbers}
use Rattle.col_decimal.proofs.AdaptiveLemmas.{adaptive-held}
use Rattle.col_decimal.proofs.laws.an_adaptive_answer_holds_its_numbers.Goals as goal

law : AdaptiveAnswerHoldsItsNumbers
law operation left right answer h = adaptive-held operation left right answer h

pub returns : goal.returns
returns c = law
