use Rattle.col_document.proofs.PositionLemmas.{count-of_digits, digits-of_count}
use Rattle.col_document.proofs.laws.a_count_is_its_digits.Goals as goal

pub returns : goal.returns
returns c = λ digits n. (digits-of_count digits n, λ h. count-of_digits digits n h.0 h.1)
