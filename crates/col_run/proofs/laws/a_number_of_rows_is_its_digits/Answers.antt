use Rattle.col_run.proofs.WordLemmas.{digits-of_rows, rows-of_digits}
use Rattle.col_run.proofs.laws.a_number_of_rows_is_its_digits.Goals as goal

pub returns : goal.returns
returns c word n = (digits-of_rows word n, λ h. rows-of_digits word n h.0 h.1)
