use Rattle.col_reduce.proofs.LawLemmas.{total_of-valid}
use Rattle.col_reduce.proofs.laws.a_total_is_of_valid_cells.Goals as goal

pub returns : goal.returns
returns c = total_of-valid
