use Rattle.col_eval.proofs.RowLemmas.{equal_rows}
use Rattle.col_eval.proofs.laws.outcome_depends_on_cells_alone.Goals as goal

pub returns : goal.returns
returns c = equal_rows
