use Rattle.col_eval.proofs.CellOfLemmas.{outcome_holds}
use Rattle.col_eval.proofs.laws.outcome_holds_its_cells.Goals as goal

pub returns : goal.returns
returns c = outcome_holds
