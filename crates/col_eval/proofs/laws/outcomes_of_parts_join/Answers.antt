use Rattle.col_eval.proofs.SplitLemmas.{joins_parts}
use Rattle.col_eval.proofs.laws.outcomes_of_parts_join.Goals as goal

pub returns : goal.returns
returns c = joins_parts
