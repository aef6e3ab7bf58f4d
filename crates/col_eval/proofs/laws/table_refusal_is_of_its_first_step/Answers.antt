use Rattle.col_eval.proofs.StepLemmas.{table_refused_at_step}
use Rattle.col_eval.proofs.laws.table_refusal_is_of_its_first_step.Goals as goal

pub returns : goal.returns
returns c = table_refused_at_step
