use Rattle.col_eval.proofs.StepLemmas.{refused_at_step}
use Rattle.col_eval.proofs.laws.refusal_names_its_step.Goals as goal

pub returns : goal.returns
returns c = refused_at_step
