use Rattle.col_eval.proofs.RefusalLemmas.{IsGatheredFrom-gathered}
use Rattle.col_eval.proofs.laws.outcome_is_the_least_refusal.Goals as goal

pub returns : goal.returns
returns c = IsGatheredFrom-gathered
