use Rattle.col_eval.proofs.StepTypeLemmas.{steps_have_types}
use Rattle.col_eval.proofs.laws.steps_of_typed_trees_have_types.Goals as goal

pub returns : goal.returns
returns c = steps_have_types
