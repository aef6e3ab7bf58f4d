use Rattle.col_document.proofs.StepTextLemmas.{names_its_step}
use Rattle.col_document.proofs.laws.a_step_is_read_from_its_name.Goals as goal

pub returns : goal.returns
returns c = names_its_step
