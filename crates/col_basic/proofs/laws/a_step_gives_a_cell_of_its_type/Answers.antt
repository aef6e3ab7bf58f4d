use Rattle.col_basic.proofs.FormLemmas.{typed_step}
use Rattle.col_basic.proofs.laws.a_step_gives_a_cell_of_its_type.Goals as goal

pub returns : goal.returns
returns c = typed_step
