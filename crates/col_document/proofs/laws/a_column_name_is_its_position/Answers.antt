use Rattle.col_document.proofs.PositionLemmas.{position-from_name, name-of_position}
use Rattle.col_document.proofs.laws.a_column_name_is_its_position.Goals as goal

pub returns : goal.returns
returns c = λ text i. (position-from_name text i, λ h. name-of_position text i h.0 h.1)
