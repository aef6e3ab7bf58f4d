use Rattle.col_document.proofs.LeafLemmas.{spelling-read, tree-read_from_spelling}
use Rattle.col_document.proofs.laws.a_tree_is_read_from_its_spelling.Goals as goal

pub returns : goal.returns
returns c = λ items t. (tree-read_from_spelling items t, λ h. spelling-read items t h.0 h.1)
