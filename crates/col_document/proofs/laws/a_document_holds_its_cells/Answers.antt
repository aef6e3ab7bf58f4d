use Rattle.col_document.proofs.CellOfLemmas.{document_of-typed}
use Rattle.col_document.proofs.laws.a_document_holds_its_cells.Goals as goal

pub returns : goal.returns
returns c = document_of-typed
