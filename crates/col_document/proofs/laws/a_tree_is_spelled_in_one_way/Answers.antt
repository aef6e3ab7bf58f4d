use Rattle.std.specs.Prelude.{[]}
use Rattle.std.proofs.Common.{◌∙◌, ap}
use Rattle.col_document.specs.Document.{only_tree, with_pieces}
use Rattle.col_document.specs.Json.{◌>>=◌}
use Rattle.col_document.proofs.SpellingLemmas.{spelling-of_tree, tree-of_spelling}
use Rattle.col_document.proofs.laws.a_tree_is_spelled_in_one_way.Goals as goal

pub returns : goal.returns
returns c = λ pieces t h. (
  spelling-of_tree pieces t h,
  λ w. ap (λ ps. with_pieces ps [] >>= only_tree) w.0
      ∙ tree-of_spelling t w.1,
)
