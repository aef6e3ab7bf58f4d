use Rattle.std.proofs.Common.{◌≡◌, map}
use Rattle.col_eval.specs.Tree.{tree_of}
use Rattle.col_page.specs.Generator.{made_trees}
use Rattle.col_page.proofs.GeneratorLemmas.{no_error-made}
use Rattle.col_page.proofs.generator.made.Goals as goal

pub returns-clause-error : goal.returns-clause-error
returns-clause-error c =
    let trees : map tree_of c.as_slice.result.now ≡ made_trees =
    rw c.as_slice.ensures.value c.in_ok-trees.ensures.value in
    rw c.new.ensures (no_error-made c.args.n _ _ _ _ _ c.in_ok-has_error.ensures.value
    c.in_ok-table.ensures.value trees)
