use Rattle.std.proofs.Common.{map, refl, arith}
use Rattle.col_eval.specs.Tree.{tree_of}
use Rattle.col_page.proofs.PageLemmas.{element-viewed, lines-next}
use Rattle.col_page.proofs.generator.push_sums.Goals as goal

pub loop-i-preserved : goal.loop-i-preserved
loop-i-preserved c =
    lines-next _ _ _ _ (map tree_of c.args.trees.now) c.loop-i.i
    (tree_of c.index-trees-i.result) _ _ _ _ _ c.loop-i.invariant
    (element-viewed tree_of c.args.trees.now c.loop-i.i c.index-trees-i.result
    (omega (arith, c.loop-i-test.true)) c.index-trees-i.is)
    refl c.in_ok-has_error.ensures.value
