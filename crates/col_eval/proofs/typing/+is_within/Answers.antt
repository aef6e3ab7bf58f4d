use Rattle.std.proofs.Common.{arith}
use Rattle.col_eval.specs.Tree.{tree_of}
use Rattle.col_eval.proofs.TreeLemmas.{level_count-positive}
use Rattle.col_eval.proofs.typing.+is_within.Goals as goal

pub returns-then-levels-eq0 : goal.returns-then-levels-eq0
returns-then-levels-eq0 t c =
    let one_level = level_count-positive (tree_of c.args.tree.now) in
    (λ h. cc, λ h. absurd (omega arith))
