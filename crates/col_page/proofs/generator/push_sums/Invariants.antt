use Rattle.std.proofs.Common.{map, take}
use Rattle.col_eval.specs.Tree.{tree_of}
use Rattle.col_page.specs.Page.{HasLines}
use Rattle.col_page.specs.Sums.{sum_of_tree, total_text}
use Rattle.col_page.proofs.generator.push_sums.Given as goal

-- the lines so far are those of the trees so far
abbrev pub invariant-loop-i : goal.invariant-loop-i
invariant-loop-i l =
    HasLines total_text sum_of_tree l.table (take l.i (map tree_of l.trees)) l.fn.text.items
    l.text.items l.has_error
