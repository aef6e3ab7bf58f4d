use Rattle.std.proofs.Common.{[], take}
use Rattle.col_page.specs.Page.{HasLines}
use Rattle.col_page.specs.Sums.{sum_of_tree, total_text}
use Rattle.col_document.specs.View.{document_view}
use Rattle.col_page.proofs.sums.sums_of.Given as goal

-- the lines so far are those of the trees so far
abbrev pub invariant-loop-i : goal.invariant-loop-i
invariant-loop-i l =
    HasLines total_text sum_of_tree (document_view l.doc).table
    (take l.i (document_view l.doc).trees) [] l.text.items l.has_error
