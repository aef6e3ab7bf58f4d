use Rattle.col_document.specs.View.{document_view}
use Rattle.col_page.proofs.PageLemmas.{lines-next}
use Rattle.col_page.proofs.page.page_in.Goals as goal

pub loop-i-preserved : goal.loop-i-preserved
loop-i-preserved c =
    lines-next _ _ _ _ (document_view c.args.doc.now).trees c.loop-i.i _ _ _ _ _ _
    c.loop-i.invariant c.tree.ensures c.table.ensures c.in_ok-has_error.ensures.value
