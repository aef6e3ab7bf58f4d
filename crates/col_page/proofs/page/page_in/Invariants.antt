use Rattle.std.proofs.Common.{[], take}
use Rattle.col_eval.specs.Meaning.{outcome_of}
use Rattle.col_page.specs.Page.{HasLines, column_text}
use Rattle.col_document.specs.View.{document_view}
use Rattle.col_page.proofs.page.page_in.Given as goal

-- the lines so far are those of the trees so far
abbrev pub invariant-loop-i : goal.invariant-loop-i
invariant-loop-i l =
    HasLines column_text outcome_of (document_view l.doc).table
    (take l.i (document_view l.doc).trees) [] l.text.items l.has_error
