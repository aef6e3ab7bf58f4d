use Rattle.std.proofs.Common.{◌∙◌}
use Rattle.col_document.specs.View.{document_view}
use Rattle.col_document.proofs.ReadingLemmas.{Reads-same, document_of-text, document_of-unread}
use Rattle.col_document.proofs.document.read_document.Goals as goal

pub returns-in_default : goal.returns-in_default
returns-in_default c = document_of-unread c.args.bytes.now c.in_default.ensures

pub returns-in-Some : goal.returns-in-Some
returns-in-Some c =
    document_of-text c.args.bytes.now c.in-Ok.text.now c.in-Ok.ensures.1 c.in-Ok.ensures.0
    ∙ c.in-Some.ensures

pub returns-in-None : goal.returns-in-None
returns-in-None c =
    Reads-same document_view _ _ _
    (document_of-text c.args.bytes.now c.in-Ok.text.now c.in-Ok.ensures.1 c.in-Ok.ensures.0)
    c.read_text.ensures
