use Rattle.std.proofs.Common.{◌∙◌, sym}
use Rattle.col_document.proofs.NumberTextLemmas.{shortest-parsed}
use Rattle.col_document.proofs.texts.read_count.Goals as goal

pub returns-then-begins_shortest : goal.returns-then-begins_shortest
returns-then-begins_shortest c =
    c.ok.ensures.value
    ∙ shortest-parsed c.args.digits.now _
    (sym c.begins_shortest.ensures ∙ c.if-begins_shortest.true) c.parse.ensures.value.0
