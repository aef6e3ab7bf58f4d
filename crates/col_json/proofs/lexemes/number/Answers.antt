use Rattle.std.proofs.Common.{◌||◌, sym, ap, ◌∙◌}
use Rattle.json.specs.Word.{is_operator, is_space}
use Rattle.col_json.proofs.LexLemmas.{number-from}
use Rattle.col_json.proofs.lexemes.number.Goals as goal

pub returns : goal.returns
returns c =
    let first = c.minus_end-first in
    let end = c.digits_end-end in
    let whole = c.are_whole.ensures c.if-not-are_whole.false in
    number-from c.args.text.now c.args.at first.result end.result first.ensures.value
    first.ensures.within end.ensures.value whole.0 (end.ensures.within whole.0) whole.1
    (ap (λ x. is_operator x || is_space x) (sym c.byte_at.ensures) ∙ sym c.ends_word.ensures
    ∙ c.if-not-ends_word.false)
