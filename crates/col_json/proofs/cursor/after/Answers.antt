use Rattle.std.proofs.Common.{◌≡◌, ◌∷◌, get_or, ap, refl, ◌∙◌, arith}
use Rattle.json.specs.Lex.{after_value, punctuate}
use Rattle.col_json.specs.Cursor.{token_of}
use Rattle.col_json.proofs.CursorLemmas as own
use Rattle.col_json.proofs.cursor.after.Goals as goal

pub returns-then-byte_at-eq44 : goal.returns-then-byte_at-eq44
returns-then-byte_at-eq44 c p lexemes is_first =
    let is : get_or c.args.text.now c.skip_spaces-at.result 32 ≡ 44 = grind arith in
    is_first
    ∙ ap (λ ls. token_of c.args.token ∷ punctuate after_value ls) (c.skip_spaces-at.ensures
    ∙ own.by-byte c.args.text.now c.skip_spaces-at.result 44 is refl own.lex-comma)
    ∙ ap (λ ts. token_of c.args.token ∷ ts) (own.passes-comma _)
