use Rattle.std.proofs.Common.{◌≡◌, ◌∷◌, get_or, ◌⊎◌, inl, inr, subst, ap, refl, ◌∙◌, arith}
use Rattle.json.specs.Lex.{after_value, punctuate, token}
use Rattle.json.specs.Token.{string}
use Rattle.col_json.proofs.CursorLemmas as own
use Rattle.col_json.proofs.cursor.string_step.Goals as goal

pub returns-in-58 : goal.returns-in-58
returns-in-58 c p may =
    let is : get_or c.args.text.now c.skip_spaces-at.result 32 ≡ 58 = grind arith in
    ap (λ ls. punctuate p (token (string c.args.found.now) ∷ ls)) (c.skip_spaces-at.ensures
    ∙ own.by-byte c.args.text.now c.skip_spaces-at.result 58 is refl own.lex-colon)
    ∙ own.begins-key p c.args.found.now _ may

pub returns-in-44 : goal.returns-in-44
returns-in-44 c p may =
    let is : get_or c.args.text.now c.skip_spaces-at.result 32 ≡ 44 = grind arith in
    ap (λ ls. punctuate p (token (string c.args.found.now) ∷ ls)) c.skip_spaces-at.ensures
    ∙ own.begins-string p c.args.found.now _ may
    (own.no-colon c.args.text.now c.skip_spaces-at.result (inl is))
    ∙ ap (λ ls. string c.args.found.now ∷ punctuate after_value ls)
    (own.by-byte c.args.text.now c.skip_spaces-at.result 44 is refl own.lex-comma)
    ∙ ap (λ ts. string c.args.found.now ∷ ts) (own.passes-comma _)

pub returns-in-93 : goal.returns-in-93
returns-in-93 c p may =
    let ended = own.no-colon c.args.text.now c.skip_spaces-at.result (inr (subst (λ x. (x ≡ 93) ⊎ (x
    ≡ 125)) c.byte_at.ensures c.in-93.is)) in
    ap (λ ls. punctuate p (token (string c.args.found.now) ∷ ls)) c.skip_spaces-at.ensures
    ∙ own.begins-string p c.args.found.now _ may ended
