use Rattle.std.proofs.Common.{◌≡◌, get_or, ap, refl, ◌∙◌, arith}
use Rattle.json.specs.Lex.{punctuate}
use Rattle.col_json.proofs.CursorLemmas as own
use Rattle.col_json.proofs.cursor.close.Goals as goal

pub returns-in-125 : goal.returns-in-125
returns-in-125 c p may =
    let is : get_or c.args.text.now c.args.at 32 ≡ 125 = grind arith in
    c.after.ensures p _
    (ap (punctuate p) (own.by-byte c.args.text.now c.args.at 125 is refl own.lex-close_brace)
    ∙ own.closes-object p _ may)

pub returns-in-93 : goal.returns-in-93
returns-in-93 c p may =
    let is : get_or c.args.text.now c.args.at 32 ≡ 93 = grind arith in
    c.after-in-93.ensures p _
    (ap (punctuate p) (own.by-byte c.args.text.now c.args.at 93 is refl own.lex-close_bracket)
    ∙ own.closes-array p _ may)
