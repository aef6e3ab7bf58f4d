use Rattle.std.proofs.Common.{◌≡◌, get_or, ap, refl, ◌∙◌, arith}
use Rattle.json.specs.Lex.{punctuate}
use Rattle.col_json.proofs.CursorLemmas as own
use Rattle.col_json.proofs.cursor.begin.Goals as goal

pub returns-in-123 : goal.returns-in-123
returns-in-123 c p may =
    let is : get_or c.args.text.now c.args.at 32 ≡ 123 = grind arith in
    ap (punctuate p) (own.by-byte c.args.text.now c.args.at 123 is refl own.lex-open_brace)
    ∙ own.begins-object p _ may

pub returns-in-91 : goal.returns-in-91
returns-in-91 c p may =
    let is : get_or c.args.text.now c.args.at 32 ≡ 91 = grind arith in
    ap (punctuate p) (own.by-byte c.args.text.now c.args.at 91 is refl own.lex-open_bracket)
    ∙ own.begins-array p _ may

pub returns-in_ok-null_end-in-110 : goal.returns-in_ok-null_end-in-110
returns-in_ok-null_end-in-110 c p may =
    c.after.ensures p _
    (ap (punctuate p) c.in_ok-null_end-in-110.ensures ∙ own.begins-null p _ may)

pub returns-in_ok-found-in_default : goal.returns-in_ok-found-in_default
returns-in_ok-found-in_default c p may =
    c.after-in_default.ensures p _
    (ap (punctuate p) c.in_ok-found-in_default.ensures ∙ own.begins-number p _ _ may)
