use Rattle.std.proofs.Common.{◌≡◌, ◌+◌, ◌||◌, drop, get_or, true, sym, ap, ◌∙◌, arith}
use Rattle.json.specs.Lex.{between, lex}
use Rattle.json.specs.Word.{ends_word, is_operator, is_space}
use Rattle.col_json.proofs.CursorLemmas.{from-null, head-at, lex-null}
use Rattle.col_json.proofs.lexemes.null_end.Goals as goal

pub returns-then-ends_word : goal.returns-then-ends_word
returns-then-ends_word c =
    let t = c.args.text.now in
    let at = c.args.at in
    let u : get_or t (at + 1) 32 ≡ 117 = grind arith in
    let l : get_or t (at + 2) 32 ≡ 108 = grind arith in
    let m : get_or t (at + 3) 32 ≡ 108 = grind arith in
    let ended : ends_word (drop (at + 4) t) ≡ true =
    ap (λ x. is_operator x || is_space x)
    (head-at t (at + 4) ∙ sym c.byte_at-then-byte_at-eq108-2.ensures)
    ∙ sym c.if-ends_word.ensures in
    ap (lex between) (from-null t at c.requires u l m) ∙ lex-null (drop (at + 4) t) ended
