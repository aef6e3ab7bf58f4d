use Rattle.std.proofs.Common.{◌≡◌, ◌+◌, drop, get_or, true, ap, ◌∙◌, arith}
use Rattle.std.proofs.lemmas.List.{drop_more}
use Rattle.json.specs.Lex.{between, lex}
use Rattle.json.specs.Word.{is_space}
use Rattle.col_json.proofs.CursorLemmas.{lex-space}
use Rattle.col_json.proofs.lexemes.skip_spaces.Goals as goal

pub spaces-preserved : goal.spaces-preserved
spaces-preserved c =
    let t = c.args.text.now in
    let i = c.spaces.i in
    let blank : is_space (get_or t i 0) ≡ true = grind arith in
    c.spaces.invariant ∙ ap (lex between) (drop_more t i 0 (omega arith))
    ∙ lex-space (get_or t i 0) (drop (i + 1) t) blank
