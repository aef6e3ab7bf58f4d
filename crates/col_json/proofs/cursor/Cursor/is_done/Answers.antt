use Rattle.std.proofs.Common.{◌≡◌, ◌≤◌, [], drop, length-drop, length, sym, ap, ◌∙◌, arith}
use Rattle.std.proofs.lemmas.List.{nil_from_length}
use Rattle.json.specs.Lex.{between, lex, punctuate}
use Rattle.col_json.specs.Cursor.{place_of}
use Rattle.col_json.proofs.CursorLemmas.{over, lex-nothing}
use Rattle.col_json.proofs.cursor.Cursor.is_done.Goals as goal

pub returns-in_default : goal.returns-in_default
returns-in_default c done =
    let t = c.self.inside.text.now in
    let p = place_of c.self.inside.place in
    let ended : drop c.skip_spaces.result t ≡ [] =
    let past : length t ≤ c.skip_spaces.result = grind (arith, done) in
    nil_from_length (drop c.skip_spaces.result t)
    (omega (arith, length-drop c.skip_spaces.result t, past)) in
    sym c.self.view_is ∙ ap (punctuate p) (c.skip_spaces.ensures ∙ ap (lex between) ended
    ∙ lex-nothing)
    ∙ over c.self.inside.place c.in_default.not-AfterComma
