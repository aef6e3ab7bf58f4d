use Rattle.std.proofs.Common.{◌≡◌, ◌+◌, ◌-◌, ◌==◌, ◌∷◌, drop, take, get_or, nat_lt, false, Some}
use Rattle.std.proofs.Common.{refl, ap, ◌∙◌, arith}
use Rattle.std.proofs.lemmas.List.{append-nil, drop_more}
use Rattle.json.specs.Lex.{between, in_string, lex}
use Rattle.json.specs.Text.{content, plain, prepend}
use Rattle.col_json.proofs.CursorLemmas.{from-byte, in_string-byte, lex-string, string-byte}
use Rattle.col_json.proofs.CursorLemmas.{string-over, take-more}
use Rattle.col_json.proofs.lexemes.string.Goals as goal

pub returns-then-byte_at-eq34 : goal.returns-then-byte_at-eq34
returns-then-byte_at-eq34 c =
    let t = c.args.text.now in
    let at = c.args.at in
    let i = c.bytes.i in
    let found = take (i - (at + 1)) (drop (at + 1) t) in
    let quote : get_or t i 32 ≡ 34 = grind arith in
    let here : drop i t ≡ 34 ∷ drop (i + 1) t = from-byte t i 34 quote refl in
    let over = string-over (drop (i + 1) t) in
    let whole : content plain (drop (at + 1) t) ≡ Some found =
    c.bytes.invariant.1 ∙ ap (λ xs. prepend found (content plain xs)) here
    ∙ ap (prepend found) over.0 ∙ ap Some (append-nil found) in
    let passed : lex in_string (drop (at + 1) t) ≡ lex between (drop (i + 1) t) =
    c.bytes.invariant.2 ∙ ap (lex in_string) here ∙ over.1 in
    ap (lex between) (from-byte t at 34 c.requires refl)
    ∙ lex-string (drop (at + 1) t) found (drop (i + 1) t) whole passed

pub bytes-preserved : goal.bytes-preserved
bytes-preserved c =
    let t = c.args.text.now in
    let at = c.args.at in
    let i = c.bytes.i in
    let x = get_or t i 0 in
    let before = take (i - (at + 1)) (drop (at + 1) t) in
    let a : (x == 34) ≡ false = grind arith in
    let b : (x == 92) ≡ false = grind arith in
    let d : nat_lt x 32 ≡ false = grind arith in
    let here = drop_more t i 0 (omega arith) in (
      omega (arith, c.bytes.invariant.0),
      c.bytes.invariant.1 ∙ ap (λ xs. prepend before (content plain xs)) here
          ∙ string-byte x (drop (i + 1) t) before a b d
          ∙ ap (λ s. prepend s (content plain (drop (i + 1) t)))
          (take-more t (at + 1) i 0 c.bytes.invariant.0 (omega arith)),
      c.bytes.invariant.2 ∙ ap (lex in_string) here ∙ in_string-byte x (drop (i + 1) t) a b,
    )
