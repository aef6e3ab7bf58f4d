use Rattle.std.proofs.Common.{◌≡◌, ◌+◌, ◌-◌, ◌≤◌, drop, length, take}
use Rattle.json.specs.Lex.{in_string, lex}
use Rattle.json.specs.Text.{content, plain, prepend}
use Rattle.col_json.proofs.lexemes.string.Given as goal

abbrev pub invariant-bytes : goal.invariant-bytes
invariant-bytes l =
    (l.at + 1 ≤ l.i)
    × (content plain (drop (l.at + 1) l.text)
    ≡ prepend (take (l.i - (l.at + 1)) (drop (l.at + 1) l.text))
    (content plain (drop l.i l.text)))
    × (lex in_string (drop (l.at + 1) l.text) ≡ lex in_string (drop l.i l.text))

abbrev pub decreases-bytes : goal.decreases-bytes
decreases-bytes l = length l.text - l.i
