use Rattle.std.proofs.Common.{◌≡◌, ◌-◌, drop, length}
use Rattle.json.specs.Lex.{between, lex}
use Rattle.col_json.proofs.lexemes.skip_spaces.Given as goal

abbrev pub invariant-spaces : goal.invariant-spaces
invariant-spaces l = lex between (drop l.at l.text) ≡ lex between (drop l.i l.text)

abbrev pub decreases-spaces : goal.decreases-spaces
decreases-spaces l = length l.text - l.i
