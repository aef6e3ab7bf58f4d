use Rattle.std.proofs.Common.{◌≡◌, ◌+◌, ◌-◌, ◌<◌, ◌≤◌, drop, length}
use Rattle.std.specs.Char.{is_ascii_digit}
use Rattle.std.specs.List.{prefix_len}
use Rattle.col_json.proofs.lexemes.digits_end.Given as goal

abbrev pub invariant-digits : goal.invariant-digits
invariant-digits l =
    (l.at + prefix_len is_ascii_digit (drop l.at l.text)
    ≡ l.i + prefix_len is_ascii_digit (drop l.i l.text))
    × (l.at ≤ l.i) × (l.at < l.i → l.i ≤ length l.text)

abbrev pub decreases-digits : goal.decreases-digits
decreases-digits l = length l.text - l.i
