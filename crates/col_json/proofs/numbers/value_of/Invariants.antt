use Rattle.std.proofs.Common.{◌≡◌, drop}
use Rattle.std.specs.Str.Parse.{AllDigits, digits_value, digits_value_after}
use Rattle.col_json.proofs.numbers.value_of.Given as goal

abbrev pub invariant-loop-digit : goal.invariant-loop-digit
invariant-loop-digit l =
    (AllDigits 10 (drop l.digit-index l.digits) → AllDigits 10 l.digits)
    × (digits_value_after 10 l.n (drop l.digit-index l.digits) ≡ digits_value 10 l.digits)
