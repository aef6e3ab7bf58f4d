-- Values that are one token.
use Rattle.std.proofs.Common.{◌≡◌, ℕ, ℤ, List, ◌∷◌, Some, option_map, refl, ap, ◌∙◌, arith}
use Rattle.json.specs.Token as token
use Rattle.json.specs.Token.{Token}
use Rattle.json.specs.Json as json
use Rattle.json.specs.Json.{value}
use Rattle.json.proofs.Grammar.{value_is}
use Rattle.serde_json.specs.Data.{Data, null, number, string}
use Rattle.serde_json.specs.Find.{of_integer}
use Rattle.serde_json.specs.Read.{of_json, converted}
use Rattle.col_json.specs.Begins.{Begins}
use Rattle.col_json.specs.Digits.{Spells}
use Rattle.col_json.proofs.DigitLemmas.{spelled-number}

leaf-begins : (levels : ℕ) (t : Token) (rest : List Token) (j : json.Json) (d : Data)
    → value levels (t ∷ rest) ≡ Some (j, rest) → of_json j ≡ Some d
    → Begins levels (t ∷ rest) d rest
leaf-begins levels t rest j d is e =
    (ap (converted of_json) is ∙ ap (option_map (λ x. (x, rest))) e, omega arith)

pub null-begins : (levels : ℕ) (rest : List Token) → Begins levels (token.null ∷ rest) null rest
null-begins levels rest = leaf-begins levels token.null rest json.null null (value_is levels _) refl

pub text-begins : (levels : ℕ) (text : List ℕ) (rest : List Token)
    → Begins levels (token.string text ∷ rest) (string text) rest
text-begins levels text rest =
    leaf-begins levels (token.string text) rest (json.string text) (string text)
    (value_is levels _) refl

pub number-begins : (levels : ℕ) (text : List ℕ) (n : ℤ) (rest : List Token) → Spells text n
    → Begins levels (token.number text ∷ rest) (number (of_integer n)) rest
number-begins levels text n rest h =
    leaf-begins levels (token.number text) rest (json.number text) (number (of_integer n))
    (value_is levels _) (ap (option_map number) (spelled-number text n h))
