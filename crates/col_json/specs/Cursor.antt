-- What the places and tokens of a cursor stand for.
use Rattle.std.specs.Prelude.{◌≡◌, ℕ, List, ◌∷◌, drop}
use Rattle.json.specs.Lex as lexing
use Rattle.json.specs.Lex.{Lexeme, between, lex, punctuate}
use Rattle.json.specs.Token as spec
use Rattle.col_json.specs.declared.cursor.Place.{Place}
use Rattle.col_json.specs.declared.cursor.Step.{Step}
use Rattle.col_json.specs.declared.cursor.Place.TheVariants.{Fresh, AfterValue, AfterComma}
use Rattle.col_json.specs.declared.cursor.Token.{Token}
use Rattle.col_json.specs.declared.cursor.Token.TheVariants.{BeginObject, EndObject, BeginArray}
use Rattle.col_json.specs.declared.cursor.Token.TheVariants.{EndArray, Key, Text, Number, Null}

-- where commas and colons stand as they are to
abbrev pub place_of : Place → lexing.Place
place_of Fresh = lexing.fresh
place_of AfterValue = lexing.after_value
place_of AfterComma = lexing.after_comma

-- the token of JSON's grammar
abbrev pub token_of : Token → spec.Token
token_of BeginObject = spec.begin_object
token_of EndObject = spec.end_object
token_of BeginArray = spec.begin_array
token_of EndArray = spec.end_array
token_of (Key name) = spec.key name.now
token_of (Text text) = spec.string text.now
token_of (Number text) = spec.number text.now
token_of Null = spec.null

-- at a place, the tokens of lexemes begin with that of a step, and behind it are those of the rest
-- of the text
abbrev pub Gives : lexing.Place → List Lexeme → List ℕ → Step → Type 0
Gives p lexemes text step =
    punctuate p lexemes
    ≡ token_of step.token ∷ punctuate (place_of step.place) (lex between (drop step.at text))
