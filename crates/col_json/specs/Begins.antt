-- The value that tokens begin with, as `serde_json` reads it.
use Rattle.std.specs.Prelude.{◌≡◌, ℕ, ◌<◌, ◌≤◌, List, length, Some}
use Rattle.json.specs.Token.{Token}
use Rattle.json.specs.Json.{value, items, members}
use Rattle.serde_json.specs.Data.{Data, Items, Members, no_members}
use Rattle.serde_json.specs.Find.{get_member}
use Rattle.serde_json.specs.Read.{converted, of_json, of_items, of_members}

-- the tokens begin with a value that nests no deeper than the number, and the rest follows
abbrev pub Begins : ℕ → List Token → Data → List Token → Type 0
Begins levels ts d rest =
    (converted of_json (value levels ts) ≡ Some (d, rest)) × (length rest < length ts)

-- behind the bracket that opens a list, they begin with its items and the bracket that closes it
abbrev pub BeginsItems : ℕ → List Token → Items → List Token → Type 0
BeginsItems levels ts ds rest =
    (converted of_items (items (value levels) (length ts) ts) ≡ Some (ds, rest))
    × (length rest < length ts)

-- behind the brace that opens an object, they begin with its members and the brace that closes it
abbrev pub BeginsMembers : ℕ → List Token → Members → List Token → Type 0
BeginsMembers levels ts ms rest =
    (converted (λ found. of_members found no_members) (members (value levels) (length ts) ts)
    ≡ Some (ms, rest))
    × (length rest < length ts)

-- from one place of an object to another, members are passed that change nothing at two names in
-- the object that is read: to read on from the first, with the members before it, is to read on from
-- the second, with others that have the same at both names; a member that a later one of its name
-- takes the place of changes nothing, and where no members can be read from either, it holds too
abbrev pub Passes : ℕ → List ℕ → List ℕ → List Token → List Token → Type 0
Passes levels k l ts at =
    (length at ≤ length ts)
    × ((before : Members) → (after : Members)
    × (get_member k after ≡ get_member k before) × (get_member l after ≡ get_member l before)
    × ((n : ℕ) → length ts ≤ n → (m : ℕ) × (length at ≤ m)
    × (converted (λ ms. of_members ms before) (members (value levels) n ts)
    ≡ converted (λ ms. of_members ms after) (members (value levels) m at))))
