-- The grammar's lists and objects, one item or member at a time, seen as data.
use Rattle.std.proofs.Common.{◌≡◌, ℕ, ◌-◌, ◌<◌, ◌≤◌, List, length, Option, Some, None}
use Rattle.std.proofs.Common.{option_map, refl, ap, ◌∙◌}
use Rattle.std.proofs.lemmas.Option.{none-some, same_Some}
use Rattle.json.specs.Token.{Token}
use Rattle.json.specs.Json as json
use Rattle.json.specs.Json.{Parse, parse_map, after_end_array, read_key, items, members}
use Rattle.json.proofs.Grammar.{items_end, items_more, members_end, members_more}
use Rattle.serde_json.specs.Data.{Data, array, object, no_items, item, Members, no_members, put}
use Rattle.serde_json.specs.Read.{of_json, of_items, of_members, converted}

-- what is read is there before it is seen as data
with_rest : {B : Type 0} (r rest : List Token) (o : Option B) (b : B)
    → option_map {U = B × List Token} (λ x. (x, r)) o ≡ Some (b, rest)
    → (o ≡ Some b) × (r ≡ rest)
with_rest r rest None b e = absurd (none-some _ e)
with_rest r rest (Some x) b e =
    let same = same_Some _ _ e in (ap (λ p. Some p.0) same, ap (λ p. p.1) same)

pub seen : {A B : Type 0} (f : A → Option B) (o : Option (A × List Token)) (b : B)
    (rest : List Token) → converted f o ≡ Some (b, rest)
    → (a : A) × (o ≡ Some (a, rest)) × (f a ≡ Some b)
seen f None b rest e = absurd (none-some _ e)
seen f (Some p) b rest e =
    let both = with_rest p.1 rest (f p.0) b e in
    (p.0, ap (λ r. Some (p.0, r)) both.1, both.0)

-- a function of the data goes past what is left
past_rest : {A B : Type 0} (f : A → B) (r : List Token) (o : Option A)
    → option_map {U = B × List Token} (λ b. (b, r)) (option_map f o)
    ≡ parse_map f (option_map (λ a. (a, r)) o)
past_rest f r None = refl
past_rest f r (Some a) = refl

pub seen-array : (o : Option (json.Items × List Token))
    → converted of_json (parse_map json.array o) ≡ parse_map array (converted of_items o)
seen-array None = refl
seen-array (Some p) = past_rest array p.1 (of_items p.0)

pub seen-object : (o : Option (json.Members × List Token))
    → converted of_json (parse_map json.object o)
    ≡ parse_map object (converted (λ ms. of_members ms no_members) o)
seen-object None = refl
seen-object (Some p) = past_rest object p.1 (of_members p.0 no_members)

seen-item : (j : json.Json) (d : Data) → of_json j ≡ Some d
    → (o : Option (json.Items × List Token))
    → converted of_items (parse_map (json.item j) o) ≡ parse_map (item d) (converted of_items o)
seen-item j d e None = refl
seen-item j d e (Some p) = rw e (past_rest (item d) p.1 (of_items p.0))

seen-member : (k : List ℕ) (j : json.Json) (d : Data) (before : Members) → of_json j ≡ Some d
    → (o : Option (json.Members × List Token))
    → converted (λ ms. of_members ms before) (parse_map (json.member k j) o)
    ≡ converted (λ ms. of_members ms (put k d before)) o
seen-member k j d before e None = refl
seen-member k j d before e (Some p) = rw e refl

module _ (p : Parse json.Json) where
  -- a list that has an item first
  pub next_item : (n : ℕ) (ts rest : List Token) (d : Data) → 0 < n → after_end_array ts ≡ None
      → converted of_json (p ts) ≡ Some (d, rest)
      → converted of_items (items p n ts)
      ≡ parse_map (item d) (converted of_items (items p (n - 1) rest))
  next_item n ts rest d some going e =
      let found = seen of_json (p ts) d rest e in
      ap (converted of_items) (items_more p n ts rest found.0 some going found.1)
      ∙ seen-item found.0 d found.2 (items p (n - 1) rest)

  -- a list that ends
  pub no_item : (n : ℕ) (ts rest : List Token) → length ts ≤ n → after_end_array ts ≡ Some rest
      → converted of_items (items p n ts) ≡ Some (no_items, rest)
  no_item n ts rest enough e = ap (converted of_items) (items_end p n ts rest enough e)

  -- an object that has a member first
  pub next_member : (before : Members) (n : ℕ) (k : List ℕ) (ts at rest : List Token) (d : Data)
      → 0 < n → read_key ts ≡ Some (Some k, at) → converted of_json (p at) ≡ Some (d, rest)
      → converted (λ ms. of_members ms before) (members p n ts)
      ≡ converted (λ ms. of_members ms (put k d before)) (members p (n - 1) rest)
  next_member before n k ts at rest d some key e =
      let found = seen of_json (p at) d rest e in
      ap (converted (λ ms. of_members ms before))
      (members_more p n k ts at rest found.0 some key found.1)
      ∙ seen-member k found.0 d before found.2 (members p (n - 1) rest)

  -- an object that ends
  pub no_member : (before : Members) (n : ℕ) (ts rest : List Token) → length ts ≤ n
      → read_key ts ≡ Some (None, rest)
      → converted (λ ms. of_members ms before) (members p n ts) ≡ Some (before, rest)
  no_member before n ts rest enough e =
      ap (converted (λ ms. of_members ms before)) (members_end p n ts rest enough e)
