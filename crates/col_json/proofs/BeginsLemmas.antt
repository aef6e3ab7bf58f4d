-- The values that lists and objects begin with, by their parts.
use Rattle.std.proofs.Common.{◌≡◌, ℕ, suc, ◌-◌, ◌<◌, ◌≤◌, List, [], ◌∷◌, ◌++◌, length, Option, Some}
use Rattle.std.proofs.Common.{None}
use Rattle.std.proofs.Common.{map, option_and_then, refl, sym, ap, ◌∙◌, arith}
use Rattle.std.proofs.lemmas.Option.{none-some}
use Rattle.json.specs.Token as token
use Rattle.json.specs.Token.{Token, begin_array, begin_object}
use Rattle.json.specs.Lex.{tokens}
use Rattle.json.specs.Json as json
use Rattle.json.specs.Json.{after_end_array, items, members, value, parse_map, read_key}
use Rattle.json.proofs.Grammar.{value_is, value-begin_array, value-begin_object, read_key-shorter}
use Rattle.json.proofs.Grammar.{after_end_array-shorter}
use Rattle.serde_json.specs.Data.{Data, Items, no_items, item, Members, no_members, array, object}
use Rattle.serde_json.specs.Data.{put}
use Rattle.serde_json.specs.Read.{converted, of_json, of_items, of_members, max_depth, read}
use Rattle.serde_json.specs.View.{items_view, view}
use Rattle.serde_json.specs.declared.value.Value.{Value}
use Rattle.col_json.specs.Begins.{Begins, BeginsItems, BeginsMembers, Passes}
use Rattle.serde_json.specs.Find.{get_member}
use Rattle.serde_json.proofs.Views.{get_member-put, get_member-put_other}
use Rattle.col_json.proofs.GrammarLemmas.{seen, seen-array, seen-object, next_member, no_member}
use Rattle.col_json.proofs.GrammarLemmas.{next_item, no_item}

-- a list, by its items
pub begins-list : (outer levels : ℕ) (ts inner rest : List Token) (ds : Items)
    → outer ≡ suc levels → ts ≡ begin_array ∷ inner → BeginsItems levels inner ds rest
    → Begins outer ts (array ds) rest
begins-list outer levels ts inner rest ds one_more opened h =
    let some : 0 < outer = omega (arith, one_more) in
    let back : outer - 1 ≡ levels = omega (arith, one_more) in
    let inside : converted of_items (items (value (outer - 1)) (length inner) inner)
    ≡ Some (ds, rest) = rw back h.0 in
    let longer : length ts ≡ suc (length inner) = ap length opened in (
      ap (λ us. converted of_json (value outer us)) opened
          ∙ ap (converted of_json) (value-begin_array outer inner some)
          ∙ seen-array (items (value (outer - 1)) (length inner) inner)
          ∙ ap (parse_map array) inside,
      omega (arith, h.1, longer),
    )

-- an object, by its members
pub begins-object : (outer levels : ℕ) (ts inner rest : List Token) (ms : Members)
    → outer ≡ suc levels → ts ≡ begin_object ∷ inner → BeginsMembers levels inner ms rest
    → Begins outer ts (object ms) rest
begins-object outer levels ts inner rest ms one_more opened h =
    let some : 0 < outer = omega (arith, one_more) in
    let back : outer - 1 ≡ levels = omega (arith, one_more) in
    let inside : converted (λ found. of_members found no_members)
    (members (value (outer - 1)) (length inner) inner) ≡ Some (ms, rest) = rw back h.0 in
    let longer : length ts ≡ suc (length inner) = ap length opened in (
      ap (λ us. converted of_json (value outer us)) opened
          ∙ ap (converted of_json) (value-begin_object outer inner some)
          ∙ seen-object (members (value (outer - 1)) (length inner) inner)
          ∙ ap (parse_map object) inside,
      omega (arith, h.1, longer),
    )

-- ---- objects of which two members are wanted

-- no member is passed
pub passes-none : (levels : ℕ) (k l : List ℕ) (ts : List Token) → Passes levels k l ts ts
passes-none levels k l ts =
    (omega arith, λ before. (before, refl, refl, λ n enough. (n, enough, refl)))

-- the two names may change places
pub passes-both : (levels : ℕ) (k l : List ℕ) (ts at : List Token) → Passes levels k l ts at
    → Passes levels l k ts at
passes-both levels k l ts at h =
    (h.0, λ before. let p = h.1 before in (p.0, p.2, p.1, p.3))

-- one more member is passed
pub passes-more : (levels : ℕ) (k l q : List ℕ) (ts at from rest : List Token) (d : Data)
    → Passes levels k l ts at → read_key at ≡ Some (Some q, from) → (q ≡ k → ⊥) → (q ≡ l → ⊥)
    → Begins levels from d rest → Passes levels k l ts rest
passes-more levels k l q ts at from rest d h key no_k no_l begins =
    let less = read_key-shorter at (Some q) from key in (
      omega (arith, h.0, less, begins.1),
      λ before.
          let p = h.1 before in (
            put q d p.0,
            get_member-put_other k q d p.0 (λ e. no_k (sym e)) ∙ p.1,
            get_member-put_other l q d p.0 (λ e. no_l (sym e)) ∙ p.2,
            λ n enough.
                let more = p.3 n enough in (
                  more.0 - 1,
                  omega (arith, more.1, less, begins.1),
                  more.2
                      ∙ next_member (value levels) p.0 more.0 q at from rest d
                      (omega (arith, more.1, less)) key begins.0,
                ),
          ),
    )

-- an object of two members and others
pub begins-pair : (levels : ℕ) (inner at_k at_d past_d at_l at_e past_e at_end rest : List Token)
    (k l : List ℕ) (d e : Data) → (k ≡ l → ⊥)
    → Passes levels k l inner at_k → read_key at_k ≡ Some (Some k, at_d)
    → Begins levels at_d d past_d
    → Passes levels k l past_d at_l → read_key at_l ≡ Some (Some l, at_e)
    → Begins levels at_e e past_e
    → Passes levels k l past_e at_end → read_key at_end ≡ Some (None, rest)
    → (ms : Members) × (get_member k ms ≡ Some d) × (get_member l ms ≡ Some e)
    × BeginsMembers levels inner ms rest
begins-pair
    levels inner at_k at_d past_d at_l at_e past_e at_end rest k l d e other pass_k key_k h_d pass_l
    key_l h_e pass_end closed =
    let one = pass_k.1 no_members in
    let two = pass_l.1 (put k d one.0) in
    let three = pass_end.1 (put l e two.0) in
    let less_k = read_key-shorter at_k (Some k) at_d key_k in
    let less_l = read_key-shorter at_l (Some l) at_e key_l in
    let less_end = read_key-shorter at_end None rest closed in
    let n_k = one.3 (length inner) (omega arith) in
    let n_l = two.3 (n_k.0 - 1) (omega (arith, n_k.1, less_k, h_d.1)) in
    let n_end = three.3 (n_l.0 - 1) (omega (arith, n_l.1, less_l, h_e.1)) in (
      three.0,
      three.1 ∙ get_member-put_other k l e two.0 other ∙ two.1 ∙ get_member-put k d one.0,
      three.2 ∙ get_member-put l e two.0,
      (
        n_k.2
            ∙ next_member (value levels) one.0 n_k.0 k at_k at_d past_d d
            (omega (arith, n_k.1, less_k)) key_k h_d.0
            ∙ n_l.2
            ∙ next_member (value levels) two.0 n_l.0 l at_l at_e past_e e
            (omega (arith, n_l.1, less_l)) key_l h_e.0
            ∙ n_end.2
            ∙ no_member (value levels) three.0 n_end.0 at_end rest n_end.1 closed,
        omega (arith, pass_k.0, less_k, h_d.1, pass_l.0, less_l, h_e.1, pass_end.0, less_end),
      ),
    )

-- a text that is one value
pub begins-all : (text : List ℕ) (d : Data) → Begins max_depth (tokens text) d []
    → read text ≡ Some d
begins-all text d h =
    let found = seen of_json (value max_depth (tokens text)) d [] h.0 in
    ap (λ o. option_and_then of_json (option_and_then (λ p. json.if_last p.0 p.1) o)) found.1
    ∙ found.2

-- a list goes on where a value begins
pub goes-on : (levels : ℕ) (ts rest : List Token) (d : Data) → Begins levels ts d rest
    → after_end_array ts ≡ None
goes-on levels [] rest d h = refl
goes-on levels (token.begin_object ∷ ts) rest d h = refl
goes-on levels (token.end_object ∷ ts) rest d h = refl
goes-on levels (token.begin_array ∷ ts) rest d h = refl
goes-on levels (token.end_array ∷ ts) rest d h =
    absurd (none-some _ (sym (ap (converted of_json) (value_is levels (token.end_array ∷ ts)))
    ∙ h.0))
goes-on levels (token.key s ∷ ts) rest d h = refl
goes-on levels (token.string s ∷ ts) rest d h = refl
goes-on levels (token.number s ∷ ts) rest d h = refl
goes-on levels (token.boolean b ∷ ts) rest d h = refl
goes-on levels (token.null ∷ ts) rest d h = refl
goes-on levels (token.bad ∷ ts) rest d h = refl

-- ---- items that are done

-- the data that are done, in front of those that follow
abbrev pub in_front : List Data → Items → Items
in_front [] rest = rest
in_front (d ∷ ds) rest = item d (in_front ds rest)

in_front-more : (done : List Data) (d : Data) (rest : Items)
    → in_front done (item d rest) ≡ in_front (done ++ d ∷ []) rest
in_front-more [] d rest = refl
in_front-more (e ∷ done) d rest = ap (item e) (in_front-more done d rest)

-- nothing is done
front-none : (o : Option (Items × List Token)) → o ≡ parse_map (in_front []) o
front-none None = refl
front-none (Some p) = refl

-- one more is done
front-more : (done : List Data) (d : Data) (o : Option (Items × List Token))
    → parse_map (in_front done) (parse_map (item d) o) ≡ parse_map (in_front (done ++ d ∷ [])) o
front-more done d None = refl
front-more done d (Some p) = ap (λ ds. Some (ds, p.1)) (in_front-more done d p.0)

-- all are done
pub front-all : (vs : List Value) → in_front (map view vs) no_items ≡ items_view vs
front-all [] = refl
front-all (v ∷ vs) = ap (item (view v)) (front-all vs)

-- from the first token of a list's items up to another stand these
abbrev pub ItemsUpTo : ℕ → List Token → List Data → List Token → Type 0
ItemsUpTo levels all done ts =
    (length ts ≤ length all) × (n : ℕ) × (length ts ≤ n)
    × (converted of_items (items (value levels) (length all) all)
    ≡ parse_map (in_front done) (converted of_items (items (value levels) n ts)))

pub items-none : (levels : ℕ) (all : List Token) → ItemsUpTo levels all [] all
items-none levels all = (omega arith, length all, omega arith, front-none _)

pub items-more : (levels : ℕ) (all ts rest : List Token) (done : List Data) (d : Data)
    → ItemsUpTo levels all done ts → Begins levels ts d rest
    → ItemsUpTo levels all (done ++ d ∷ []) rest
items-more levels all ts rest done d (less, n, enough, e) next = (
  omega (arith, less, next.1),
  n - 1,
  omega (arith, enough, next.1),
  e ∙ ap (parse_map (in_front done)) (next_item (value levels) n ts rest d
      (omega (arith, enough, next.1)) (goes-on levels ts rest d next) next.0)
      ∙ front-more done d _,
)

pub items-all : (levels : ℕ) (all ts rest : List Token) (done : List Data)
    → ItemsUpTo levels all done ts → after_end_array ts ≡ Some rest
    → BeginsItems levels all (in_front done no_items) rest
items-all levels all ts rest done (less, n, enough, e) ended = (
  e ∙ ap (parse_map (in_front done)) (no_item (value levels) n ts rest enough ended),
  omega (arith, less, after_end_array-shorter ts rest ended),
)

-- ---- members that are done

-- from the first token of an object's members up to another stand these
abbrev pub MembersUpTo : ℕ → List Token → Members → List Token → Type 0
MembersUpTo levels all done ts =
    (length ts ≤ length all) × (n : ℕ) × (length ts ≤ n)
    × (converted (λ ms. of_members ms no_members) (members (value levels) (length all) all)
    ≡ converted (λ ms. of_members ms done) (members (value levels) n ts))

pub members-none : (levels : ℕ) (all : List Token) → MembersUpTo levels all no_members all
members-none levels all = (omega arith, length all, omega arith, refl)

pub members-more : (levels : ℕ) (all ts at rest : List Token) (done : Members) (k : List ℕ)
    (d : Data) → MembersUpTo levels all done ts → read_key ts ≡ Some (Some k, at)
    → Begins levels at d rest → MembersUpTo levels all (put k d done) rest
members-more levels all ts at rest done k d (less, n, enough, e) key next =
    let shorter = read_key-shorter ts (Some k) at key in (
      omega (arith, less, shorter, next.1),
      n - 1,
      omega (arith, enough, shorter, next.1),
      e ∙ next_member (value levels) done n k ts at rest d (omega (arith, enough, shorter)) key
          next.0,
    )

pub members-all : (levels : ℕ) (all ts rest : List Token) (done : Members)
    → MembersUpTo levels all done ts → read_key ts ≡ Some (None, rest)
    → BeginsMembers levels all done rest
members-all levels all ts rest done (less, n, enough, e) closed = (
  e ∙ no_member (value levels) done n ts rest enough closed,
  omega (arith, less, read_key-shorter ts None rest closed),
)
