use Rattle.std.proofs.Common.{◌≡◌, ◌-◌, [], ◌∷◌, ◌++◌, map, subst, refl, Some, None, string_bytes}
use Rattle.std.proofs.Common.{string_cmp, ap, ◌∙◌, arith, rules}
use Rattle.std.proofs.lemmas.List.{map-append}
use Rattle.std.specs.BTreeMap.{insert_entry}
use Rattle.json.specs.Json.{after_end_array, read_key}
use Rattle.serde_json.specs.Data.{null, number, string, put}
use Rattle.serde_json.specs.Find.{of_integer}
use Rattle.serde_json.specs.View.{view, number_view, members_view}
use Rattle.serde_json.specs.declared.value.Value.{String, Number, Null, the_lemmas}
use Rattle.serde_json.proofs.Views.{view-Array, view-Object, members_view-insert_entry}
use Rattle.col_json.specs.Begins.{Begins, BeginsItems}
use Rattle.col_json.specs.Cursor.{token_of}
use Rattle.col_json.proofs.BeginsLemmas.{items-none, items-more, items-all, front-all}
use Rattle.col_json.proofs.BeginsLemmas.{members-none, members-more, members-all}
use Rattle.col_json.proofs.BeginsLemmas.{begins-list, begins-object}
use Rattle.col_json.proofs.ValueLemmas.{null-begins, number-begins, text-begins}
use Rattle.col_json.proofs.values.+value.Goals as goal

pub read_items-items-init : goal.read_items-items-init
read_items-items-init t c =
    rw c.new-found.ensures.items (items-none c.args.levels c.args.cursor.now)

pub read_items-items-preserved : goal.read_items-items-preserved
read_items-items-preserved t c =
    let l = c.items in
    let v = c.in_ok-read_from.field-0 in
    let r = c.read_from.new.cursor in
    let first : l.cursor ≡ token_of c.in_ok-token.token ∷ c.next.new.self = grind arith in
    let begins : Begins c.args.levels l.cursor (view v) r = rw first c.in_ok-read_from.ensures in
    let pushed : c.push.new.self.items ≡ l.found.items ++ v ∷ [] = grind arith in
    let more : map view c.push.new.self.items ≡ map view l.found.items ++ view v ∷ [] =
    ap (map view) pushed ∙ map-append view l.found.items (v ∷ []) in
    rw more (items-more c.args.levels c.args.cursor.now l.cursor r _ (view v) l.invariant begins)

pub read_items-returns-in-EndArray : goal.read_items-returns-in-EndArray
read_items-returns-in-EndArray t c =
    let l = c.items in
    let r = c.next.new.self in
    let ended : after_end_array l.cursor ≡ Some r =
    ap after_end_array (c.in_ok-token.ensures ∙ ap (λ k. token_of k ∷ r) c.in-EndArray.is) in
    subst (λ ds. BeginsItems c.args.levels c.args.cursor.now ds r) (front-all l.found.items)
    (items-all c.args.levels c.args.cursor.now l.cursor r _ l.invariant ended)

pub read_members-members-init : goal.read_members-members-init
read_members-members-init t c =
    rw c.new-found.ensures.empty (members-none c.args.levels c.args.cursor.now)

pub read_members-members-preserved : goal.read_members-members-preserved
read_members-members-preserved t c =
    let l = c.members in
    let k = c.in-Some.name.now in
    let at = c.next_key.new.cursor in
    let v = c.in_ok-member.member in
    let r = c.read_from.new.cursor in
    let named : read_key l.cursor ≡ Some (Some k, at) = grind arith in
    let first : at ≡ token_of c.in_ok-token.token ∷ c.next.new.self = grind arith in
    let begins : Begins c.args.levels at (view v) r = rw first c.in_ok-member.ensures in
    let copied : string_bytes c.in_ok-key.key ≡ k = grind arith in
    let kept : c.insert.new.self.entries ≡ insert_entry string_cmp l.found.entries c.in_ok-key.key
    v =
    grind arith in
    let more : members_view c.insert.new.self.entries
    ≡ put k (view v) (members_view l.found.entries) =
    ap members_view kept ∙ members_view-insert_entry l.found.entries c.in_ok-key.key v
    ∙ ap (λ name. put name (view v) (members_view l.found.entries)) copied in
    rw more
    (members-more c.args.levels c.args.cursor.now l.cursor at r _ k (view v) l.invariant named
    begins)

pub read_members-returns : goal.read_members-returns
read_members-returns t c =
    let l = c.members in
    let r = c.next_key.new.cursor in
    let closed : read_key l.cursor ≡ Some (None, r) = grind arith in
    members-all c.args.levels c.args.cursor.now l.cursor r _ l.invariant closed

pub read_from-returns-in-Null : goal.read_from-returns-in-Null
read_from-returns-in-Null t c =
    let seen : view Null ≡ null = search (rules, the_lemmas) in
    rw (c.in-Null.is, seen) (null-begins c.args.levels c.args.cursor.now)

pub read_from-returns-in_ok-from_i128-in-Number : goal.read_from-returns-in_ok-from_i128-in-Number
read_from-returns-in_ok-from_i128-in-Number t c =
    let n = c.in_ok-read_digits-in-Number.field-0 in
    let x = c.in_ok-from_i128-in-Number.field-0 in
    let held : number_view x ≡ of_integer n = grind arith in
    let seen : view (Number x) ≡ number (number_view x) = search (rules, the_lemmas) in
    rw (c.in-Number.is, seen, held)
    (number-begins c.args.levels c.in-Number.text.now n c.args.cursor.now
    c.in_ok-read_digits-in-Number.ensures)

pub read_from-returns-in_ok-read_text-in-Text : goal.read_from-returns-in_ok-read_text-in-Text
read_from-returns-in_ok-read_text-in-Text t c =
    let x = c.in_ok-read_text-in-Text.field-0 in
    let seen : view (String x) ≡ string (string_bytes x) = search (rules, the_lemmas) in
    rw (c.in-Text.is, seen, c.in_ok-read_text-in-Text.ensures)
    (text-begins c.args.levels c.in-Text.text.now c.args.cursor.now)

pub read_from-returns-in_ok-read_items-in-BeginArray :
    goal.read_from-returns-in_ok-read_items-in-BeginArray
read_from-returns-in_ok-read_items-in-BeginArray t c =
    let found = c.in_ok-read_items-in-BeginArray in
    rw (c.in-BeginArray.is, view-Array found.field-0)
    (begins-list c.args.levels (c.args.levels - 1) _ c.args.cursor.now
    c.read_items.new.cursor _ (omega arith) refl found.ensures)

pub read_from-returns-in_ok-read_members-in-BeginObject :
    goal.read_from-returns-in_ok-read_members-in-BeginObject
read_from-returns-in_ok-read_members-in-BeginObject t c =
    let found = c.in_ok-read_members-in-BeginObject in
    rw (c.in-BeginObject.is, view-Object found.field-0)
    (begins-object c.args.levels (c.args.levels - 1) _ c.args.cursor.now
    c.read_members.new.cursor _ (omega arith) refl found.ensures)
