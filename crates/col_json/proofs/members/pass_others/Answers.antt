use Rattle.std.proofs.Common.{◌≡◌, Option, Some, None, option_map, refl, ap, ◌∙◌, arith}
use Rattle.std.specs.Prelude.{IsSomeAnd}
use Rattle.json.specs.Json.{read_key}
use Rattle.col_json.proofs.BeginsLemmas.{passes-none, passes-more}
use Rattle.col_json.proofs.members.pass_others.Goals as goal

-- what holds of a value that is there
there : {A : Type 0} (P : A → Type 0) (o : Option A) → IsSomeAnd o P → (a : A) × (o ≡ Some a) × P a
there P None h = absurd h
there P (Some a) h = (a, refl, h)

pub members-init : goal.members-init
members-init c = passes-none c.args.levels c.args.name.now c.args.other.now c.args.cursor.now

pub members-preserved : goal.members-preserved
members-preserved c =
    let l = c.members in
    let known = there _ (option_map (λ k. k.now) c.in_ok-key.key) (c.is_passed.ensures
    (grind (arith, c.if-not-is_passed.false))) in
    let found : read_key l.cursor
    ≡ Some (option_map (λ k. k.now) c.in_ok-key.key, c.next_key.new.cursor) = grind arith in
    let key : read_key l.cursor ≡ Some (Some known.0, c.next_key.new.cursor) =
    found ∙ ap (λ k. Some (k, c.next_key.new.cursor)) known.1 in
    passes-more c.args.levels c.args.name.now c.args.other.now known.0 c.args.cursor.now l.cursor
    c.next_key.new.cursor c.read_value.new.cursor _ l.invariant key known.2.0 known.2.1
    c.in_ok-read_value.ensures
