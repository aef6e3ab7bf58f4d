-- The items of a document: their leaves have one level.
use Rattle.std.proofs.Common.{◌≡◌, ℕ, ◌≤◌, Bool, true, false, cond, List, [], ◌∷◌, Option, Some}
use Rattle.std.proofs.Common.{None, refl, ap, ◌∙◌, subst, inl, inr, ◌⊎◌}
use Rattle.std.specs.Prelude.{codes, is_some}
use Rattle.std.proofs.lemmas.Option.{none-some, same_Some}
use Rattle.serde_json.specs.Data.{Data, Items, no_items, item}
use Rattle.serde_json.specs.Data as json
use Rattle.serde_json.specs.Find.{get}
use Rattle.col_eval.specs.Tree.{Tree, column, literal, level_count}
use Rattle.col_eval.specs.Typing.{max_levels}
use Rattle.col_document.specs.Document.{Piece, leaf, named, only_tree, with_pieces, tree_read}
use Rattle.col_document.specs.Document.{cell_read, literal_read, piece_read, position_named}
use Rattle.col_document.specs.Document.{step_named, type_read, typed_leaf, word_read}
use Rattle.col_document.specs.Json.{◌>>=◌, each}
use Rattle.col_document.specs.Laws.{HaveLeaves, spelling}
use Rattle.col_document.proofs.ListLemmas.{bind_some, option_cons-some}
use Rattle.col_document.proofs.SpellingLemmas.{spelling-of_tree, tree-of_spelling}

-- an item that is a leaf has one level
abbrev IsPlain : Piece → Type 0
IsPlain p = HaveLeaves (p ∷ [])

-- an option has no value or one
option_cases : {X : Type 0} (o : Option X) → (o ≡ None) ⊎ ((x : X) × (o ≡ Some x))
option_cases None = inl refl
option_cases (Some x) = inr (x, refl)

-- a word is a plain item
word-plain : (text : List ℕ) (p : Piece) → word_read text ≡ Some p → IsPlain p
word-plain text p e =
    elim (option_cases (step_named text)) [
      | inr s ↦ subst IsPlain (same_Some (named s.0) p (rw s.1 at e)) tt
      | inl n ↦ elim (option_cases (position_named text)) [
        | inr i ↦ subst IsPlain (same_Some (leaf (column i.0)) p (rw (n, i.1) at e)) (refl, tt)
        | inl m ↦ absurd (none-some p (rw (n, m) at e))
      ]
    ]

-- what is there where a test fails
unless_some : {X : Type 0} (b : Bool) (o : Option X) (x : X) → cond b None o ≡ Some x → o ≡ Some x
unless_some true o x e = absurd (none-some x e)
unless_some false o x e = e

-- a literal is a plain item
literal-plain : (d : Data) (p : Piece) → literal_read d ≡ Some p → IsPlain p
literal-plain d p e =
    let own = unless_some (is_some (get (codes "cast") d)) (typed_leaf d) p e in
    let t = bind_some _ (type_read d) p own in
    let value = bind_some _ (get (codes "value") d) p t.2 in
    let c = bind_some _ (cell_read t.0 value.0) p value.2 in
    subst IsPlain (same_Some (leaf (literal t.0 c.0)) p c.2) (refl, tt)

-- an item is plain
piece-plain : (d : Data) (p : Piece) → piece_read d ≡ Some p → IsPlain p
piece-plain json.null p e = absurd (none-some p e)
piece-plain (json.boolean b) p e = absurd (none-some p e)
piece-plain (json.number n) p e = absurd (none-some p e)
piece-plain (json.string text) p e = word-plain text p e
piece-plain (json.array items) p e = absurd (none-some p e)
piece-plain (json.object ms) p e = literal-plain (json.object ms) p e

-- one plain item more
leaves-more : (p : Piece) (pieces : List Piece) → IsPlain p → HaveLeaves pieces
    → HaveLeaves (p ∷ pieces)
leaves-more (leaf t) pieces h k = (h.0, k)
leaves-more (named op) pieces h k = k

-- all items that are read are plain
pub leaves-read : (items : Items) (pieces : List Piece) → each piece_read items ≡ Some pieces
    → HaveLeaves pieces
leaves-read no_items pieces e = subst HaveLeaves (same_Some [] pieces e) tt
leaves-read (item d ds) pieces e =
    let p = option_cons-some (piece_read d) (each piece_read ds) pieces e in
    subst HaveLeaves p.4 (leaves-more p.0 p.1 (piece-plain d p.0 p.2) (leaves-read ds p.1 p.3))

-- a list of items is read as a tree exactly where they are its spelling
pub tree-read_from_spelling : (items : Items) (t : Tree) → tree_read (json.array items) ≡ Some t
    → (each piece_read items ≡ Some (spelling t)) × (level_count t ≤ max_levels)
tree-read_from_spelling items t e =
    let pieces = bind_some (λ (ps : List Piece). with_pieces ps [] >>= only_tree)
    (each piece_read items) t e in
    let h = spelling-of_tree pieces.0 t (leaves-read items pieces.0 pieces.1) pieces.2 in
    (pieces.1 ∙ ap Some h.0, h.1)

-- the items of a tree are read as it
pub spelling-read : (items : Items) (t : Tree) → each piece_read items ≡ Some (spelling t)
    → level_count t ≤ max_levels → tree_read (json.array items) ≡ Some t
spelling-read items t e h = rw e (tree-of_spelling t h)
