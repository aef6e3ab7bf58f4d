-- Trees and the items that they are written as.
use Rattle.std.proofs.Common.{◌≡◌, ◌≤◌, Bool, true, false, cond, List, [], ◌∷◌, ◌++◌, refl}
use Rattle.std.proofs.Common.{Some, None, option_map}
use Rattle.std.proofs.Common.{sym, ap, ◌∙◌, subst, arith, append_assoc, append-nil}
use Rattle.std.specs.Prelude.{nat_le, ⊤}
use Rattle.std.proofs.lemmas.Option.{none-some, same_Some}
use Rattle.std.proofs.lemmas.Bool.Decides.{nat_tests}
use Rattle.col_eval.specs.Tree.{Tree, column, literal, step, level_count}
use Rattle.col_eval.specs.Typing.{max_levels}
use Rattle.col_eval.specs.declared.expr.Op.{Op}
use Rattle.col_document.specs.Document.{Piece, leaf, named, only_tree, with_piece, with_pieces}
use Rattle.col_document.specs.Document.{with_step}
use Rattle.col_eval.proofs.TreeLemmas.{level_count-positive}
use Rattle.col_document.specs.Json.{◌>>=◌}
use Rattle.col_document.proofs.ListLemmas.{bind_some}
use Rattle.col_document.specs.Laws.{HaveLeaves, spelling}

-- a tree of one level is its own spelling
spelling-leaf : (t : Tree) → level_count t ≡ 1 → spelling t ≡ leaf t ∷ []
spelling-leaf (column position) e = refl
spelling-leaf (literal t c) e = refl
spelling-leaf (step op left right) e = absurd (omega (arith, level_count-positive left))

-- ---- from a spelling to its tree

-- the items of a tree leave it in front of the trees before
with_pieces-spelling : (t : Tree) (rest : List Piece) (trees : List Tree)
    → level_count t ≤ max_levels
    → with_pieces (spelling t ++ rest) trees ≡ with_pieces rest (t ∷ trees)
with_pieces-spelling (column position) rest trees h = refl
with_pieces-spelling (literal t c) rest trees h = refl
with_pieces-spelling (step op left right) rest trees h =
    let within : nat_le (level_count (step op left right)) max_levels ≡ true =
    grind (arith, nat_tests) in
    rw (
      append_assoc (spelling left) (spelling right ++ named op ∷ []) rest,
      append_assoc (spelling right) (named op ∷ []) rest,
    )
    (with_pieces-spelling left _ trees (omega arith)
    ∙ with_pieces-spelling right _ (left ∷ trees) (omega arith)
    ∙ ap (λ b. option_map (λ t. t ∷ trees) (cond b (Some (step op left right)) None)
    >>= with_pieces rest) within)

-- the spelling of a tree leaves it alone
pub tree-of_spelling : (t : Tree) → level_count t ≤ max_levels
    → (with_pieces (spelling t) [] >>= only_tree) ≡ Some t
tree-of_spelling t h =
    ap (λ o. o >>= only_tree)
    (ap (λ pieces. with_pieces pieces []) (sym (append-nil (spelling t)))
    ∙ with_pieces-spelling t [] [] h)

-- ---- from items to a spelling

-- the items of some trees, the last tree first
abbrev spelled : List Tree → List Piece
spelled [] = []
spelled (t ∷ below) = spelled below ++ spelling t

-- each tree has at most 256 levels
abbrev AreBounded : List Tree → Type 0
AreBounded [] = ⊤
AreBounded (t ∷ trees) = (level_count t ≤ max_levels) × AreBounded trees

-- what the trees after some items tell of those before
record IsNext (pieces : List Piece) (trees after : List Tree) : Type 0 where
  spelled_on : spelled trees ++ pieces ≡ spelled after
  bounded_on : AreBounded trees → AreBounded after

-- a tree in front of others, where a test holds
bounded-some : (test : Bool) (t : Tree) (below after : List Tree)
    → option_map (λ u. u ∷ below) (cond test (Some t) None) ≡ Some after
    → (test ≡ true) × (t ∷ below ≡ after)
bounded-some true t below after e = (refl, cc)
bounded-some false t below after e = absurd (none-some after e)

-- after a step
next-step : (op : Op) (trees after : List Tree) → with_step op trees ≡ Some after
    → IsNext (named op ∷ []) trees after
next-step op [] after e = absurd (none-some after e)
next-step op (right ∷ []) after e = absurd (none-some after e)
next-step op (right ∷ left ∷ below) after e =
    let p = bounded-some (nat_le (level_count (step op left right)) max_levels)
    (step op left right) below after e in
    subst (λ a. IsNext (named op ∷ []) (right ∷ left ∷ below) a) p.1 (record {
      spelled_on = simp append_assoc;
      bounded_on = λ b. (grind (arith, nat_tests), b.1.1);
    })

-- after an item
next-piece : (p : Piece) (pieces : List Piece) (trees after : List Tree) → HaveLeaves (p ∷ pieces)
    → with_piece p trees ≡ Some after → IsNext (p ∷ []) trees after × HaveLeaves pieces
next-piece (leaf t) pieces trees after h e = (
  subst (λ a. IsNext (leaf t ∷ []) trees a) (same_Some (t ∷ trees) after e) (record {
    spelled_on = ap (λ ps. spelled trees ++ ps) (sym (spelling-leaf t h.0));
    bounded_on = λ b. (omega (arith, h.0), b);
  }),
  h.1,
)
next-piece (named op) pieces trees after h e = (next-step op trees after e, h)

-- after all items
next-pieces : (pieces : List Piece) (trees after : List Tree) → HaveLeaves pieces
    → with_pieces pieces trees ≡ Some after → IsNext pieces trees after
next-pieces [] trees after h e =
    subst (λ a. IsNext [] trees a) (same_Some trees after e)
    (record { spelled_on = append-nil (spelled trees); bounded_on = λ b. b })
next-pieces (p ∷ pieces) trees after h e =
    let q = bind_some (with_pieces pieces) (with_piece p trees) after e in
    let first = next-piece p pieces trees q.0 h q.1 in
    let rest = next-pieces pieces q.0 after first.1 q.2 in
    record {
      spelled_on = sym (append_assoc (spelled trees) (p ∷ []) pieces)
          ∙ ap (λ ps. ps ++ pieces) first.0.spelled_on ∙ rest.spelled_on;
      bounded_on = λ b. rest.bounded_on (first.0.bounded_on b);
    }

-- the only tree of a list is all of it
only_tree-some : (trees : List Tree) (t : Tree) → only_tree trees ≡ Some t → trees ≡ t ∷ []
only_tree-some [] t e = absurd (none-some t e)
only_tree-some (u ∷ []) t e = ap (λ v. v ∷ []) (same_Some u t e)
only_tree-some (u ∷ v ∷ trees) t e = absurd (none-some t e)

-- items that leave one tree are its spelling
pub spelling-of_tree : (pieces : List Piece) (t : Tree) → HaveLeaves pieces
    → (with_pieces pieces [] >>= only_tree) ≡ Some t → (pieces ≡ spelling t)
    × (level_count t ≤ max_levels)
spelling-of_tree pieces t h e =
    let q = bind_some only_tree (with_pieces pieces []) t e in
    let all = subst (λ a. IsNext pieces [] a) (only_tree-some q.0 t q.2)
    (next-pieces pieces [] q.0 h q.1) in
    (all.spelled_on, (all.bounded_on tt).0)
