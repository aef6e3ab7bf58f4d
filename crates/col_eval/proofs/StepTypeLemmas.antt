-- Each step of a tree with a type has a type, as a tree of its own.
use Rattle.std.proofs.Common.{◌≡◌, ◌≤◌, Bool, true, false, cond, nat_lt, List, [], ◌∷◌}
use Rattle.std.proofs.Common.{◌++◌, Result, Err, IsOk, All, refl, arith}
use Rattle.std.proofs.lemmas.Bool.{le-ltb, ltb-false}
use Rattle.std.proofs.lemmas.List.Elements.{All-append, All-cons, All-nil}
use Rattle.col_types.specs.DataKind.{DataKind}
use Rattle.col_types.specs.declared.error.Error.{Error}
use Rattle.col_types.specs.declared.error.Error.TheVariants.{InvalidArgumentError}
use Rattle.col_types.specs.declared.error.Reason.TheVariants.{Depth}
use Rattle.col_eval.specs.Laws.{steps_in_order}
use Rattle.col_eval.specs.Tree.{Tree, column, literal, step, level_count}
use Rattle.col_eval.specs.Typing.{is_literal, max_levels, right_type, type_of, typing_of}
use Rattle.col_eval.proofs.TreeLemmas.{IsOk-left, IsOk-right}

-- what has a type of its own has one as a right operand
IsOk-right_type : (tree : Tree) (own : Result DataKind Error) → IsOk own
    → IsOk (right_type tree own)
IsOk-right_type (column position) own h = h
IsOk-right_type (literal t c) own h = refl
IsOk-right_type (step op left right) own h = h

-- a tree of at most 256 levels has the type of any tree
IsOk-typing_of : (tree : Tree) (types : List DataKind) → level_count tree ≤ max_levels
    → IsOk (type_of tree types) → IsOk (typing_of tree types)
IsOk-typing_of tree types h typed =
    let e = le-ltb max_levels (level_count tree) h in
    rw e typed

-- each step of an operand with a type has a type
steps_have : (tree : Tree) (types : List DataKind) → level_count tree ≤ max_levels
    → IsOk (right_type tree (type_of tree types))
    → All (λ t. IsOk (typing_of t types)) (steps_in_order tree)
steps_have (column position) types h typed = All-nil (λ t. IsOk (typing_of t types))
steps_have (literal s c) types h typed = All-nil (λ t. IsOk (typing_of t types))
steps_have (step op left right) types h typed =
    let has = λ (t : Tree). IsOk (typing_of t types) in
    let own = type_of left types in
    let other = right_type right (type_of right types) in
    All-append has (steps_in_order left) (steps_in_order right ++ (step op left right ∷ []))
    (steps_have left types (omega arith)
    (IsOk-right_type left own (IsOk-left op (is_literal right) own other typed)))
    (All-append has (steps_in_order right) (step op left right ∷ [])
    (steps_have right types (omega arith) (IsOk-right op (is_literal right) own other typed))
    (All-cons has (step op left right) []
    (IsOk-typing_of (step op left right) types h typed) (All-nil has)))

-- what has a type is not too deep
typed_within : (deep : Bool) (typed : Result DataKind Error)
    → IsOk (cond deep (Err (InvalidArgumentError Depth)) typed) → (deep ≡ false) × IsOk typed
typed_within true typed h = absurd cc
typed_within false typed h = (refl, h)

-- each step of a tree with a type has a type
pub steps_have_types : (tree : Tree) (types : List DataKind) → IsOk (typing_of tree types)
    → All (λ t. IsOk (typing_of t types)) (steps_in_order tree)
steps_have_types tree types h =
    let parts = typed_within (nat_lt max_levels (level_count tree)) (type_of tree types) h in
    steps_have tree types (ltb-false max_levels (level_count tree) parts.0)
    (IsOk-right_type tree (type_of tree types) parts.1)
