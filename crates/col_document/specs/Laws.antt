-- Laws of the definitions of documents.
use Rattle.std.specs.Prelude.{◌≡◌, ℕ, ◌^◌, ◌<◌, ◌≤◌, ◌↔◌, List, [], ◌∷◌, ◌++◌, codes, Some, IsTrue}
use Rattle.std.specs.Prelude.{⊤}
use Rattle.std.specs.List.{list_all}
use Rattle.std.specs.Fmt.{decimal}
use Rattle.serde_json.specs.Data.{Items, array}
use Rattle.col_eval.specs.Tree.{Tree, column, literal, step, level_count}
use Rattle.col_eval.specs.Typing.{max_levels}
use Rattle.col_eval.specs.declared.expr.Op.{Op}
use Rattle.col_document.specs.Document.{Piece, leaf, named, only_tree, piece_read, position_named}
use Rattle.col_types.specs.CellOf.{is_typed_column}
use Rattle.col_document.specs.Document.{DocumentView, count_named, document_of, step_named}
use Rattle.col_document.specs.Document.{tree_read, with_pieces}
use Rattle.col_document.specs.StepText.{step_text}
use Rattle.col_document.specs.Json.{◌>>=◌, each}

-- the items that a tree is written as: those of its left operand, of its right one, then the step
abbrev pub spelling : Tree → List Piece
spelling (column position) = leaf (column position) ∷ []
spelling (literal t c) = leaf (literal t c) ∷ []
spelling (step op left right) = spelling left ++ (spelling right ++ named op ∷ [])

-- each leaf has one level, as the leaves of a document have
abbrev pub HaveLeaves : List Piece → Type 0
HaveLeaves [] = ⊤
HaveLeaves (leaf t ∷ pieces) = (level_count t ≡ 1) × HaveLeaves pieces
HaveLeaves (named op ∷ pieces) = HaveLeaves pieces

-- items leave a tree exactly where they are its spelling, and it has at most 256 levels
abbrev pub IsSpelledInOneWay : Type 0
IsSpelledInOneWay = (pieces : List Piece) (t : Tree) → HaveLeaves pieces →
    ((with_pieces pieces [] >>= only_tree) ≡ Some t)
    ↔ ((pieces ≡ spelling t) × (level_count t ≤ max_levels))

-- a JSON list is read as a tree exactly where its items are the tree's spelling
abbrev pub IsReadFromItsSpelling : Type 0
IsReadFromItsSpelling = (items : Items) (t : Tree) →
    (tree_read (array items) ≡ Some t)
    ↔ ((each piece_read items ≡ Some (spelling t)) × (level_count t ≤ max_levels))

-- digits name a count exactly where they are its text, and it lies below 2 ^ 32
abbrev pub NamesItsCount : Type 0
NamesItsCount = (digits : List ℕ) (n : ℕ) →
    (count_named digits ≡ Some n) ↔ ((digits ≡ decimal n) × (n < 2 ^ 32))

-- a text names a position below 2 ^ 32 exactly where it is `c` and the position's digits
abbrev pub NamesItsPosition : Type 0
NamesItsPosition = (text : List ℕ) (i : ℕ) →
    (position_named text ≡ Some i) ↔ ((text ≡ codes "c" ++ decimal i) × (i < 2 ^ 32))

-- each step is read from its name, and from no other text
abbrev pub NamesItsStep : Type 0
NamesItsStep = (text : List ℕ) (op : Op) → (step_named text ≡ Some op) ↔ (text ≡ step_text op)

-- the columns of a document's table hold cells of their types
abbrev pub DocumentHoldsItsCells : Type 0
DocumentHoldsItsCells = (bytes : List ℕ) (d : DocumentView) → document_of bytes ≡ Some d
    → IsTrue (list_all is_typed_column d.table)
