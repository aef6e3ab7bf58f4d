-- What a reading answers but for want of memory, and what the code's pieces stand for.
use Rattle.std.specs.Prelude.{◌≡◌, ℕ, if◌then◌else◌, ◌&&◌, ◌^◌, nat_lt, length, List, map}
use Rattle.std.specs.Prelude.{option_map, reverse, Option, Some, None, Result, Ok, Err, ⊤}
use Rattle.json.specs.Token.{Token}
use Rattle.serde_json.specs.Data.{Data, Items}
use Rattle.col_json.specs.Begins.{Begins, BeginsItems}
use Rattle.col_model.specs.Cell.{Cell}
use Rattle.col_types.specs.Column.{Column, is_table}
use Rattle.col_types.specs.DataKind.{DataKind}
use Rattle.col_array.specs.Any.{scalar_cell, scalar_type}
use Rattle.col_array.specs.declared.any_scalar.AnyScalar.{AnyScalar}
use Rattle.col_eval.specs.Tree.{Tree, column, literal, tree_of}
use Rattle.col_eval.specs.declared.expr.Expr.{Expr}
use Rattle.col_document.specs.declared.document.ReadError.{ReadError}
use Rattle.col_document.specs.declared.document.ReadError.TheVariants.{Memory, Malformed}
use Rattle.col_document.specs.declared.pieces.Piece as code
use Rattle.col_document.specs.declared.pieces.Piece.TheVariants as code_piece
use Rattle.col_document.specs.Document.{Piece, leaf, named}

-- nothing is read where the refusal is `Malformed`; want of memory says nothing
abbrev pub IsUnread : {Y : Type 0} → ReadError → Option Y → Type 0
IsUnread Memory wanted = ⊤
IsUnread Malformed wanted = wanted ≡ None

-- the answer is what is read, seen by a view; it is malformed exactly where nothing is, but for
-- want of memory
abbrev pub Reads : {X Y : Type 0} → (X → Y) → Result X ReadError → Option Y → Type 0
Reads view (Ok x) wanted = wanted ≡ Some (view x)
Reads view (Err e) wanted = IsUnread e wanted

-- the tokens begin with a value that is read as this, within the levels, and the rest follows
abbrev pub IsReadAs : {Y : Type 0} → ℕ → (Data → Option Y) → List Token → Y → List Token → Type 0
IsReadAs levels read_one ts y rest =
    (d : Data) × (read_one d ≡ Some y) × Begins levels ts d rest

-- the same of the items of a list and the bracket that closes it
abbrev pub AreReadAs : {Y : Type 0} → ℕ → (Items → Option Y) → List Token → Y → List Token → Type 0
AreReadAs levels read_all ts y rest =
    (ds : Items) × (read_all ds ≡ Some y) × BeginsItems levels ts ds rest

-- the leaf that a scalar is
abbrev pub scalar_leaf : AnyScalar → Tree
scalar_leaf scalar = literal (scalar_type scalar) (scalar_cell scalar)

-- the item that a piece is
abbrev pub piece_view : code.Piece → Piece
piece_view (code_piece.Column position) = leaf (column position)
piece_view (code_piece.Literal scalar) = leaf (scalar_leaf scalar)
piece_view (code_piece.Step op) = named op

-- the trees of some expressions, the last one first
abbrev pub trees_of : List Expr → List Tree
trees_of trees = reverse (map tree_of trees)

-- the column of a type's cells, where they are read
abbrev pub column_with : DataKind → Option (List Cell) → Option Column
column_with t cells = option_map (λ cells. record { data_type = t; cells = cells }) cells

-- the columns as a table: fewer than 2 ^ 32, of one length
abbrev pub only_table : List Column → Option (List Column)
only_table columns =
    if nat_lt (length columns) (2 ^ 32) && is_table columns then Some columns else None
