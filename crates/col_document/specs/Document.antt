-- Documents: the table and the trees that a JSON text holds.
use Rattle.std.specs.Prelude.{ℕ, ◌^◌, ℤ, Bool, true, ◌&&◌, ◌||◌, ◌==◌, not, nat_lt, nat_le}
use Rattle.std.specs.Prelude.{if◌then◌else◌, List, [], ◌∷◌, length, slice_index, codes, is_some}
use Rattle.std.specs.Prelude.{Option, Some, None, find, option_map}
use Rattle.std.specs.Str.{all_ascii_digits, bytes_eq, is_utf8}
use Rattle.std.specs.Str.Parse.{digits_value, signed_digits_value, without_leading_sign}
use Rattle.serde_json.specs.Data.{Data}
use Rattle.serde_json.specs.Data as json
use Rattle.serde_json.specs.Find.{get, as_array, as_integer, as_str}
use Rattle.serde_json.specs.Read.{read}
use Rattle.col_model.specs.Cell.{Cell, null, whole}
use Rattle.col_model.specs.Whole.{checked_number, WholeType, signed, unsigned, is_fitting}
use Rattle.col_types.specs.Column.{Column, is_table}
use Rattle.col_types.specs.DataKind.{DataKind}
use Rattle.col_types.specs.DataKind as kind
use Rattle.col_types.specs.DataType.{whole_type_of}
use Rattle.col_eval.specs.Tree.{Tree, column, literal, step, level_count}
use Rattle.col_eval.specs.Typing.{max_levels}
use Rattle.col_eval.specs.declared.expr.Op.{Op}
use Rattle.col_document.specs.Json.{◌>>=◌, each, item_count}
use Rattle.col_document.specs.StepText.{named_steps, step_text}
use Rattle.col_document.specs.TypeText.{type_text}

-- ---- texts

-- one decimal digit or more, and nothing else
abbrev pub is_digits : List ℕ → Bool
is_digits text = nat_lt 0 (length text) && all_ascii_digits text

-- a minus sign stands before numbers of types with a sign alone
abbrev pub is_sign_had : WholeType → List ℕ → Bool
is_sign_had (signed w) text = true
is_sign_had (unsigned w) text = not (slice_index text 0 == 45)

-- the number that a text spells, where it fits: a sign that the type has or none, then digits
abbrev pub number_read : WholeType → List ℕ → Option ℤ
number_read t text =
    if is_sign_had t text && is_digits (without_leading_sign text)
    && is_fitting t (signed_digits_value 10 text)
    then Some (signed_digits_value 10 text)
    else None

-- digits without a zero in front of others
abbrev pub is_shortest : List ℕ → Bool
is_shortest digits = is_digits digits && (length digits == 1 || not (slice_index digits 0 == 48))

-- the count that digits name, none of them a zero in front of others: a number below 2 ^ 32. `0` is
-- 0, and `00`, `+1` and `4294967296` name none
abbrev pub count_named : List ℕ → Option ℕ
count_named digits =
    if is_shortest digits && nat_lt (digits_value 10 digits) (2 ^ 32)
    then Some (digits_value 10 digits)
    else None

-- the position that a column's name tells: `c`, then a count
abbrev pub position_named : List ℕ → Option ℕ
position_named [] = None
position_named (c ∷ digits) = if c == 99 then count_named digits else None

-- the step of a name
abbrev pub step_named : List ℕ → Option Op
step_named text = find (λ op. bytes_eq text (step_text op)) named_steps

-- the types whose cells documents hold
abbrev pub cell_kinds : List DataKind
cell_kinds =
    kind.int8
    ∷ kind.int16
    ∷ kind.int32
    ∷ kind.int64
    ∷ kind.uint8
    ∷ kind.uint16
    ∷ kind.uint32
    ∷ kind.uint64
    ∷ []

-- the type of a name: of the types whose cells documents hold, the one that has the text
abbrev pub type_named : List ℕ → Option DataKind
type_named text = find (λ t. bytes_eq text (type_text t)) cell_kinds

-- ---- cells and columns

-- a cell of a whole-number type: null, a whole number that fits, or a text that spells one
abbrev pub whole_read : WholeType → Data → Option Cell
whole_read t json.null = Some null
whole_read t (json.boolean b) = None
whole_read t (json.number n) = option_map whole (as_integer n >>= checked_number t)
whole_read t (json.string text) = option_map whole (number_read t text)
whole_read t (json.array items) = None
whole_read t (json.object ms) = None

-- a cell of a type; a type that is none of whole numbers has no cells yet
abbrev pub cell_read : DataKind → Data → Option Cell
cell_read t d = whole_type_of t >>= (λ numbers. whole_read numbers d)

-- the type that the member `type` names
abbrev pub type_read : Data → Option DataKind
type_read d = get (codes "type") d >>= as_str >>= type_named

-- a column: an object with a type, and a list of cells of that type
abbrev pub column_read : Data → Option Column
column_read d = do
  t ← type_read d
  items ← get (codes "values") d >>= as_array
  cells ← each (cell_read t) items
  Some (record { data_type = t; cells = cells })

-- ---- trees

-- an item of a tree's list: a leaf, or the name of a step
pub data Piece : Type 0 where
  leaf : Tree → Piece
  named : Op → Piece

-- the leaf of an object with a type, and a value that is a cell of it
abbrev pub typed_leaf : Data → Option Piece
typed_leaf d = do
  t ← type_read d
  value ← get (codes "value") d
  c ← cell_read t value
  Some (leaf (literal t c))

-- a literal: such an object without `cast`
abbrev pub literal_read : Data → Option Piece
literal_read d = if is_some (get (codes "cast") d) then None else typed_leaf d

-- a text as an item: the name of a step, else that of a column
abbrev pub word_read : List ℕ → Option Piece
word_read text = word_after (step_named text) (position_named text) where
  word_after : Option Op → Option ℕ → Option Piece
  word_after (Some op) position = Some (named op)
  word_after None position = option_map (λ i. leaf (column i)) position

-- an item: a text or a literal
abbrev pub piece_read : Data → Option Piece
piece_read json.null = None
piece_read (json.boolean b) = None
piece_read (json.number n) = None
piece_read (json.string text) = word_read text
piece_read (json.array items) = None
piece_read (json.object ms) = literal_read (json.object ms)

-- a step on two trees, where it has no more levels than a tree may have
abbrev pub bounded_step : Op → Tree → Tree → Option Tree
bounded_step op left right =
    if nat_le (level_count (step op left right)) max_levels then Some (step op left right) else None

-- a step on the two trees that stand last, the last one on its right
abbrev pub with_step : Op → List Tree → Option (List Tree)
with_step op [] = None
with_step op (right ∷ []) = None
with_step op (right ∷ left ∷ below) =
    option_map (λ t. t ∷ below) (bounded_step op left right)

-- the trees after one more item, the last one first
abbrev pub with_piece : Piece → List Tree → Option (List Tree)
with_piece (leaf t) trees = Some (t ∷ trees)
with_piece (named op) trees = with_step op trees

-- the trees after all items
abbrev pub with_pieces : List Piece → List Tree → Option (List Tree)
with_pieces [] trees = Some trees
with_pieces (p ∷ pieces) trees = with_piece p trees >>= with_pieces pieces

-- the only tree of a list
abbrev pub only_tree : List Tree → Option Tree
only_tree [] = None
only_tree (t ∷ []) = Some t
only_tree (t ∷ u ∷ trees) = None

-- a tree: the list of its items in postfix order, none left over
abbrev pub tree_read : Data → Option Tree
tree_read d = do
  items ← as_array d
  pieces ← each piece_read items
  trees ← with_pieces pieces []
  only_tree trees

-- ---- documents

-- a table, and trees over its columns
pub record DocumentView : Type 0 where
  pub table : List Column
  pub trees : List Tree

-- a document: an object with a list of columns of one length, fewer than 2 ^ 32, and a list of
-- trees
abbrev pub document_read : Data → Option DocumentView
document_read d = do
  column_items ← get (codes "columns") d >>= as_array
  tree_items ← get (codes "trees") d >>= as_array
  columns ← each column_read column_items
  trees ← each tree_read tree_items
  if nat_lt (item_count column_items) (2 ^ 32) && is_table columns
      then Some (record { table = columns; trees = trees })
      else None

-- the document of some bytes: they are UTF-8, and the JSON text that they are holds one
abbrev pub document_of : List ℕ → Option DocumentView
document_of bytes = if is_utf8 bytes then read bytes >>= document_read else None
