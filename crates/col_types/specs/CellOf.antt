-- Which cells a type has.
use Rattle.std.specs.Prelude.{ℕ, ℤ, Bool, true, false, ◌&&◌, ◌==◌, nat_lt, IsTrue, List, []}
use Rattle.std.specs.Prelude.{◌∷◌, length, Option, Some, None}
use Rattle.std.specs.List.{list_all}
use Rattle.std.specs.Str.{is_utf8}
use Rattle.col_model.specs.Cell.{Cell, Elements, null, whole, truth, parts, octets, list}
use Rattle.col_model.specs.Cell.{no_elements, element, element_count}
use Rattle.col_model.specs.Whole.{WholeType, is_fitting}
use Rattle.col_types.specs.declared.datatypes.physical_type.PhysicalType.{PhysicalType}
use Rattle.col_types.specs.declared.datatypes.physical_type.PhysicalType.TheVariants as physical
use Rattle.col_types.specs.DataKind.{DataKind}
use Rattle.col_types.specs.DataKind as kind
use Rattle.col_types.specs.DataType.{physical_type_of}
use Rattle.col_types.specs.NativeFields.{fields_of}
use Rattle.col_types.specs.Column.{Column}

-- the types of the fields of a type's values, and none where values are no numbers
abbrev pub physical_fields : PhysicalType → List WholeType
physical_fields (physical.Primitive native) = fields_of native
physical_fields _ = []

-- the type of a type's values: of a dictionary, that of the values that its keys name
abbrev pub value_kind : DataKind → DataKind
value_kind (kind.dictionary key values is_ordered) = values
value_kind t = t

-- the types of the fields of the values
abbrev pub value_fields : DataKind → List WholeType
value_fields t = physical_fields (physical_type_of (value_kind t))

-- the number of a value with one field
abbrev pub is_whole_of : List WholeType → ℤ → Bool
is_whole_of (t ∷ []) n = is_fitting t n
is_whole_of _ n = false

-- a number for each field, and each fits
abbrev pub are_fitting : List WholeType → List ℤ → Bool
are_fitting [] [] = true
are_fitting (t ∷ ts) (n ∷ ns) = is_fitting t n && are_fitting ts ns
are_fitting _ _ = false

-- the numbers of a value with several fields
abbrev pub are_parts_of : List WholeType → List ℤ → Bool
are_parts_of (t ∷ u ∷ ts) ns = are_fitting (t ∷ u ∷ ts) ns
are_parts_of _ ns = false

-- each number is one of a byte
abbrev pub are_bytes : List ℕ → Bool
are_bytes bytes = list_all (λ b. nat_lt b 256) bytes

-- columns of truth values
abbrev pub is_boolean : DataKind → Bool
is_boolean kind.boolean = true
is_boolean _ = false

-- the bytes of a value: a text is UTF-8, and a value of fixed size has so many bytes
abbrev pub are_bytes_of : DataKind → List ℕ → Bool
are_bytes_of kind.utf8 bytes = are_bytes bytes && is_utf8 bytes
are_bytes_of kind.large_utf8 bytes = are_bytes bytes && is_utf8 bytes
are_bytes_of kind.binary bytes = are_bytes bytes
are_bytes_of kind.large_binary bytes = are_bytes bytes
are_bytes_of (kind.fixed_size_binary size) bytes = are_bytes bytes && (length bytes == size)
are_bytes_of _ bytes = false

-- the type of a list's elements
abbrev pub element_kind : DataKind → Option DataKind
element_kind (kind.list name item is_nullable) = Some item
element_kind (kind.fixed_size_list name item is_nullable size) = Some item
element_kind (kind.large_list name item is_nullable) = Some item
element_kind _ = None

-- a list of fixed size has so many elements, and any other any number
abbrev pub has_size : DataKind → ℕ → Bool
has_size (kind.fixed_size_list name item is_nullable size) n = n == size
has_size _ n = true

-- a null is a cell of each type; any other cell has a value of the type
abbrev mutual
  pub is_cell_of : DataKind → Cell → Bool
  is_cell_of t null = true
  is_cell_of t (whole n) = is_whole_of (value_fields t) n
  is_cell_of t (truth b) = is_boolean (value_kind t)
  is_cell_of t (parts ns) = are_parts_of (value_fields t) ns
  is_cell_of t (octets bytes) = are_bytes_of (value_kind t) bytes
  is_cell_of t (list es) =
      has_size (value_kind t) (element_count es) && are_cells_of (element_kind (value_kind t)) es

  -- each element is a cell of the type
  pub are_cells_of : Option DataKind → Elements → Bool
  are_cells_of None es = false
  are_cells_of (Some t) no_elements = true
  are_cells_of (Some t) (element c es) = is_cell_of t c && are_cells_of (Some t) es

-- the cell is one of the type
abbrev pub IsCellOf : DataKind → Cell → Type 0
IsCellOf t c = IsTrue (is_cell_of t c)

-- a column whose cells are of its type
abbrev pub is_typed_column : Column → Bool
is_typed_column c = list_all (is_cell_of c.data_type) c.cells

-- each cell of the column is one of its type
abbrev pub HoldsItsCells : Column → Type 0
HoldsItsCells c = IsTrue (is_typed_column c)
