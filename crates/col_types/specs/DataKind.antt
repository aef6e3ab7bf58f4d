-- The types of columns as clauses see them: the parts of a type, without the boxes that hold them.
use Rattle.std.specs.Prelude.{ℕ, Bool, List, Option}
use Rattle.col_types.specs.declared.datatypes.DataType.{DataType}
use Rattle.col_types.specs.declared.datatypes.DataType.TheVariants as data_type
use Rattle.col_types.specs.declared.datatypes.Field.{Field}
use Rattle.col_types.specs.declared.datatypes.TimeUnit.{TimeUnit}
use Rattle.col_types.specs.declared.datatypes.IntervalUnit.{IntervalUnit}
use Rattle.col_types.specs.declared.datatypes.IntegerType.{IntegerType}

-- a type with all its parts: of a list the name of its field, its type, and whether it is nullable
pub data DataKind : Type 0 where
  null : DataKind
  boolean : DataKind
  int8 : DataKind
  int16 : DataKind
  int32 : DataKind
  int64 : DataKind
  uint8 : DataKind
  uint16 : DataKind
  uint32 : DataKind
  uint64 : DataKind
  timestamp : TimeUnit → Option (List ℕ) → DataKind
  date32 : DataKind
  date64 : DataKind
  time32 : TimeUnit → DataKind
  time64 : TimeUnit → DataKind
  duration : TimeUnit → DataKind
  interval : IntervalUnit → DataKind
  binary : DataKind
  fixed_size_binary : ℕ → DataKind
  large_binary : DataKind
  utf8 : DataKind
  large_utf8 : DataKind
  list : List ℕ → DataKind → Bool → DataKind
  fixed_size_list : List ℕ → DataKind → Bool → ℕ → DataKind
  large_list : List ℕ → DataKind → Bool → DataKind
  dictionary : IntegerType → DataKind → Bool → DataKind
  decimal : ℕ → ℕ → DataKind

-- a field with all its parts
pub record FieldKind : Type 0 where
  pub name : List ℕ
  pub data_type : DataKind
  pub is_nullable : Bool

-- the parts of a type: two types are equal where these are
abbrev pub kind_of : DataType → DataKind
kind_of data_type.Null = null
kind_of data_type.Boolean = boolean
kind_of data_type.Int8 = int8
kind_of data_type.Int16 = int16
kind_of data_type.Int32 = int32
kind_of data_type.Int64 = int64
kind_of data_type.UInt8 = uint8
kind_of data_type.UInt16 = uint16
kind_of data_type.UInt32 = uint32
kind_of data_type.UInt64 = uint64
kind_of (data_type.Timestamp unit zone) = timestamp unit zone
kind_of data_type.Date32 = date32
kind_of data_type.Date64 = date64
kind_of (data_type.Time32 unit) = time32 unit
kind_of (data_type.Time64 unit) = time64 unit
kind_of (data_type.Duration unit) = duration unit
kind_of (data_type.Interval unit) = interval unit
kind_of data_type.Binary = binary
kind_of (data_type.FixedSizeBinary size) = fixed_size_binary size
kind_of data_type.LargeBinary = large_binary
kind_of data_type.Utf8 = utf8
kind_of data_type.LargeUtf8 = large_utf8
kind_of (data_type.List' at name item is_nullable) = list name (kind_of item) is_nullable
kind_of (data_type.FixedSizeList' at name item is_nullable size) =
    fixed_size_list name (kind_of item) is_nullable size
kind_of (data_type.LargeList' at name item is_nullable) = large_list name (kind_of item) is_nullable
kind_of (data_type.Dictionary' key at values is_ordered) =
    dictionary key (kind_of values) is_ordered
kind_of (data_type.Decimal precision scale) = decimal precision scale

-- the parts of a field
abbrev pub field_kind_of : Field → FieldKind
field_kind_of f =
    record { name = f.name; data_type = kind_of f.data_type; is_nullable = f.is_nullable }
