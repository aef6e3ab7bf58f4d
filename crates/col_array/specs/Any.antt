-- The columns and cells that arrays and scalars of any type stand for, and how each is stored.
use Rattle.std.specs.Prelude.{◌≡◌, ℕ, Bool, true, false, IsTrue}
use Rattle.col_buf.specs.Cut.{cut}
use Rattle.col_model.specs.Cell.{Cell}
use Rattle.col_types.specs.declared.datatypes.physical_type.PhysicalType.{PhysicalType}
use Rattle.col_types.specs.declared.datatypes.physical_type.PhysicalType.TheVariants as physical
use Rattle.col_types.specs.declared.datatypes.physical_type.PrimitiveType.{PrimitiveType}
use Rattle.col_types.specs.declared.datatypes.physical_type.PrimitiveType.TheVariants as native
use Rattle.col_types.specs.DataKind.{DataKind}
use Rattle.col_types.specs.DataType.{HasFittingParameters, IsCarried, physical_type_of}
use Rattle.col_types.specs.Column.{Column}
use Rattle.col_flat.specs.Parts.{ScalarParts, column_of, slot_cell}
use Rattle.col_array.specs.declared.any.AnyArray.{AnyArray}
use Rattle.col_array.specs.declared.any.AnyArray.TheVariants as array
use Rattle.col_array.specs.declared.any_scalar.AnyScalar.{AnyScalar}
use Rattle.col_array.specs.declared.any_scalar.AnyScalar.TheVariants as scalar

-- the column of an array of any type
abbrev pub any_column : AnyArray → Column
any_column (array.Int8 a) = column_of a
any_column (array.Int16 a) = column_of a
any_column (array.Int32 a) = column_of a
any_column (array.Int64 a) = column_of a
any_column (array.Int128 a) = column_of a
any_column (array.UInt8 a) = column_of a
any_column (array.UInt16 a) = column_of a
any_column (array.UInt32 a) = column_of a
any_column (array.UInt64 a) = column_of a
any_column (array.DaysMs a) = column_of a
any_column (array.MonthDayNano a) = column_of a

-- how the slots of an array are stored: each variant has its layout
abbrev pub layout_of : AnyArray → PhysicalType
layout_of (array.Int8 a) = physical.Primitive native.Int8
layout_of (array.Int16 a) = physical.Primitive native.Int16
layout_of (array.Int32 a) = physical.Primitive native.Int32
layout_of (array.Int64 a) = physical.Primitive native.Int64
layout_of (array.Int128 a) = physical.Primitive native.Int128
layout_of (array.UInt8 a) = physical.Primitive native.UInt8
layout_of (array.UInt16 a) = physical.Primitive native.UInt16
layout_of (array.UInt32 a) = physical.Primitive native.UInt32
layout_of (array.UInt64 a) = physical.Primitive native.UInt64
layout_of (array.DaysMs a) = physical.Primitive native.DaysMs
layout_of (array.MonthDayNano a) = physical.Primitive native.MonthDayNano

-- the parts of a scalar of any type
abbrev pub scalar_parts : AnyScalar → ScalarParts
scalar_parts (scalar.Int8 s) = s
scalar_parts (scalar.Int16 s) = s
scalar_parts (scalar.Int32 s) = s
scalar_parts (scalar.Int64 s) = s
scalar_parts (scalar.Int128 s) = s
scalar_parts (scalar.UInt8 s) = s
scalar_parts (scalar.UInt16 s) = s
scalar_parts (scalar.UInt32 s) = s
scalar_parts (scalar.UInt64 s) = s
scalar_parts (scalar.DaysMs s) = s
scalar_parts (scalar.MonthDayNano s) = s

-- the type of a scalar of any type
abbrev pub scalar_type : AnyScalar → DataKind
scalar_type s = (scalar_parts s).data_type

-- the cell of a scalar of any type
abbrev pub scalar_cell : AnyScalar → Cell
scalar_cell s = slot_cell (scalar_parts s).slot

-- the native type of a scalar's value: each variant has its own
abbrev pub native_of : AnyScalar → PrimitiveType
native_of (scalar.Int8 s) = native.Int8
native_of (scalar.Int16 s) = native.Int16
native_of (scalar.Int32 s) = native.Int32
native_of (scalar.Int64 s) = native.Int64
native_of (scalar.Int128 s) = native.Int128
native_of (scalar.UInt8 s) = native.UInt8
native_of (scalar.UInt16 s) = native.UInt16
native_of (scalar.UInt32 s) = native.UInt32
native_of (scalar.UInt64 s) = native.UInt64
native_of (scalar.DaysMs s) = native.DaysMs
native_of (scalar.MonthDayNano s) = native.MonthDayNano

-- columns of the type are carried, and laid out so
pub record IsLaidOutAs (t : DataKind) (layout : PhysicalType) : Type 0 where
  pub parameters : HasFittingParameters t
  pub carried : IsCarried t
  pub stored : physical_type_of t ≡ layout

-- arrays of the layout have a variant
abbrev pub has_variant : PhysicalType → Bool
has_variant (physical.Primitive native) = true
has_variant _ = false

-- columns of the type are carried, and arrays of them have a variant
pub record IsHeld (t : DataKind) : Type 0 where
  pub parameters : HasFittingParameters t
  pub carried : IsCarried t
  pub held : IsTrue (has_variant (physical_type_of t))

-- so many rows of a column from one on
abbrev pub cut_column : Column → ℕ → ℕ → Column
cut_column c offset count = record { data_type = c.data_type; cells = cut c.cells offset count }
