-- Which columns have negatives, and what they are.
use Rattle.std.specs.Prelude.{Bool, true, false, ◌&&◌, if◌then◌else◌, Result, Err}
use Rattle.col_types.specs.CellOf.{value_fields}
use Rattle.col_types.specs.Column.{Column, unary_answer}
use Rattle.col_types.specs.DataKind.{DataKind}
use Rattle.col_types.specs.DataType.{is_carried_kind, physical_type_of}
use Rattle.col_types.specs.declared.datatypes.physical_type.PhysicalType.{PhysicalType}
use Rattle.col_types.specs.declared.datatypes.physical_type.PhysicalType.TheVariants as physical
use Rattle.col_types.specs.declared.datatypes.physical_type.PrimitiveType.{PrimitiveType}
use Rattle.col_types.specs.declared.datatypes.physical_type.PrimitiveType.TheVariants as native
use Rattle.col_types.specs.declared.error.Error.{Error}
use Rattle.col_types.specs.declared.error.Error.TheVariants.{NotYetImplemented}
use Rattle.col_basic.specs.Negative.{plain_negative}

-- values of the native type have a negative: numbers with a sign, and intervals
abbrev pub has_negative : PrimitiveType → Bool
has_negative native.Int8 = true
has_negative native.Int16 = true
has_negative native.Int32 = true
has_negative native.Int64 = true
has_negative native.Int128 = true
has_negative native.DaysMs = true
has_negative native.MonthDayNano = true
has_negative _ = false

-- columns of the layout have negatives
abbrev pub is_signed_layout : PhysicalType → Bool
is_signed_layout (physical.Primitive native) = has_negative native
is_signed_layout _ = false

-- columns of the type are carried, and have negatives
abbrev pub is_negatable : DataKind → Bool
is_negatable t = is_carried_kind t && is_signed_layout (physical_type_of t)

-- the negative of each cell, by the fields of the values; refused where the type has none
unfoldable pub negative_answer : Column → Result Column Error
negative_answer c =
    if is_negatable c.data_type then unary_answer (plain_negative (value_fields c.data_type)) c
    else Err NotYetImplemented
