-- How types are stored, which of them are carried, and which parameters they may have.
use Rattle.std.specs.Prelude.{◌≡◌, ℕ, nat_le, Bool, true, false, ◌&&◌, if◌then◌else◌, not, IsTrue}
use Rattle.std.specs.Prelude.{Option, Some, None}
use Rattle.std.specs.Int.{w8, w16, w32, w64}
use Rattle.col_model.specs.Whole.{WholeType, signed, unsigned}
use Rattle.col_types.specs.declared.datatypes.TimeUnit.{TimeUnit}
use Rattle.col_types.specs.declared.datatypes.TimeUnit.TheVariants as unit
use Rattle.col_types.specs.declared.datatypes.IntervalUnit.{IntervalUnit}
use Rattle.col_types.specs.declared.datatypes.IntervalUnit.TheVariants as span
use Rattle.col_types.specs.declared.datatypes.physical_type.PhysicalType.{PhysicalType}
use Rattle.col_types.specs.declared.datatypes.physical_type.PhysicalType.TheVariants as physical
use Rattle.col_types.specs.declared.datatypes.physical_type.PrimitiveType.{PrimitiveType}
use Rattle.col_types.specs.declared.datatypes.physical_type.PrimitiveType.TheVariants as primitive
use Rattle.col_types.specs.declared.error.Error.{Error}
use Rattle.col_types.specs.declared.error.Error.TheVariants.{InvalidArgumentError, OutOfSpec}
use Rattle.col_types.specs.declared.error.Reason.TheVariants.{Parameters}
use Rattle.col_types.specs.DataKind.{DataKind}
use Rattle.col_types.specs.DataKind as kind

-- the native type of an interval's slots
abbrev pub interval_native : IntervalUnit → PrimitiveType
interval_native span.YearMonth = primitive.Int32
interval_native span.DayTime = primitive.DaysMs
interval_native span.MonthDayNano = primitive.MonthDayNano

-- how the columns of a type are stored
abbrev pub physical_type_of : DataKind → PhysicalType
physical_type_of kind.null = physical.Null
physical_type_of kind.boolean = physical.Boolean
physical_type_of kind.int8 = physical.Primitive primitive.Int8
physical_type_of kind.int16 = physical.Primitive primitive.Int16
physical_type_of kind.int32 = physical.Primitive primitive.Int32
physical_type_of kind.int64 = physical.Primitive primitive.Int64
physical_type_of kind.uint8 = physical.Primitive primitive.UInt8
physical_type_of kind.uint16 = physical.Primitive primitive.UInt16
physical_type_of kind.uint32 = physical.Primitive primitive.UInt32
physical_type_of kind.uint64 = physical.Primitive primitive.UInt64
physical_type_of (kind.timestamp u place) = physical.Primitive primitive.Int64
physical_type_of kind.date32 = physical.Primitive primitive.Int32
physical_type_of kind.date64 = physical.Primitive primitive.Int64
physical_type_of (kind.time32 u) = physical.Primitive primitive.Int32
physical_type_of (kind.time64 u) = physical.Primitive primitive.Int64
physical_type_of (kind.duration u) = physical.Primitive primitive.Int64
physical_type_of (kind.interval u) = physical.Primitive (interval_native u)
physical_type_of kind.binary = physical.Binary
physical_type_of (kind.fixed_size_binary size) = physical.FixedSizeBinary
physical_type_of kind.large_binary = physical.LargeBinary
physical_type_of kind.utf8 = physical.Utf8
physical_type_of kind.large_utf8 = physical.LargeUtf8
physical_type_of (kind.list name item is_nullable) = physical.List
physical_type_of (kind.fixed_size_list name item is_nullable size) = physical.FixedSizeList
physical_type_of (kind.large_list name item is_nullable) = physical.LargeList
physical_type_of (kind.dictionary key values is_ordered) = physical.Dictionary key
physical_type_of (kind.decimal precision scale) = physical.Primitive primitive.Int128

-- the slots of the type's columns are values of the native type
abbrev pub IsStoredAs : DataKind → PrimitiveType → Type 0
IsStoredAs t native = physical_type_of t ≡ physical.Primitive native

-- the numbers that a column of whole numbers may hold, and none for a column of anything else
abbrev pub whole_type_of : DataKind → Option WholeType
whole_type_of kind.int8 = Some (signed w8)
whole_type_of kind.int16 = Some (signed w16)
whole_type_of kind.int32 = Some (signed w32)
whole_type_of kind.int64 = Some (signed w64)
whole_type_of kind.uint8 = Some (unsigned w8)
whole_type_of kind.uint16 = Some (unsigned w16)
whole_type_of kind.uint32 = Some (unsigned w32)
whole_type_of kind.uint64 = Some (unsigned w64)
whole_type_of _ = None

-- the units in which 32 bits hold each time of day: seconds and milliseconds
abbrev pub is_time32_unit : TimeUnit → Bool
is_time32_unit unit.Second = true
is_time32_unit unit.Millisecond = true
is_time32_unit unit.Microsecond = false
is_time32_unit unit.Nanosecond = false

-- a type whose columns hold keys into a column of values
abbrev pub is_dictionary : DataKind → Bool
is_dictionary (kind.dictionary key values is_ordered) = true
is_dictionary _ = false

-- at each level a time of day has a unit of its width, and a dictionary's values are no dictionary
abbrev pub is_carried_kind : DataKind → Bool
is_carried_kind (kind.time32 u) = is_time32_unit u
is_carried_kind (kind.time64 u) = not (is_time32_unit u)
is_carried_kind (kind.list name item is_nullable) = is_carried_kind item
is_carried_kind (kind.fixed_size_list name item is_nullable size) = is_carried_kind item
is_carried_kind (kind.large_list name item is_nullable) = is_carried_kind item
is_carried_kind (kind.dictionary key values is_ordered) =
    not (is_dictionary values) && is_carried_kind values
is_carried_kind _ = true

-- columns of the type are carried
abbrev pub IsCarried : DataKind → Type 0
IsCarried t = IsTrue (is_carried_kind t)

-- a size is 1 to 2^31 - 1
abbrev pub is_fitting_size : ℕ → Bool
is_fitting_size size = nat_le 1 size && nat_le size 2147483647

-- a decimal number has 1 to 38 digits, and of these no more than all after the point
abbrev pub is_fitting_decimal : ℕ → ℕ → Bool
is_fitting_decimal precision scale =
    nat_le 1 precision && nat_le precision 38 && nat_le scale precision

-- at each level sizes and decimals fit
abbrev pub is_fitting_kind : DataKind → Bool
is_fitting_kind (kind.fixed_size_binary size) = is_fitting_size size
is_fitting_kind (kind.list name item is_nullable) = is_fitting_kind item
is_fitting_kind (kind.fixed_size_list name item is_nullable size) =
    is_fitting_size size && is_fitting_kind item
is_fitting_kind (kind.large_list name item is_nullable) = is_fitting_kind item
is_fitting_kind (kind.dictionary key values is_ordered) = is_fitting_kind values
is_fitting_kind (kind.decimal precision scale) = is_fitting_decimal precision scale
is_fitting_kind _ = true

-- the numbers within the type are ones that it may have
abbrev pub HasFittingParameters : DataKind → Type 0
HasFittingParameters t = IsTrue (is_fitting_kind t)

-- columns of the type are made of values of the native type
pub record IsMadeOf (t : DataKind) (native : PrimitiveType) : Type 0 where
  pub parameters : HasFittingParameters t
  pub carried : IsCarried t
  pub stored : IsStoredAs t native

-- the refusal of a type whose columns are not made of the values at hand: its parameters come first
abbrev pub type_error : DataKind → Error
type_error t = if is_fitting_kind t then OutOfSpec else InvalidArgumentError Parameters

-- a type without parameters, whose name says all of it
abbrev pub is_plain : DataKind → Bool
is_plain kind.null = true
is_plain kind.boolean = true
is_plain kind.int8 = true
is_plain kind.int16 = true
is_plain kind.int32 = true
is_plain kind.int64 = true
is_plain kind.uint8 = true
is_plain kind.uint16 = true
is_plain kind.uint32 = true
is_plain kind.uint64 = true
is_plain kind.date32 = true
is_plain kind.date64 = true
is_plain kind.binary = true
is_plain kind.large_binary = true
is_plain kind.utf8 = true
is_plain kind.large_utf8 = true
is_plain _ = false
