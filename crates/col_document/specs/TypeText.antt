-- The texts of types, as documents and pages write them.
use Rattle.std.specs.Prelude.{ℕ, List, [], ◌++◌, codes, Option, Some, None}
use Rattle.std.specs.Fmt.{decimal}
use Rattle.col_types.specs.declared.datatypes.TimeUnit.{TimeUnit}
use Rattle.col_types.specs.declared.datatypes.TimeUnit.TheVariants.{Second, Millisecond}
use Rattle.col_types.specs.declared.datatypes.TimeUnit.TheVariants.{Microsecond, Nanosecond}
use Rattle.col_types.specs.declared.datatypes.IntervalUnit.{IntervalUnit}
use Rattle.col_types.specs.declared.datatypes.IntervalUnit.TheVariants.{YearMonth, DayTime}
use Rattle.col_types.specs.declared.datatypes.IntervalUnit.TheVariants.{MonthDayNano}
use Rattle.col_types.specs.DataKind.{DataKind}
use Rattle.col_types.specs.DataKind as kind

-- the name of a unit of time
abbrev pub unit_text : TimeUnit → List ℕ
unit_text Second = codes "Second"
unit_text Millisecond = codes "Millisecond"
unit_text Microsecond = codes "Microsecond"
unit_text Nanosecond = codes "Nanosecond"

-- the name of an interval's parts
abbrev pub span_text : IntervalUnit → List ℕ
span_text YearMonth = codes "YearMonth"
span_text DayTime = codes "DayTime"
span_text MonthDayNano = codes "MonthDayNano"

-- what stands behind a unit: a comma and the zone, where there is one
abbrev pub zone_text : Option (List ℕ) → List ℕ
zone_text None = []
zone_text (Some zone) = codes "," ++ zone

-- the name of a type that has no parameters; there is none for a type that documents do not name
abbrev pub plain_text : DataKind → List ℕ
plain_text kind.boolean = codes "Boolean"
plain_text kind.int8 = codes "Int8"
plain_text kind.int16 = codes "Int16"
plain_text kind.int32 = codes "Int32"
plain_text kind.int64 = codes "Int64"
plain_text kind.uint8 = codes "UInt8"
plain_text kind.uint16 = codes "UInt16"
plain_text kind.uint32 = codes "UInt32"
plain_text kind.uint64 = codes "UInt64"
plain_text kind.date32 = codes "Date32"
plain_text kind.date64 = codes "Date64"
plain_text kind.binary = codes "Binary"
plain_text kind.large_binary = codes "LargeBinary"
plain_text kind.utf8 = codes "Utf8"
plain_text kind.large_utf8 = codes "LargeUtf8"
plain_text _ = []

-- the text of a type: its name, then its parameters in brackets
abbrev pub type_text : DataKind → List ℕ
type_text (kind.timestamp u zone) =
    codes "Timestamp(" ++ unit_text u ++ zone_text zone ++ codes ")"
type_text (kind.time32 u) = codes "Time32(" ++ unit_text u ++ codes ")"
type_text (kind.time64 u) = codes "Time64(" ++ unit_text u ++ codes ")"
type_text (kind.duration u) = codes "Duration(" ++ unit_text u ++ codes ")"
type_text (kind.interval u) = codes "Interval(" ++ span_text u ++ codes ")"
type_text (kind.decimal precision scale) =
    codes "Decimal(" ++ decimal precision ++ codes "," ++ decimal scale ++ codes ")"
type_text t = plain_text t
