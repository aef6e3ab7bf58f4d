-- The fields of the native types, and the numbers that each holds.
use Rattle.std.specs.Prelude.{List, [], ◌∷◌}
use Rattle.std.specs.Int.{w8, w16, w32, w64, w128}
use Rattle.col_model.specs.Whole.{WholeType, signed, unsigned}
use Rattle.col_types.specs.declared.datatypes.IntegerType.{IntegerType}
use Rattle.col_types.specs.declared.datatypes.IntegerType.TheVariants as key
use Rattle.col_types.specs.declared.datatypes.physical_type.PrimitiveType.{PrimitiveType}
use Rattle.col_types.specs.declared.datatypes.physical_type.PrimitiveType.TheVariants as primitive

-- the types of the fields of a native type: a number is one field
abbrev pub fields_of : PrimitiveType → List WholeType
fields_of primitive.Int8 = signed w8 ∷ []
fields_of primitive.Int16 = signed w16 ∷ []
fields_of primitive.Int32 = signed w32 ∷ []
fields_of primitive.Int64 = signed w64 ∷ []
fields_of primitive.Int128 = signed w128 ∷ []
fields_of primitive.UInt8 = unsigned w8 ∷ []
fields_of primitive.UInt16 = unsigned w16 ∷ []
fields_of primitive.UInt32 = unsigned w32 ∷ []
fields_of primitive.UInt64 = unsigned w64 ∷ []
fields_of primitive.DaysMs = signed w32 ∷ signed w32 ∷ []
fields_of primitive.MonthDayNano = signed w32 ∷ signed w32 ∷ signed w64 ∷ []

-- the numbers that a key of a dictionary may be
abbrev pub whole_type_of_key : IntegerType → WholeType
whole_type_of_key key.Int8 = signed w8
whole_type_of_key key.Int16 = signed w16
whole_type_of_key key.Int32 = signed w32
whole_type_of_key key.Int64 = signed w64
whole_type_of_key key.UInt8 = unsigned w8
whole_type_of_key key.UInt16 = unsigned w16
whole_type_of_key key.UInt32 = unsigned w32
whole_type_of_key key.UInt64 = unsigned w64
