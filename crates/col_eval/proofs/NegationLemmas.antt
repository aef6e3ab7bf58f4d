-- The negatives of a column, by the native type that its values are stored as.
use Rattle.std.proofs.Common.{◌≡◌, true, false, List, Err, IsTrue, refl, sym, ap, ◌∙◌}
use Rattle.col_model.specs.Whole.{WholeType}
use Rattle.col_types.specs.CellOf.{physical_fields, value_fields}
use Rattle.col_types.specs.Column.{Column, unary_answer}
use Rattle.col_types.specs.DataKind.{DataKind}
use Rattle.col_types.specs.DataKind as kind
use Rattle.col_types.specs.DataType.{IsStoredAs}
use Rattle.col_types.specs.NativeFields.{fields_of}
use Rattle.col_types.specs.declared.datatypes.physical_type.PrimitiveType.{PrimitiveType}
use Rattle.col_types.specs.declared.error.Error.TheVariants.{NotYetImplemented}
use Rattle.col_basic.specs.Negative.{plain_negative}
use Rattle.col_eval.specs.Negation.{is_negatable, negative_answer}

-- values that are stored as a native type have its fields
value_fields-stored : (t : DataKind) (native : PrimitiveType) → IsStoredAs t native
    → value_fields t ≡ fields_of native
value_fields-stored (kind.dictionary key values is_ordered) native h = absurd cc
value_fields-stored _ native h = ap physical_fields h

-- the negatives of a column of a type that has them
pub negative_answer-fields : (c : Column) (native : PrimitiveType) (fields : List WholeType)
    → IsTrue (is_negatable c.data_type) → IsStoredAs c.data_type native
    → fields ≡ fields_of native
    → negative_answer c ≡ unary_answer (plain_negative fields) c
unfolding negative_answer
negative_answer-fields c native fields taken stored same =
    let values = value_fields-stored c.data_type native stored ∙ sym same in
    let is_taken : is_negatable c.data_type ≡ true = taken in
    rw (is_taken, values) refl

-- a column of a type that has none is refused
pub negative_answer-refused : (c : Column) → is_negatable c.data_type ≡ false
    → negative_answer c ≡ Err NotYetImplemented
unfolding negative_answer
negative_answer-refused c h = rw h refl
