-- What the rules of the table of steps say, and what steps answer by them.
use Rattle.std.proofs.Common.{◌≡◌, ℤ, Bool, true, false, List, [], ◌∷◌, length}
use Rattle.std.proofs.Common.{replicate, Option, None, Some, option_map, Ok, inl, inr}
use Rattle.std.proofs.Common.{refl, sym, ap, ◌∙◌, eq-eqb}
use Rattle.std.specs.Int.{w8, w16, w32, w64}
use Rattle.std.proofs.lemmas.List.{length-replicate}
use Rattle.col_model.specs.Cell.{Cell, null, whole}
use Rattle.col_model.specs.Whole.{WholeType, signed, unsigned}
use Rattle.col_model.specs.WholeStep.{each_row, whole_step}
use Rattle.col_types.specs.CellOf.{is_cell_of, value_fields}
use Rattle.col_types.specs.Column.{Column, kernel_answer, row_count, scalar_answer}
use Rattle.col_types.specs.DataKind.{DataKind}
use Rattle.col_types.specs.DataKind as kind
use Rattle.col_types.specs.DataType.{IsStoredAs, physical_type_of, whole_type_of}
use Rattle.col_types.specs.NativeFields.{fields_of}
use Rattle.col_types.specs.declared.datatypes.physical_type.PhysicalType.{PhysicalType}
use Rattle.col_types.specs.declared.datatypes.physical_type.PhysicalType.TheVariants as physical
use Rattle.col_types.specs.declared.datatypes.physical_type.PrimitiveType.{PrimitiveType}
use Rattle.col_types.specs.declared.datatypes.physical_type.PrimitiveType.TheVariants as primitive
use Rattle.col_flat.specs.Parts.{slot_cell}
use Rattle.col_basic.proofs.FormLemmas as forms
use Rattle.col_decimal.specs.DecimalStep.{DecimalForm, DecimalOperation}
use Rattle.col_eval.specs.declared.entries.Rule.TheVariants.{WholeNumbers}
use Rattle.col_eval.specs.declared.expr.Op.{Op}
use Rattle.col_eval.specs.Entries.{decimal_form, decimal_operation, decimal_rule, form_of}
use Rattle.col_eval.specs.Entries.{operation_of, rule_of, typed_step}
use Rattle.col_eval.specs.Steps.{constant_column, scalar_step_answer, step_answer}

-- columns of the layout hold whole numbers of one of the eight types
abbrev pub is_whole_layout : PhysicalType → Bool
is_whole_layout (physical.Primitive primitive.Int128) = false
is_whole_layout (physical.Primitive primitive.DaysMs) = false
is_whole_layout (physical.Primitive primitive.MonthDayNano) = false
is_whole_layout (physical.Primitive native) = true
is_whole_layout _ = false

-- a type of whole numbers: its numbers, and how they are stored
pub record IsWholeKind (t : DataKind) : Type 0 where
  pub numbers : WholeType
  pub native : PrimitiveType
  pub whole : whole_type_of t ≡ Some numbers
  pub stored : IsStoredAs t native
  pub field : fields_of native ≡ numbers ∷ []
  pub values : value_fields t ≡ numbers ∷ []
  pub layout : is_whole_layout (physical_type_of t) ≡ true

whole_kind : (t : DataKind) (w : WholeType) (n : PrimitiveType) → whole_type_of t ≡ Some w
    → IsStoredAs t n → fields_of n ≡ w ∷ [] → value_fields t ≡ w ∷ []
    → is_whole_layout (physical_type_of t) ≡ true → IsWholeKind t
whole_kind t w n known stored field values layout = record {
  numbers = w;
  native = n;
  whole = known;
  stored = stored;
  field = field;
  values = values;
  layout = layout;
}

-- decimals have a rule of their own
other_rule : (operation : Option DecimalOperation) (form : Option DecimalForm)
    → decimal_rule operation form ≡ Some WholeNumbers → ⊥
other_rule (Some operation) (Some form) h = cc
other_rule (Some operation) None h = cc
other_rule None form h = cc

-- a step by the rule of whole numbers has two operands of one such type
pub taken_kind : (op : Op) (s t : DataKind) → rule_of op s t ≡ Some WholeNumbers
    → (s ≡ t) × IsWholeKind s
taken_kind op kind.int8 kind.int8 h =
    (refl, whole_kind kind.int8 (signed w8) primitive.Int8 refl refl refl refl refl)
taken_kind op kind.int16 kind.int16 h =
    (refl, whole_kind kind.int16 (signed w16) primitive.Int16 refl refl refl refl refl)
taken_kind op kind.int32 kind.int32 h =
    (refl, whole_kind kind.int32 (signed w32) primitive.Int32 refl refl refl refl refl)
taken_kind op kind.int64 kind.int64 h =
    (refl, whole_kind kind.int64 (signed w64) primitive.Int64 refl refl refl refl refl)
taken_kind op kind.uint8 kind.uint8 h =
    (refl, whole_kind kind.uint8 (unsigned w8) primitive.UInt8 refl refl refl refl refl)
taken_kind op kind.uint16 kind.uint16 h =
    (refl, whole_kind kind.uint16 (unsigned w16) primitive.UInt16 refl refl refl refl refl)
taken_kind op kind.uint32 kind.uint32 h =
    (refl, whole_kind kind.uint32 (unsigned w32) primitive.UInt32 refl refl refl refl refl)
taken_kind op kind.uint64 kind.uint64 h =
    (refl, whole_kind kind.uint64 (unsigned w64) primitive.UInt64 refl refl refl refl refl)
taken_kind op (kind.decimal p s) (kind.decimal q t) h =
    absurd (other_rule (decimal_operation (operation_of op)) (decimal_form (form_of op)) h)
taken_kind op _ _ h = absurd cc

-- what is stored as a native type of one field holds whole numbers of that field's type, where a
-- step takes it as such
pub whole_type_of-rule : (op : Op) (s t : DataKind) (native : PrimitiveType) (w : WholeType)
    → rule_of op s t ≡ Some WholeNumbers → IsStoredAs s native → fields_of native ≡ w ∷ []
    → whole_type_of s ≡ Some w
whole_type_of-rule op s t native w h stored fields =
    let k = (taken_kind op s t h).1 in
    let layout : physical.Primitive k.native ≡ physical.Primitive native = sym k.stored ∙ stored in
    let same : k.native ≡ native = cc in
    let first : fields_of k.native ≡ fields_of native = ap fields_of same in
    let number : k.numbers ≡ w = cc (first, k.field, fields) in
    k.whole ∙ ap Some number

-- the layouts of its operands are one, and hold whole numbers
pub layouts-rule : (op : Op) (s t : DataKind) (left right : PhysicalType)
    → rule_of op s t ≡ Some WholeNumbers → physical_type_of s ≡ left → physical_type_of t ≡ right
    → (left ≡ right) × (is_whole_layout left ≡ true)
layouts-rule op s t left right h stored other =
    let k = taken_kind op s t h in
    (sym stored ∙ ap physical_type_of k.0 ∙ other, rw stored at k.1.layout)

-- a step on two columns of whole numbers is what the kernel answers
pub step_answer-whole : (op : Op) (l r : Column) (w : WholeType)
    → rule_of op l.data_type r.data_type ≡ Some WholeNumbers
    → whole_type_of l.data_type ≡ Some w
    → step_answer op l r ≡ kernel_answer (whole_step (operation_of op) (form_of op) w) l r
step_answer-whole op l r w h g = rw (h, g) refl

-- a column of one cell is as long as the one that it stands beside
pub row_count-constant : (t : DataKind) (c : Cell) (l : Column)
    → row_count l ≡ row_count (constant_column t c l)
row_count-constant t c l = sym (length-replicate (row_count l) c)

-- a step on a column of whole numbers and one of them is what the kernel answers
pub scalar_step_answer-whole : (op : Op) (l : Column) (t : DataKind) (c : Cell) (w : WholeType)
    → rule_of op l.data_type t ≡ Some WholeNumbers → whole_type_of l.data_type ≡ Some w
    → scalar_step_answer op l t c ≡ scalar_answer (whole_step (operation_of op) (form_of op) w) l c
scalar_step_answer-whole op l t c w h g =
    let e = eq-eqb (row_count l) (row_count (constant_column t c l)) (row_count-constant t c l) in
    rw (h, g, e) refl

-- a step beside a null gives null
typed_step-null : (op : Op) (t : Option WholeType) (a : Cell) → typed_step op t a null ≡ Ok null
typed_step-null op None a = refl
typed_step-null op (Some t) (whole n) = refl
typed_step-null op (Some t) _ = refl

-- each row is null beside a null
each_row-null : (op : Op) (t : Option WholeType) (cells : List Cell)
    → each_row (typed_step op t) cells (replicate (length cells) null) ≡ Ok
    (replicate (length cells) null)
each_row-null op t [] = refl
each_row-null op t (c ∷ cells) = rw (typed_step-null op t c, each_row-null op t cells) refl

-- a step on a column of whole numbers and a null gives nulls
pub scalar_step_answer-null : (op : Op) (l : Column) (t : DataKind)
    → rule_of op l.data_type t ≡ Some WholeNumbers
    → scalar_step_answer op l t null ≡ Ok
    (record { data_type = l.data_type; cells = replicate (row_count l) null })
scalar_step_answer-null op l t h =
    let e = eq-eqb (row_count l) (row_count (constant_column t null l))
    (row_count-constant t null l) in
    rw (h, e, each_row-null op (whole_type_of l.data_type) l.cells) refl

-- a step on whole numbers gives a cell of their type
pub typed_step-cell : (op : Op) (s : DataKind) (w : WholeType) (a b c : Cell)
    → value_fields s ≡ w ∷ [] → typed_step op (Some w) a b ≡ Ok c → is_cell_of s c ≡ true
typed_step-cell op s w a b c h g =
    elim (forms.typed_step (operation_of op) (form_of op) w a b c g) [
      | inl is_null ↦ rw is_null refl
      | inr fits ↦ rw (fits.1.0, h) fits.1.1
    ]

-- the cell of a slot with one number
pub slot_cell-number : {T : Type 0} (numbers : T → List ℤ) (value : T → ℤ) (x : T)
    (slot : Option (List ℤ)) → ((y : T) → numbers y ≡ value y ∷ [])
    → option_map numbers (Some x) ≡ slot → slot_cell slot ≡ whole (value x)
slot_cell-number numbers value x slot law h = rw (← h, law x) refl

-- the cell of an empty slot
pub slot_cell-none : {T : Type 0} (numbers : T → List ℤ) (slot : Option (List ℤ))
    → option_map numbers None ≡ slot → slot_cell slot ≡ null
slot_cell-none numbers slot h = rw (← h) refl
