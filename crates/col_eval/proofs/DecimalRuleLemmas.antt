-- What the rule of decimals says, and what steps answer by it.
use Rattle.std.proofs.Common.{◌≡◌, ℕ, ◌≤◌, Bool, true, false, cond, Option, None, Some}
use Rattle.std.proofs.Common.{Result, Ok, Err, refl, sym, ap, ◌∙◌, eq-eqb, arith}
use Rattle.std.proofs.lemmas.Bool.{and_parts}
use Rattle.std.proofs.lemmas.Bool.Decides.{nat_tests}
use Rattle.col_model.specs.Cell.{Cell, null, whole, Cause}
use Rattle.col_model.specs.WholeStep.{Form, plain, checked, wrapping, saturating}
use Rattle.col_types.specs.CellOf.{is_cell_of}
use Rattle.col_types.specs.Column.{Column, row_count, scalar_answer}
use Rattle.col_types.specs.DataKind.{DataKind}
use Rattle.col_types.specs.DataKind as kind
use Rattle.col_types.specs.DataType.{is_fitting_decimal, is_fitting_kind, physical_type_of}
use Rattle.col_types.specs.declared.datatypes.physical_type.PhysicalType.{PhysicalType}
use Rattle.col_types.specs.declared.datatypes.physical_type.PhysicalType.TheVariants as physical
use Rattle.col_types.specs.declared.datatypes.physical_type.PrimitiveType.TheVariants as primitive
use Rattle.col_types.specs.declared.error.Error.{Error}
use Rattle.col_types.specs.declared.error.Error.TheVariants.{InvalidArgumentError}
use Rattle.col_types.specs.declared.error.Reason.TheVariants.{Parameters}
use Rattle.col_decimal.specs.Decimal.{has_parameters_of, precision_of, scale_of}
use Rattle.col_decimal.specs.DecimalStep.{DecimalForm, DecimalOperation, decimal_step}
use Rattle.col_decimal.specs.DecimalStep as decimals
use Rattle.col_decimal.proofs.PrecisionLemmas.{IsNullOrWithin, given_cell, within-fits}
use Rattle.col_eval.specs.declared.entries.Rule.TheVariants.{Decimals}
use Rattle.col_eval.specs.declared.expr.Op.{Op}
use Rattle.col_eval.specs.Entries.{beside_literal, decimal_cell, decimal_form}
use Rattle.col_eval.specs.Entries.{decimal_operation, decimal_rule, decimal_type, form_of}
use Rattle.col_eval.specs.Entries.{is_plain_form, operation_of, rule_of}
use Rattle.col_eval.specs.Steps.{constant_column, decimals_answer, decimals_scalar_answer}
use Rattle.col_eval.specs.Steps.{entry_answer, rows_answer, scalar_step_answer, step_answer}
use Rattle.col_eval.specs.Steps.{with_type}
use Rattle.col_eval.proofs.RuleLemmas.{row_count-constant}

-- a step by the rule of decimals has two of them, and a kernel
pub record IsTaken (op : Op) (s t : DataKind) : Type 0 where
  pub precision : ℕ
  pub scale : ℕ
  pub other_precision : ℕ
  pub other_scale : ℕ
  pub left : s ≡ kind.decimal precision scale
  pub right : t ≡ kind.decimal other_precision other_scale
  pub known : decimal_rule (decimal_operation (operation_of op)) (decimal_form (form_of op))
      ≡ Some Decimals

-- the rule says so
pub taken_decimals : (op : Op) (s t : DataKind) → rule_of op s t ≡ Some Decimals
    → IsTaken op s t
taken_decimals op (kind.decimal p a) (kind.decimal q b) h = record {
  precision = p;
  scale = a;
  other_precision = q;
  other_scale = b;
  left = refl;
  right = refl;
  known = h;
}
taken_decimals op kind.int8 kind.int8 h = absurd cc
taken_decimals op kind.int16 kind.int16 h = absurd cc
taken_decimals op kind.int32 kind.int32 h = absurd cc
taken_decimals op kind.int64 kind.int64 h = absurd cc
taken_decimals op kind.uint8 kind.uint8 h = absurd cc
taken_decimals op kind.uint16 kind.uint16 h = absurd cc
taken_decimals op kind.uint32 kind.uint32 h = absurd cc
taken_decimals op kind.uint64 kind.uint64 h = absurd cc
taken_decimals op _ _ h = absurd cc

-- the layouts of its operands
pub layouts-decimals : (op : Op) (s t : DataKind) (left right : PhysicalType)
    → rule_of op s t ≡ Some Decimals → physical_type_of s ≡ left → physical_type_of t ≡ right
    → (left ≡ physical.Primitive primitive.Int128) × (right ≡ physical.Primitive primitive.Int128)
layouts-decimals op s t left right h stored other =
    let k = taken_decimals op s t h in
    (sym stored ∙ ap physical_type_of k.left, sym other ∙ ap physical_type_of k.right)

-- what is answered with a type that may be refused
with_type-chosen : (b : Bool) (t : DataKind) (e : Error) (answer : DataKind → Result Column Error)
    → with_type (cond b (Ok t) (Err e)) answer ≡ cond b (answer t) (Err e)
with_type-chosen true t e answer = refl
with_type-chosen false t e answer = refl

-- the rows of two columns of decimals are what the kernel answers
answer-decimals : (operation : Option DecimalOperation) (form : Option DecimalForm) (l r : Column)
    → decimal_rule operation form ≡ Some Decimals → is_fitting_kind l.data_type ≡ true
    → with_type (decimal_type l.data_type r.data_type)
    (rows_answer (decimal_cell operation form l.data_type) l r)
    ≡ decimals_answer operation form l r
answer-decimals (Some operation) (Some form) l r h fits =
    rw fits (with_type-chosen (has_parameters_of l.data_type r.data_type) l.data_type
    (InvalidArgumentError Parameters)
    (rows_answer (decimal_cell (Some operation) (Some form) l.data_type) l r))
answer-decimals (Some operation) None l r h fits = absurd cc
answer-decimals None form l r h fits = absurd cc

-- a step on two columns of decimals is what the kernel answers
pub step_answer-decimals : (op : Op) (l r : Column)
    → rule_of op l.data_type r.data_type ≡ Some Decimals → is_fitting_kind l.data_type ≡ true
    → step_answer op l r
    ≡ decimals_answer (decimal_operation (operation_of op)) (decimal_form (form_of op)) l r
step_answer-decimals op l r h fits =
    rw h (answer-decimals (decimal_operation (operation_of op)) (decimal_form (form_of op)) l r
    (taken_decimals op l.data_type r.data_type h).known fits)

-- the rows of a column beside one cell
rows_answer-constant : (step : Cell → Cell → Result Cell Cause) (l : Column) (t : DataKind)
    (c : Cell) → rows_answer step l (constant_column t c l) l.data_type ≡ scalar_answer step l c
rows_answer-constant step l t c =
    let e = eq-eqb (row_count l) (row_count (constant_column t c l)) (row_count-constant t c l) in
    rw e refl

-- the rows of a column of decimals beside one cell are what the kernel answers, where the form is
-- plain; else there is no row
scalar-decimals : (operation : Option DecimalOperation) (form : Form) (l : Column) (t : DataKind)
    (c : Cell) → decimal_rule operation (decimal_form form) ≡ Some Decimals
    → is_fitting_kind l.data_type ≡ true
    → entry_answer (beside_literal (Some (record {
      takes_literal = is_plain_form form;
      answer_type = decimal_type l.data_type t;
      step = decimal_cell operation (decimal_form form) l.data_type;
    }))) l (constant_column t c l)
    ≡ decimals_scalar_answer operation (decimal_form form) l t c
scalar-decimals (Some operation) plain l t c h fits =
    let step = decimal_step operation decimals.plain (precision_of l.data_type)
    (scale_of l.data_type) in
    let chosen = λ (answer : Result Column Error).
    cond (has_parameters_of l.data_type t) answer (Err (InvalidArgumentError Parameters)) in
    rw fits (with_type-chosen (has_parameters_of l.data_type t) l.data_type
    (InvalidArgumentError Parameters) (rows_answer step l (constant_column t c l))
    ∙ ap chosen (rows_answer-constant step l t c))
scalar-decimals (Some operation) checked l t c h fits = refl
scalar-decimals (Some operation) saturating l t c h fits = refl
scalar-decimals (Some operation) wrapping l t c h fits = absurd cc
scalar-decimals None form l t c h fits = absurd cc

-- a step on a column of decimals and one value is what the kernel answers
pub scalar_step_answer-decimals : (op : Op) (l : Column) (t : DataKind) (c : Cell)
    → rule_of op l.data_type t ≡ Some Decimals → is_fitting_kind l.data_type ≡ true
    → scalar_step_answer op l t c
    ≡ decimals_scalar_answer (decimal_operation (operation_of op)) (decimal_form (form_of op)) l t
    c
scalar_step_answer-decimals op l t c h fits =
    rw h (scalar-decimals (decimal_operation (operation_of op)) (form_of op) l t c
    (taken_decimals op l.data_type t h).known fits)

-- null and a number of at most 38 digits are cells of a decimal type
within-cell : (precision scale : ℕ) (c : Cell) → precision ≤ 38 → IsNullOrWithin precision c
    → is_cell_of (kind.decimal precision scale) c ≡ true
within-cell precision scale null small h = refl
within-cell precision scale (whole n) small h = within-fits precision n small h
within-cell precision scale _ small h = absurd h

-- parameters that fit have at most 38 digits
few_digits : (precision scale : ℕ) → is_fitting_decimal precision scale ≡ true → precision ≤ 38
few_digits precision scale h = grind (arith, nat_tests)

-- a step on decimals whose parameters fit gives a cell of their type
pub decimal_cell-typed : (operation : Option DecimalOperation) (form : Option DecimalForm)
    (precision scale : ℕ) (a b c : Cell) → is_fitting_decimal precision scale ≡ true
    → decimal_cell operation form (kind.decimal precision scale) a b ≡ Ok c
    → is_cell_of (kind.decimal precision scale) c ≡ true
decimal_cell-typed (Some operation) (Some form) precision scale a b c fits h =
    within-cell precision scale c (few_digits precision scale fits)
    (given_cell operation form precision scale a b c h)
decimal_cell-typed (Some operation) None precision scale a b c fits h =
    let same : null ≡ c = cc in rw (← same) refl
decimal_cell-typed None form precision scale a b c fits h =
    let same : null ≡ c = cc in rw (← same) refl

-- the type of what a step on decimals gives is the left one, and its parameters fit
pub decimal_type-left : (s t u : DataKind) → decimal_type s t ≡ Ok u
    → (is_fitting_kind s ≡ true) × (s ≡ u)
decimal_type-left s t u h =
    let parts = by_test _ h in
    ((and_parts (is_fitting_kind s) (has_parameters_of s t) parts.0).0, parts.1)
  where
    by_test : (b : Bool)
        → cond b (Ok s) (Err (InvalidArgumentError Parameters)) ≡ Ok u → (b ≡ true) × (s ≡ u)
    by_test true h = (refl, cc)
    by_test false h = absurd cc
