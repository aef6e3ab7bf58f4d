-- The table of steps: which operands a step takes, and what it gives for them.
use Rattle.std.specs.Prelude.{Bool, true, false, not, ◌&&◌, if◌then◌else◌, Option, Some, None}
use Rattle.std.specs.Prelude.{option_map}
use Rattle.std.specs.Prelude.{Result, Ok, Err}
use Rattle.col_model.specs.Cell.{Cell, null, Cause}
use Rattle.col_model.specs.Whole.{WholeType}
use Rattle.col_model.specs.WholeStep.{Operation, addition, subtraction, multiplication, division}
use Rattle.col_model.specs.WholeStep.{remainder, Form, plain, checked, wrapping, saturating}
use Rattle.col_model.specs.WholeStep.{whole_step}
use Rattle.col_types.specs.DataKind.{DataKind}
use Rattle.col_types.specs.DataKind as kind
use Rattle.col_types.specs.DataType.{is_fitting_kind, whole_type_of}
use Rattle.col_types.specs.declared.error.Error.{Error}
use Rattle.col_types.specs.declared.error.Error.TheVariants.{InvalidArgumentError}
use Rattle.col_types.specs.declared.error.Error.TheVariants.{NotYetImplemented}
use Rattle.col_types.specs.declared.error.Reason.TheVariants.{Parameters}
use Rattle.col_decimal.specs.Decimal.{has_parameters_of, precision_of, scale_of}
use Rattle.col_decimal.specs.DecimalStep.{DecimalOperation, DecimalForm, decimal_step}
use Rattle.col_decimal.specs.DecimalStep as decimals
use Rattle.col_eval.specs.declared.entries.Rule.{Rule}
use Rattle.col_eval.specs.declared.entries.Rule.TheVariants.{WholeNumbers, Decimals}
use Rattle.col_eval.specs.declared.expr.Op.{Op}
use Rattle.col_eval.specs.declared.expr.Op.TheVariants.{Add, WrappingAdd, CheckedAdd}
use Rattle.col_eval.specs.declared.expr.Op.TheVariants.{SaturatingAdd, Sub, WrappingSub, CheckedSub}
use Rattle.col_eval.specs.declared.expr.Op.TheVariants.{SaturatingSub, Mul, WrappingMul, CheckedMul}
use Rattle.col_eval.specs.declared.expr.Op.TheVariants.{SaturatingMul, Div, CheckedDiv, Rem}
use Rattle.col_eval.specs.declared.expr.Op.TheVariants.{CheckedRem}

-- what a step works out
abbrev pub operation_of : Op → Operation
operation_of Add = addition
operation_of WrappingAdd = addition
operation_of CheckedAdd = addition
operation_of SaturatingAdd = addition
operation_of Sub = subtraction
operation_of WrappingSub = subtraction
operation_of CheckedSub = subtraction
operation_of SaturatingSub = subtraction
operation_of Mul = multiplication
operation_of WrappingMul = multiplication
operation_of CheckedMul = multiplication
operation_of SaturatingMul = multiplication
operation_of Div = division
operation_of CheckedDiv = division
operation_of Rem = remainder
operation_of CheckedRem = remainder

-- what a step does where the number does not fit
abbrev pub form_of : Op → Form
form_of Add = plain
form_of WrappingAdd = wrapping
form_of CheckedAdd = checked
form_of SaturatingAdd = saturating
form_of Sub = plain
form_of WrappingSub = wrapping
form_of CheckedSub = checked
form_of SaturatingSub = saturating
form_of Mul = plain
form_of WrappingMul = wrapping
form_of CheckedMul = checked
form_of SaturatingMul = saturating
form_of Div = plain
form_of CheckedDiv = checked
form_of Rem = plain
form_of CheckedRem = checked

-- the same on decimals, which have no remainders
abbrev pub decimal_operation : Operation → Option DecimalOperation
decimal_operation addition = Some decimals.addition
decimal_operation subtraction = Some decimals.subtraction
decimal_operation multiplication = Some decimals.multiplication
decimal_operation division = Some decimals.division
decimal_operation remainder = None

-- the same on decimals, which do not wrap
abbrev pub decimal_form : Form → Option DecimalForm
decimal_form plain = Some decimals.plain
decimal_form wrapping = None
decimal_form checked = Some decimals.checked
decimal_form saturating = Some decimals.saturating

-- the form that refuses a row
abbrev pub is_plain_form : Form → Bool
is_plain_form plain = true
is_plain_form _ = false

-- a row of the table: whether the right operand may be a literal of a tree; the type of what the
-- step gives, or the refusal of the operands' types; and what it gives for two cells
pub record Entry : Type 0 where
  pub takes_literal : Bool
  pub answer_type : Result DataKind Error
  pub step : Cell → Cell → Result Cell Cause

-- the rule of decimals, where they have the operation in the form
abbrev pub decimal_rule : Option DecimalOperation → Option DecimalForm → Option Rule
decimal_rule (Some operation) (Some form) = Some Decimals
decimal_rule _ _ = None

-- the rule of a step on operands of two types, where it takes them: two whole numbers of one type,
-- or two decimals
abbrev pub rule_of : Op → DataKind → DataKind → Option Rule
rule_of op kind.int8 kind.int8 = Some WholeNumbers
rule_of op kind.int16 kind.int16 = Some WholeNumbers
rule_of op kind.int32 kind.int32 = Some WholeNumbers
rule_of op kind.int64 kind.int64 = Some WholeNumbers
rule_of op kind.uint8 kind.uint8 = Some WholeNumbers
rule_of op kind.uint16 kind.uint16 = Some WholeNumbers
rule_of op kind.uint32 kind.uint32 = Some WholeNumbers
rule_of op kind.uint64 kind.uint64 = Some WholeNumbers
rule_of op (kind.decimal precision scale) (kind.decimal other_precision other_scale) =
    decimal_rule (decimal_operation (operation_of op)) (decimal_form (form_of op))
rule_of op _ _ = None

-- a step on two cells of whole numbers of a type; no rule asks one of a column of anything else
abbrev pub typed_step : Op → Option WholeType → Cell → Cell → Result Cell Cause
typed_step op (Some t) a b = whole_step (operation_of op) (form_of op) t a b
typed_step op None a b = Ok null

-- a step on two cells of decimals of a type; no rule asks one without an operation and a form
abbrev pub decimal_cell : Option DecimalOperation → Option DecimalForm → DataKind → Cell → Cell
    → Result Cell Cause
decimal_cell (Some operation) (Some form) t a b =
    decimal_step operation form (precision_of t) (scale_of t) a b
decimal_cell _ _ t a b = Ok null

-- the type of what a step on decimals gives: both operands have its parameters, and these fit
abbrev pub decimal_type : DataKind → DataKind → Result DataKind Error
decimal_type s t =
    if is_fitting_kind s && has_parameters_of s t then Ok s
    else Err (InvalidArgumentError Parameters)

-- what a rule says of a step on operands of two types
abbrev pub entry_by : Rule → Op → DataKind → DataKind → Entry
entry_by WholeNumbers op s t = record {
  takes_literal = true;
  answer_type = Ok s;
  step = typed_step op (whole_type_of s);
}
entry_by Decimals op s t = record {
  takes_literal = is_plain_form (form_of op);
  answer_type = decimal_type s t;
  step = decimal_cell (decimal_operation (operation_of op)) (decimal_form (form_of op)) s;
}

-- the row of a step on operands of two types, where the step takes them
abbrev pub entry_of : Op → DataKind → DataKind → Option Entry
entry_of op s t = option_map (λ rule. entry_by rule op s t) (rule_of op s t)

-- the row beside a literal or a scalar, where it takes one
abbrev pub beside_literal : Option Entry → Option Entry
beside_literal None = None
beside_literal (Some entry) = if entry.takes_literal then Some entry else None

-- the type of what a step in a tree gives, its right operand being a literal or not: refused
-- without a row, and where the row takes no literal
abbrev pub entry_type : Bool → Option Entry → Result DataKind Error
entry_type is_literal None = Err NotYetImplemented
entry_type is_literal (Some entry) =
    if is_literal && not entry.takes_literal then Err NotYetImplemented else entry.answer_type

-- what a step gives for two cells; without a row the tree has no type, and no row is asked
abbrev pub entry_cell : Option Entry → Cell → Cell → Result Cell Cause
entry_cell None a b = Ok null
entry_cell (Some entry) a b = entry.step a b
