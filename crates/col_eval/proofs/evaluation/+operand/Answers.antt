use Rattle.std.proofs.Common.{◌∙◌, sym}
use Rattle.std.proofs.lemmas.Result.{err_from_is_err_and}
use Rattle.col_array.specs.Any.{any_column, scalar_type, scalar_cell}
use Rattle.col_eval.specs.Operand.{operand_column}
use Rattle.col_eval.specs.Tree.{tree_of}
use Rattle.col_types.proofs.AnswerLemmas.{UnlessMemory-weaker}
use Rattle.col_eval.proofs.OperandLemmas.{operand_outcome-column, operand_outcome-columns}
use Rattle.col_eval.proofs.OperandLemmas.{operand_outcome-scalar, operand_outcome-left}
use Rattle.col_eval.proofs.OperandLemmas.{operand_outcome-right}
use Rattle.col_eval.proofs.TreeLemmas.{right_type-own}
use Rattle.col_eval.proofs.evaluation.+operand.Goals as goal

pub returns-in-Column : goal.returns-in-Column
returns-in-Column t c =
    rw c.in-Column.is (operand_outcome-column c.args.table.now c.in-Column.position _
    c.column.ensures.one_length c.column.ensures.value)

pub returns-in_err-lhs-in-Step : goal.returns-in_err-lhs-in-Step
returns-in_err-lhs-in-Step t c =
    let p = err_from_is_err_and c.from_residual.result c.from_residual.ensures.1 in
    let typed = rw c.in-Step.is at c.requires in
    rw (p.1, p.2, c.in-Step.is)
    (UnlessMemory-weaker _
    (operand_outcome-left c.in-Step.op (tree_of c.in-Step.lhs.value)
    (tree_of c.in-Step.rhs.value) c.args.table.now _ typed)
    (rw c.deref.ensures at c.in_err-lhs-in-Step.ensures))

pub returns-in_err-step_scalar-in-Literal-deref : goal.returns-in_err-step_scalar-in-Literal-deref
returns-in_err-step_scalar-in-Literal-deref t c =
    let p = err_from_is_err_and c.from_residual-in_err-step_scalar-in-Literal-deref.result
    c.from_residual-in_err-step_scalar-in-Literal-deref.ensures.1 in
    let right = sym c.deref-in-Step.ensures ∙ c.in-Literal-deref.is in
    let typed = rw (c.in-Step.is, right) at c.requires in
    let left = rw (c.deref.ensures, ← c.lent.ensures) at c.in_ok-lhs-in-Step.ensures in
    rw (
      p.1,
      p.2,
      c.in-Step.is,
      right,
      operand_outcome-scalar c.in-Step.op
          (tree_of c.in-Step.lhs.value) (scalar_type c.in-Literal-deref.scalar)
          (scalar_cell c.in-Literal-deref.scalar) c.args.table.now
          (any_column c.lent.result.now) typed left,
    )
    c.in_err-step_scalar-in-Literal-deref.ensures

pub returns-in-Literal-deref : goal.returns-in-Literal-deref
returns-in-Literal-deref t c =
    let right = sym c.deref-in-Step.ensures ∙ c.in-Literal-deref.is in
    let typed = rw (c.in-Step.is, right) at c.requires in
    let left = rw (c.deref.ensures, ← c.lent.ensures) at c.in_ok-lhs-in-Step.ensures in
    rw (c.in-Step.is, right)
    (operand_outcome-scalar c.in-Step.op (tree_of c.in-Step.lhs.value)
    (scalar_type c.in-Literal-deref.scalar)
    (scalar_cell c.in-Literal-deref.scalar) c.args.table.now
    (any_column c.lent.result.now) typed left
    ∙ c.in_ok-step_scalar-in-Literal-deref.ensures)

pub returns-in_err-rhs-in_default : goal.returns-in_err-rhs-in_default
returns-in_err-rhs-in_default t c =
    let p = err_from_is_err_and c.from_residual-in_err-rhs-in_default.result
    c.from_residual-in_err-rhs-in_default.ensures.1 in
    let typed = rw (c.in-Step.is, ← c.deref-in-Step.ensures) at c.requires in
    let left = rw c.deref.ensures at c.in_ok-lhs-in-Step.ensures in
    rw (p.1, p.2, c.in-Step.is, ← c.deref-in-Step.ensures)
    (UnlessMemory-weaker _
    (operand_outcome-right c.in-Step.op (tree_of c.in-Step.lhs.value)
    (tree_of c.deref-in-Step.result.now) c.args.table.now
    (operand_column c.in_ok-lhs-in-Step.lhs) _ typed
    (right_type-own c.deref-in-Step.result.now _ c.in_default.not-Literal) left)
    c.in_err-rhs-in_default.ensures)

pub returns-in_err-step-in_default : goal.returns-in_err-step-in_default
returns-in_err-step-in_default t c =
    let p = err_from_is_err_and c.from_residual-in_err-step-in_default.result
    c.from_residual-in_err-step-in_default.ensures.1 in
    let typed = rw (c.in-Step.is, ← c.deref-in-Step.ensures) at c.requires in
    let left = rw (c.deref.ensures, ← c.lent-in_default.ensures) at c.in_ok-lhs-in-Step.ensures in
    let right = rw (← c.lent-in_default-2.ensures) at c.in_ok-rhs-in_default.ensures in
    rw (
      p.1,
      p.2,
      c.in-Step.is,
      ← c.deref-in-Step.ensures,
      operand_outcome-columns c.in-Step.op
          (tree_of c.in-Step.lhs.value) (tree_of c.deref-in-Step.result.now) c.args.table.now
          (any_column c.lent-in_default.result.now)
          (any_column c.lent-in_default-2.result.now) typed
          (right_type-own c.deref-in-Step.result.now _ c.in_default.not-Literal) left
          right,
    ) c.in_err-step-in_default.ensures

pub returns : goal.returns
returns t c =
    let typed = rw (c.in-Step.is, ← c.deref-in-Step.ensures) at c.requires in
    let left = rw (c.deref.ensures, ← c.lent-in_default.ensures) at c.in_ok-lhs-in-Step.ensures in
    let right = rw (← c.lent-in_default-2.ensures) at c.in_ok-rhs-in_default.ensures in
    rw (c.in-Step.is, ← c.deref-in-Step.ensures)
    (operand_outcome-columns c.in-Step.op (tree_of c.in-Step.lhs.value)
    (tree_of c.deref-in-Step.result.now) c.args.table.now
    (any_column c.lent-in_default.result.now)
    (any_column c.lent-in_default-2.result.now) typed
    (right_type-own c.deref-in-Step.result.now _ c.in_default.not-Literal) left
    right ∙ c.in_ok-step-in_default.ensures)
