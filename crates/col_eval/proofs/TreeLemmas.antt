-- Facts on trees: their levels, their types, and which steps refuse a row.
use Rattle.std.proofs.Common.{◌≡◌, ◌≢◌, ℕ, ◌+◌, ◌≤◌, Bool, false, List, Result, Ok, Err, IsOk}
use Rattle.std.proofs.Common.{refl, arith}
use Rattle.col_model.specs.Cell.{Cell, Cause}
use Rattle.col_types.specs.DataKind.{DataKind}
use Rattle.col_types.specs.declared.error.Error.{Error}
use Rattle.col_array.specs.declared.any_scalar.AnyScalar.{AnyScalar}
use Rattle.col_eval.specs.declared.expr.Op.{Op}
use Rattle.col_eval.specs.declared.expr.Expr.{Expr, Column, Literal, Step'}
use Rattle.col_eval.specs.Tree.{Tree, column, literal, step, level_count, step_count, tree_of}
use Rattle.col_eval.specs.Typing.{is_literal, right_type, step_type}
use Rattle.col_eval.specs.Meaning.{RowAnswer, cell, refused_at, at_step, row_meaning}
use Rattle.col_eval.proofs.GatherLemmas.{IsBelow, row_step}

-- each tree has a level
pub level_count-positive : (tree : Tree) → 1 ≤ level_count tree
level_count-positive (column position) = omega arith
level_count-positive (literal t c) = omega arith
level_count-positive (step op left right) = omega arith

-- the step itself refuses at its own number
IsBelow-at_step : (number : ℕ) (r : Result Cell Cause) → IsBelow (number + 1) (at_step number r)
IsBelow-at_step number (Ok c) = tt
IsBelow-at_step number (Err cause) = omega arith

-- a step's refusals come from the steps of its operands or from itself
IsBelow-row_step : (m n : ℕ) (s : Cell → Cell → Result Cell Cause) (a b : RowAnswer) → IsBelow m a
    → IsBelow n b → IsBelow (m + n + 1) (row_step m n s a b)
IsBelow-row_step m n s (cell x) (cell y) ha hb = IsBelow-at_step (m + n) (s x y)
IsBelow-row_step m n s (cell x) (refused_at k c) ha hb = omega arith
IsBelow-row_step m n s (refused_at k c) b ha hb = omega arith

-- a tree refuses a row at one of its own steps
pub IsBelow-row_meaning : (tree : Tree) (types : List DataKind) (cells : List Cell)
    → IsBelow (step_count tree) (row_meaning tree types cells)
IsBelow-row_meaning (column position) types cells = tt
IsBelow-row_meaning (literal t c) types cells = tt
IsBelow-row_meaning (step op left right) types cells =
    IsBelow-row_step (step_count left) (step_count right) _ (row_meaning left types cells)
    (row_meaning right types cells) (IsBelow-row_meaning left types cells)
    (IsBelow-row_meaning right types cells)

-- an operand that is no literal has its own type
pub right_type-own : (e : Expr) (own : Result DataKind Error) → ((s : AnyScalar) → e ≢ Literal s)
    → right_type (tree_of e) own ≡ own
right_type-own (Column position) own h = refl
right_type-own (Literal scalar) own h = absurd (h scalar refl)
right_type-own (Step' op p left q right) own h = refl

-- and it is no literal
pub is_literal-other : (e : Expr) → ((s : AnyScalar) → e ≢ Literal s)
    → is_literal (tree_of e) ≡ false
is_literal-other (Column position) h = refl
is_literal-other (Literal scalar) h = absurd (h scalar refl)
is_literal-other (Step' op p left q right) h = refl

-- a step that has a type has a left operand with a type
pub IsOk-left : (op : Op) (b : Bool) (s t : Result DataKind Error) → IsOk (step_type op b s t)
    → IsOk s
IsOk-left op b (Ok s) t h = refl
IsOk-left op b (Err e) t h = h

-- and a right operand with a type
pub IsOk-right : (op : Op) (b : Bool) (s t : Result DataKind Error) → IsOk (step_type op b s t)
    → IsOk t
IsOk-right op b (Ok s) (Ok t) h = refl
IsOk-right op b (Ok s) (Err e) h = h
IsOk-right op b (Err e) (Ok t) h = refl
IsOk-right op b (Err e) (Err d) h = h
