-- Trees of steps over the columns of a table.
use Rattle.std.specs.Prelude.{ℕ, ◌+◌, max}
use Rattle.col_model.specs.Cell.{Cell}
use Rattle.col_types.specs.DataKind.{DataKind}
use Rattle.col_array.specs.Any.{scalar_cell, scalar_type}
use Rattle.col_eval.specs.declared.expr.Op.{Op}
use Rattle.col_eval.specs.declared.expr.Expr.{Expr, Column, Literal, Step'}

-- a tree: the column at a position, one cell of a type for all rows, or a step on two trees
pub data Tree : Type 0 where
  column : ℕ → Tree
  literal : DataKind → Cell → Tree
  step : Op → Tree → Tree → Tree

-- the tree that an expression is
abbrev pub tree_of : Expr → Tree
tree_of (Column position) = column position
tree_of (Literal scalar) = literal (scalar_type scalar) (scalar_cell scalar)
tree_of (Step' op p left q right) = step op (tree_of left) (tree_of right)

-- a leaf has one level, and a step one more than the higher of its operands
abbrev pub level_count : Tree → ℕ
level_count (column position) = 1
level_count (literal t c) = 1
level_count (step op left right) = max (level_count left) (level_count right) + 1

-- how many steps a tree has
abbrev pub step_count : Tree → ℕ
step_count (column position) = 0
step_count (literal t c) = 0
step_count (step op left right) = step_count left + step_count right + 1
