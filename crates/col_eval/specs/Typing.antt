-- The type of a tree over the types of a table's columns: rows are not looked at.
use Rattle.std.specs.Prelude.{ℕ, nat_lt, Bool, true, false, if◌then◌else◌, List, slice_get}
use Rattle.std.specs.Prelude.{Result, Ok, Err}
use Rattle.std.specs.Option.{ok_or}
use Rattle.col_types.specs.DataKind.{DataKind}
use Rattle.col_types.specs.declared.error.Error.{Error}
use Rattle.col_types.specs.declared.error.Error.TheVariants.{InvalidArgumentError}
use Rattle.col_types.specs.declared.error.Error.TheVariants.{NotYetImplemented}
use Rattle.col_types.specs.declared.error.Reason.TheVariants.{Depth, Position}
use Rattle.col_eval.specs.declared.expr.Op.{Op}
use Rattle.col_eval.specs.Entries.{entry_of, entry_type}
use Rattle.col_eval.specs.Tree.{Tree, column, literal, step, level_count}

-- the most levels that a tree with a type has
abbrev pub max_levels : ℕ
max_levels = 256

-- a literal has a type as the right operand of a step; any other right operand has its own answer
abbrev pub right_type : Tree → Result DataKind Error → Result DataKind Error
right_type (literal t c) own = Ok t
right_type (column position) own = own
right_type (step op left right) own = own

-- one value for all rows
abbrev pub is_literal : Tree → Bool
is_literal (literal t c) = true
is_literal (column position) = false
is_literal (step op left right) = false

-- the refusal of the left operand, else that of the right one, else what the table of steps says;
-- there it counts whether the right operand is a literal
abbrev pub step_type : Op → Bool → Result DataKind Error → Result DataKind Error
    → Result DataKind Error
step_type op beside_literal (Err e) right = Err e
step_type op beside_literal (Ok s) (Err e) = Err e
step_type op beside_literal (Ok s) (Ok t) = entry_type beside_literal (entry_of op s t)

-- the type of a tree of any number of levels
abbrev pub type_of : Tree → List DataKind → Result DataKind Error
type_of (column position) types = ok_or (slice_get types position) (InvalidArgumentError Position)
type_of (literal t c) types = Err NotYetImplemented
type_of (step op left right) types =
    step_type op (is_literal right) (type_of left types) (right_type right (type_of right types))

-- the type of a tree: refused first where it has more than 256 levels
abbrev pub typing_of : Tree → List DataKind → Result DataKind Error
typing_of tree types =
    if nat_lt max_levels (level_count tree) then Err (InvalidArgumentError Depth)
    else type_of tree types
