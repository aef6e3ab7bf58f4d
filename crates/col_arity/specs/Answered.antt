-- What the closure of a kernel answers for its values, as the cell or the refusal of its row.
use Rattle.std.specs.Prelude.{Bool, List, Option, Some, None, Result, Ok, Err}
use Rattle.col_model.specs.Cell.{Cell, null}
use Rattle.col_types.specs.Column.{Column}
use Rattle.col_types.specs.declared.error.Error.{Error}

-- a value's cell, or the refusal
abbrev pub plain_cell : {T : Type 0} → (T → Cell) → Result T Error → Result Cell Error
plain_cell cell (Ok x) = Ok (cell x)
plain_cell cell (Err e) = Err e

-- a value's cell, or null where there is none
abbrev pub checked_cell : {T : Type 0} → (T → Cell) → Option T → Result Cell Error
checked_cell cell (Some x) = Ok (cell x)
checked_cell cell None = Ok null

-- an answer's column, and flags beside it
abbrev pub beside_flags : List Bool → Result Column Error → Result (Column × List Bool) Error
beside_flags flags (Ok c) = Ok (c, flags)
beside_flags flags (Err e) = Err e
