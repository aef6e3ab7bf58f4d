-- What an operand of a step gives: a column that the table lends, or a new one.
use Rattle.std.specs.Prelude.{List, Result}
use Rattle.either.specs.declared.Either.{Either}
use Rattle.either.specs.declared.Either.TheVariants.{Left, Right}
use denote.Ref.{Bor}
use Rattle.col_types.specs.Column.{Column, types_of}
use Rattle.col_types.specs.declared.error.Error.{Error}
use Rattle.col_array.specs.Any.{any_column}
use Rattle.col_array.specs.declared.any.AnyArray.{AnyArray}
use Rattle.col_eval.specs.Tree.{Tree}
use Rattle.col_eval.specs.Typing.{type_of}
use Rattle.col_eval.specs.Meaning.{rows_meaning, typed_rows}

-- the column of an operand, lent or new
abbrev pub operand_column : Either (Bor AnyArray) AnyArray → Column
operand_column (Left column) = any_column column.now
operand_column (Right array) = any_column array

-- what a tree of any number of levels gives for a table
abbrev pub operand_outcome : Tree → List Column → Result Column Error
operand_outcome tree table = typed_rows (type_of tree (types_of table)) (rows_meaning tree table)
