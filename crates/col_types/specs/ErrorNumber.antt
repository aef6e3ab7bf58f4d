-- The numbers of the errors.
use Rattle.std.specs.Prelude.{ℕ}
use Rattle.col_types.specs.declared.error.Error.{Error}
use Rattle.col_types.specs.declared.error.Error.TheVariants.{Memory, NotYetImplemented}
use Rattle.col_types.specs.declared.error.Error.TheVariants.{InvalidArgumentError, Overflow}
use Rattle.col_types.specs.declared.error.Error.TheVariants.{DivideByZero, OutOfRange, OutOfSpec}

-- the variants in their order, from 1
abbrev pub error_number : Error → ℕ
error_number Memory = 1
error_number NotYetImplemented = 2
error_number (InvalidArgumentError reason) = 3
error_number Overflow = 4
error_number DivideByZero = 5
error_number OutOfRange = 6
error_number OutOfSpec = 7
