-- What a call that may want memory answers.
use Rattle.std.specs.Prelude.{◌≡◌, ◌↔◌, Result, Ok, Err, ⊤}
use Rattle.col_model.specs.Cell.{Cause, overflow, divide_by_zero, out_of_range, out_of_spec}
use Rattle.col_model.specs.Cell.{row_length}
use Rattle.col_types.specs.declared.error.Error.{Error}
use Rattle.col_types.specs.declared.error.Error.TheVariants.{Memory, InvalidArgumentError, Overflow}
use Rattle.col_types.specs.declared.error.Error.TheVariants.{DivideByZero, OutOfRange, OutOfSpec}
use Rattle.col_types.specs.declared.error.Reason.TheVariants.{RowLength}

-- the fact, for each answer but want of memory: that one is free
abbrev pub UnlessMemory : Error → Type 0 → Type 0
UnlessMemory Memory fact = ⊤
UnlessMemory _ fact = fact

-- the fact, but for want of memory
abbrev pub ButForMemory : {X : Type 0} → Result X Error → Type 0 → Type 0
ButForMemory (Ok x) fact = fact
ButForMemory (Err e) fact = UnlessMemory e fact

-- the call refuses so exactly where the fact holds, but for want of memory
abbrev pub RefusedWhere : {X : Type 0} → Result X Error → Error → Type 0 → Type 0
RefusedWhere r e fact = ButForMemory r ((r ≡ Err e) ↔ fact)

-- the answer, seen by a view, is the wanted one, but for want of memory
abbrev pub Answers : {X Y : Type 0} → (X → Y) → Result X Error → Result Y Error → Type 0
Answers view (Ok x) wanted = wanted ≡ Ok (view x)
Answers view (Err e) wanted = UnlessMemory e (wanted ≡ Err e)

-- want of memory is the only refusal
abbrev pub FailsByMemory : {X : Type 0} → Result X Error → Type 0
FailsByMemory (Ok x) = ⊤
FailsByMemory (Err e) = e ≡ Memory

-- the error that a call answers for a row's cause
abbrev pub error_of : Cause → Error
error_of overflow = Overflow
error_of divide_by_zero = DivideByZero
error_of out_of_range = OutOfRange
error_of out_of_spec = OutOfSpec
error_of row_length = InvalidArgumentError RowLength

-- a row's cause as the error that a call answers
abbrev pub as_errors : {X : Type 0} → Result X Cause → Result X Error
as_errors (Ok x) = Ok x
as_errors (Err cause) = Err (error_of cause)
