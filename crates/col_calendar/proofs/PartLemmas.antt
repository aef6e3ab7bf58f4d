-- What a step that takes a part gives, and what a kernel answers whose closure takes it.
use Rattle.std.proofs.Common.{◌≡◌, ℕ, Bool, true, false, refl, ap, ℤ, ◌+ℤ◌, Ok, Err}
use Rattle.std.proofs.Common.{List, Option, Some, None, Result}
use Rattle.std.specs.Prelude.{◌&&◌, IfErr, IfOk}
use Rattle.col_model.specs.Cell.{Cell, Cause, null, out_of_range}
use Rattle.col_model.specs.WholeStep.{each_cell}
use Rattle.col_types.specs.Answer.{Answers, UnlessMemory, as_errors}
use Rattle.col_types.specs.Column.{Column, column_answer}
use Rattle.col_types.specs.DataKind.{DataKind}
use Rattle.col_types.specs.declared.error.Error.{Error}
use Rattle.col_types.specs.declared.error.Error.TheVariants.{InvalidArgumentError}
use Rattle.col_types.specs.declared.error.Reason.TheVariants.{Zone}
use Rattle.col_types.proofs.AnswerLemmas.{UnlessMemory-weaker}
use Rattle.col_flat.specs.Parts.{PrimitiveParts, column_of, slot_cell, slots_of}
use Rattle.col_arity.specs.Rows.{AnswersWith, IsMapped, RefusesWith}
use Rattle.col_arity.proofs.KernelLemmas.{AnswersStep, Refuses, RefusesStep, Values, singles}
use Rattle.col_arity.proofs.KernelLemmas.{values}
use Rattle.col_arity.proofs.StepLemmas.{cells_of_one, on_one, slots_made, slots_refused}
use Rattle.col_calendar.specs.Civil.{instant_at}
use Rattle.col_calendar.specs.Conversion.{is_civil}
use Rattle.col_calendar.specs.Offset.{zone_answer}
use Rattle.col_calendar.specs.Part.{Part, can_part, instant_step, offset_of_type, part_answer}
use Rattle.col_calendar.specs.Part.{part_cell, parts_by}
use Rattle.col_calendar.proofs.InstantLemmas.{instant-local}

and-false : (a : Bool) → (a && false) ≡ false
and-false true = refl
and-false false = refl

-- an instant that a clock shows on a day without a date is refused
pub instant_step-beyond : (p : Part) (s o l : ℤ) (n : ℕ) → l ≡ s +ℤ o
    → is_civil (instant_at l n) ≡ false
    → instant_step p o (instant_at s n) ≡ Err out_of_range
instant_step-beyond p s o l n e h =
    rw (instant-local s o n, ← e, h, and-false (is_civil (instant_at s n))) refl

-- one whose days have dates has the part that the clock shows
pub instant_step-within : (p : Part) (s o l : ℤ) (n : ℕ) → l ≡ s +ℤ o
    → is_civil (instant_at s n) ≡ true → is_civil (instant_at l n) ≡ true
    → instant_step p o (instant_at s n) ≡ Ok (part_cell p (instant_at l n))
instant_step-within p s o l n e g h = rw (instant-local s o n, ← e, g, h) refl

-- ---- a kernel whose closure takes a part

-- an answer that is no refusal is the step's
as_errors-ok : {X : Type 0} (r : Result X Cause) (x : X) → Ok x ≡ as_errors r → r ≡ Ok x
as_errors-ok (Ok y) x h = cc
as_errors-ok (Err cause) x h = cc

-- a refusal of the rows is that of their column
column_refused : (t : DataKind) (rows : Result (List Cell) Cause) (e : Error)
    → as_errors rows ≡ Err e → column_answer t rows ≡ Err e
column_refused t (Ok cells) e h = cc
column_refused t (Err cause) e h = cc

-- `try_unary` from the values of one native type to those of another, whose closure may refuse
pub try_to : {I O : Type 0} (u : Values I) (v : Values O) (step : Cell → Result Cell Cause)
    (left : PrimitiveParts) (t : DataKind) (result : Result PrimitiveParts Error)
    (answers : I → O → Type 0) (refuses : Error → I → Type 0)
    → step null ≡ Ok null
    → IfOk result (IsMapped t
    (AnswersWith u.numbers answers (λ r. Some (v.numbers r))) (slots_of left))
    → IfErr result (λ e. UnlessMemory e (Refuses u.numbers answers refuses (slots_of left) e))
    → AnswersStep (singles u step) (values v) answers → RefusesStep (singles u step) refuses
    → Answers column_of result (column_answer t (each_cell step (column_of left).cells))
try_to {I} {O} u v step left t (Ok array) answers refuses strict made refused sound stops =
    rw (
      cells_of_one step strict (slots_of left),
      slots_made (on_one step) _ answered (slots_of left) (slots_of array) made.rows,
      made.data_type,
    ) refl where
      answered : (n : List ℤ) (slot : Option (List ℤ))
          → AnswersWith u.numbers answers (λ r. Some (v.numbers r)) n slot
          → on_one step n ≡ Ok (slot_cell slot)
      answered n slot a =
          rw (← a.is_value, u.is_cell a.value, ← a.is_answer)
          (rw (v.is_cell a.answer) (as_errors-ok _ _ (sound a.value a.answer a.answers)))
try_to {I} {O} u v step left t (Err e) answers refuses strict made refused sound stops =
    UnlessMemory-weaker e
    (λ h. rw (cells_of_one step strict (slots_of left))
    (column_refused t _ e (slots_refused (on_one step) e _ _ cell_of stopped (slots_of left) h)))
    refused where
      cell_of : (n : List ℤ) (r : O) → AnswersWith u.numbers answers (λ r. r) n r
          → (c : Cell) × (on_one step n ≡ Ok c)
      cell_of n r a = (
        v.cell a.answer,
        rw (← a.is_value, u.is_cell a.value)
            (as_errors-ok _ _ (sound a.value a.answer a.answers)),
      )

      stopped : (n : List ℤ) → RefusesWith u.numbers (refuses e) n
          → Err e ≡ as_errors (on_one step n)
      stopped n a =
          rw (← a.is_value, u.is_cell a.value) (stops e a.value a.refused)

-- ---- what a column's type and zone say

-- a column of a type with the part is answered by its offset
pub part_answer-read : (p : Part) (c : Column) (offset : ℤ) → can_part p c.data_type ≡ true
    → zone_answer (offset_of_type c.data_type) ≡ Ok offset
    → part_answer p c ≡ parts_by p c (Some offset)
part_answer-read p c offset can h = by_zone _ refl h where
  by_zone : (o : Option ℤ) → offset_of_type c.data_type ≡ o → zone_answer o ≡ Ok offset
      → part_answer p c ≡ parts_by p c (Some offset)
  by_zone None is h = cc
  by_zone (Some seconds) is h = let same : seconds ≡ offset = cc in rw (can, is, same) refl

-- one whose zone is not read is refused
pub part_answer-unread : (p : Part) (c : Column) (e : Error) → can_part p c.data_type ≡ true
    → zone_answer (offset_of_type c.data_type) ≡ Err e → part_answer p c ≡ Err e
part_answer-unread p c e can h = by_zone _ refl h where
  by_zone : (o : Option ℤ) → offset_of_type c.data_type ≡ o → zone_answer o ≡ Err e
      → part_answer p c ≡ Err e
  by_zone None is h =
      let same : InvalidArgumentError Zone ≡ e = cc in rw (can, is) (ap Err same)
  by_zone (Some seconds) is h = cc
