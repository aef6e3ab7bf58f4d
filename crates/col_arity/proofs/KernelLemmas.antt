-- What a kernel answers whose closure answers a step on the values of a row.
use Rattle.std.proofs.Common.{◌≡◌, ◌≢◌, ◌⊎◌, ℤ, Bool, true, false, ◌==◌, List, [], ◌∷◌}
use Rattle.std.proofs.Common.{inl, inr, Option, Some, None, option_map, Result, Ok, Err}
use Rattle.std.proofs.Common.{map, refl, sym, ap, ◌∙◌, eq-eqb}
use Rattle.std.specs.Prelude.{IfOk, IfErr, zip}
use Rattle.std.proofs.lemmas.Bool.{eqb-true, eqb-false}
use Rattle.col_model.specs.Cell.{Cell, null, whole, Cause}
use Rattle.col_types.specs.Answer.{Answers, ButForMemory, FailsByMemory, RefusedWhere}
use Rattle.col_types.specs.Answer.{UnlessMemory, as_errors}
use Rattle.col_types.proofs.AnswerLemmas.{UnlessMemory-both, UnlessMemory-weaker}
use Rattle.col_types.specs.Column.{Column, column_answer, kernel_answer, row_count, scalar_answer}
use Rattle.col_types.specs.Column.{unary_answer}
use Rattle.col_types.specs.DataKind.{DataKind}
use Rattle.col_types.specs.declared.native.NativeType
use Rattle.col_types.specs.declared.native.NativeWhole
use Rattle.col_types.specs.declared.error.Error.{Error}
use Rattle.col_types.specs.declared.error.Error.TheVariants.{InvalidArgumentError}
use Rattle.col_types.specs.declared.error.Reason.TheVariants.{Lengths}
use Rattle.col_flat.specs.Parts.{PrimitiveParts, column_of, pair_numbers, slot_cell, slot_pairs}
use Rattle.col_flat.specs.Parts.{slots_of, value_cell}
use Rattle.col_arity.specs.Rows.{AnswersWith, IsLengths, IsMapped, IsMappedWithFlags}
use Rattle.col_arity.specs.Rows.{RefusesFirst, RefusesWith}
use Rattle.col_arity.specs.Answered.{beside_flags, checked_cell}
use Rattle.col_arity.proofs.StepLemmas.{IsNullBeside, IsStrict, cells_of_one, each_slot}
use Rattle.col_arity.proofs.StepLemmas.{flags_of_one, flags_of_two, on_one, on_two, rows_apart}
use Rattle.col_arity.proofs.StepLemmas.{rows_beside, rows_of_two, slot_flag, slots_made}
use Rattle.col_arity.proofs.StepLemmas.{slots_refused}

-- the values of a native type: their numbers, and the cells that these stand for
pub record Values (T : Type 0) : Type 0 where
  pub numbers : T → List ℤ
  pub cell : T → Cell
  pub is_cell : (x : T) → value_cell (numbers x) ≡ cell x

-- those of any native type
abbrev pub native_values : {T : Type 0} → NativeType.Ghosts T → Values T
native_values n = record {
  numbers = n.numbers;
  cell = λ x. value_cell (n.numbers x);
  is_cell = λ x. refl;
}

-- those of one with whole numbers
abbrev pub whole_values : {T : Type 0} (n : NativeType.Ghosts T) (w : NativeWhole.Ghosts T)
    → ((x : T) → n.numbers x ≡ w.value x ∷ []) → Values T
whole_values n w law = record {
  numbers = n.numbers;
  cell = λ x. whole (w.value x);
  is_cell = λ x. rw (law x) refl;
}

-- ---- a closure's argument, and its answers

-- what a closure is called for, as the numbers of a row, and the step there
pub record Arguments (X N : Type 0) : Type 0 where
  pub numbers : X → N
  pub step_at : N → Result Cell Cause
  pub step_for : X → Result Cell Cause
  pub same : (x : X) → step_at (numbers x) ≡ step_for x

-- the values of one array
abbrev pub singles : {T : Type 0} → Values T → (Cell → Result Cell Cause) → Arguments T (List ℤ)
singles v step = record {
  numbers = v.numbers;
  step_at = on_one step;
  step_for = λ x. step (v.cell x);
  same = λ x. rw (v.is_cell x) refl;
}

-- the values of two arrays
abbrev pub pairs : {T : Type 0} → Values T → (Cell → Cell → Result Cell Cause)
    → Arguments (T × T) (List ℤ × List ℤ)
pairs v step = record {
  numbers = pair_numbers v.numbers v.numbers;
  step_at = on_two step;
  step_for = λ p. step (v.cell p.0) (v.cell p.1);
  same = λ p. rw (v.is_cell p.0, v.is_cell p.1) refl;
}

-- an answer as a row's cell, and as a slot of the array that is made
pub record Seen (R : Type 0) : Type 0 where
  pub seen : R → Result Cell Error
  pub slot : R → Option (List ℤ)
  pub same : (r : R) → seen r ≡ Ok (slot_cell (slot r))

-- a value
abbrev pub values : {T : Type 0} → Values T → Seen T
values v = record {
  seen = λ r. Ok (v.cell r);
  slot = λ r. Some (v.numbers r);
  same = λ r. rw (v.is_cell r) refl;
}

-- a value or none is a slot
pub option_same : {T : Type 0} (v : Values T) (r : Option T)
    → checked_cell v.cell r ≡ Ok (slot_cell (option_map v.numbers r))
option_same v None = refl
option_same v (Some x) = rw (v.is_cell x) refl

-- a value or none
abbrev pub options : {T : Type 0} → Values T → Seen (Option T)
options v = record {
  seen = checked_cell v.cell;
  slot = λ r. option_map v.numbers r;
  same = option_same v;
}

-- a value, and a flag beside it
abbrev pub flagged_values : {T : Type 0} → Values T → Seen (T × Bool)
flagged_values v = record {
  seen = λ r. Ok (v.cell r.0);
  slot = λ r. Some (v.numbers r.0);
  same = λ r. rw (v.is_cell r.0) refl;
}

-- each answer is the step's
abbrev pub AnswersStep : {X N R : Type 0} → Arguments X N → Seen R → (X → R → Type 0) → Type 0
AnswersStep {X} {N} {R} x s post =
    (v : X) (r : R) → post v r → s.seen r ≡ as_errors (x.step_for v)

-- an answer that is no refusal is the step's
as_errors-ok : {X : Type 0} (r : Result X Cause) (x : X) → Ok x ≡ as_errors r → r ≡ Ok x
as_errors-ok (Ok y) x h = cc
as_errors-ok (Err cause) x h = cc

-- what the closure answers for a row's numbers is the step's cell
answered : {X N R : Type 0} (x : Arguments X N) (s : Seen R) (post : X → R → Type 0)
    → AnswersStep x s post → (n : N) (slot : Option (List ℤ))
    → AnswersWith x.numbers post s.slot n slot → x.step_at n ≡ Ok (slot_cell slot)
answered x s post sound n slot a =
    rw (← a.is_value, x.same a.value, ← a.is_answer)
    (as_errors-ok _ _ (sym (s.same a.answer) ∙ sound a.value a.answer a.answers))

-- ---- the column of the rows

-- an array that is made row by row
made_column : {X N R : Type 0} (x : Arguments X N) (s : Seen R) (post : X → R → Type 0)
    → AnswersStep x s post → (t u : DataKind) → t ≡ u
    → (slots : List (Option N)) (array : PrimitiveParts)
    → IsMapped t (AnswersWith x.numbers post s.slot) slots array
    → column_answer u (each_slot x.step_at slots) ≡ Ok (column_of array)
made_column x s post sound t u same slots array made =
    rw (
      slots_made x.step_at _ (answered x s post sound) slots (slots_of array) made.rows,
      ← same,
      made.data_type,
    ) refl

-- a refusal of the rows is that of their column
column_refused : (t : DataKind) (rows : Result (List Cell) Cause) (e : Error)
    → as_errors rows ≡ Err e → column_answer t rows ≡ Err e
column_refused t (Ok cells) e h = cc
column_refused t (Err cause) e h = cc

-- each refusal is the step's
abbrev pub RefusesStep : {X N : Type 0} → Arguments X N → (Error → X → Type 0) → Type 0
RefusesStep {X} {N} x refuses =
    (e : Error) (v : X) → refuses e v → Err e ≡ as_errors (x.step_for v)

-- the closure's first refusal, its answers and its refusals apart
abbrev pub Refuses : {X N T : Type 0} → (X → N) → (X → T → Type 0) → (Error → X → Type 0)
    → List (Option N) → Error → Type 0
Refuses numbers answers refuses slots e =
    RefusesFirst (AnswersWith numbers answers (λ r. r)) (RefusesWith numbers (refuses e)) slots

-- it is that of the rows
refused_column : {X N T : Type 0} (x : Arguments X N) (v : Values T)
    (answers : X → T → Type 0) (refuses : Error → X → Type 0)
    → AnswersStep x (values v) answers → RefusesStep x refuses
    → (t : DataKind) (slots : List (Option N)) (e : Error)
    → Refuses x.numbers answers refuses slots e
    → column_answer t (each_slot x.step_at slots) ≡ Err e
refused_column {X} {N} {T} x v answers refuses sound stops t slots e h =
    column_refused t _ e (slots_refused x.step_at e _ _ cell_of stopped slots h) where
      cell_of : (n : N) (r : T) → AnswersWith x.numbers answers (λ r. r) n r
          → (c : Cell) × (x.step_at n ≡ Ok c)
      cell_of n r a = (
        v.cell a.answer,
        rw (← a.is_value, x.same a.value)
            (as_errors-ok _ _ (sound a.value a.answer a.answers)),
      )

      stopped : (n : N) → RefusesWith x.numbers (refuses e) n → Err e ≡ as_errors (x.step_at n)
      stopped n a = rw (← a.is_value, x.same a.value) (stops e a.value a.refused)

-- ---- kernels of one array

-- the answer for a column is that of its slots
one-slots : (step : Cell → Result Cell Cause) → step null ≡ Ok null → (left : PrimitiveParts)
    → unary_answer step (column_of left)
    ≡ column_answer left.data_type (each_slot (on_one step) (slots_of left))
one-slots step strict left =
    ap (column_answer left.data_type) (cells_of_one step strict (slots_of left))

-- `try_unary`, whose closure may refuse
pub try_one : {T : Type 0} (v : Values T) (step : Cell → Result Cell Cause) (left : PrimitiveParts)
    (t : DataKind) (result : Result PrimitiveParts Error) (answers : T → T → Type 0)
    (refuses : Error → T → Type 0)
    → step null ≡ Ok null
    → t ≡ left.data_type
    → IfOk result (IsMapped t
    (AnswersWith v.numbers answers (λ r. Some (v.numbers r))) (slots_of left))
    → IfErr result (λ e. UnlessMemory e (Refuses v.numbers answers refuses (slots_of left) e))
    → AnswersStep (singles v step) (values v) answers → RefusesStep (singles v step) refuses
    → Answers column_of result (unary_answer step (column_of left))
try_one v step left t (Ok array) answers refuses strict same made refused sound stops =
    one-slots step strict left
    ∙ made_column (singles v step) (values v) answers sound t _ same _ array made
try_one v step left t (Err e) answers refuses strict same made refused sound stops =
    UnlessMemory-weaker e
    (λ h. one-slots step strict left
    ∙ refused_column (singles v step) v answers refuses sound stops
    left.data_type (slots_of left) e h) refused

-- `unary` and `unary_checked`, whose closure refuses nothing
pub total_one : {T R : Type 0} (v : Values T) (s : Seen R) (step : Cell → Result Cell Cause)
    (left : PrimitiveParts) (t : DataKind) (result : Result PrimitiveParts Error)
    (post : T → R → Type 0)
    → step null ≡ Ok null
    → t ≡ left.data_type
    → IfOk result (IsMapped t (AnswersWith v.numbers post s.slot) (slots_of left))
    → FailsByMemory result
    → AnswersStep (singles v step) s post
    → Answers column_of result (unary_answer step (column_of left))
total_one v s step left t (Ok array) post strict same made refused sound =
    one-slots step strict left
    ∙ made_column (singles v step) s post sound t _ same _ array made
total_one v s step left t (Err e) post strict same made refused sound = rw refused tt

-- a step's answers in the place of a copy's values
pub placed_one : {T : Type 0} (v : Values T) (step : Cell → Result Cell Cause)
    (left copy made : PrimitiveParts) (post : T → T → Type 0)
    → step null ≡ Ok null
    → copy ≡ left
    → IsMapped copy.data_type (AnswersWith v.numbers post (λ r. Some (v.numbers r)))
    (slots_of copy) made
    → AnswersStep (singles v step) (values v) post
    → unary_answer step (column_of left) ≡ Ok (column_of made)
placed_one v step left copy made post strict same mapped sound =
    total_one v (values v) step left left.data_type (Ok made) post strict refl
    (rw same at mapped) tt sound

-- the answer for a column and a cell is that for the column, each of its cells beside that one
pub scalar-unary : (step : Cell → Cell → Result Cell Cause) (left : Column) (c : Cell)
    → scalar_answer step left c ≡ unary_answer (λ a. step a c) left
scalar-unary step left c = ap (column_answer left.data_type) (rows_beside step c left.cells)

-- ---- kernels of two arrays

-- the answer for two columns of different lengths
two-lengths : (step : Cell → Cell → Result Cell Cause) (left right : Column)
    → row_count left ≢ row_count right
    → kernel_answer step left right ≡ Err (InvalidArgumentError Lengths)
two-lengths step left right h = by_test _ refl where
  by_test : (same : Bool) → (row_count left == row_count right) ≡ same
      → kernel_answer step left right ≡ Err (InvalidArgumentError Lengths)
  by_test true e = absurd (h (eqb-true _ _ e))
  by_test false e = rw e refl

-- the answer for two columns of one length is that of the slots of both
two-slots : (step : Cell → Cell → Result Cell Cause) → IsStrict step
    → (left right : PrimitiveParts)
    → row_count (column_of left) ≡ row_count (column_of right)
    → kernel_answer step (column_of left) (column_of right)
    ≡ column_answer left.data_type (each_slot (on_two step) (slot_pairs left right))
two-slots step strict left right h =
    rw (eq-eqb _ _ h, rows_of_two step strict (slots_of left) (slots_of right)) refl

-- a fact that holds for one length, and for two
by_lengths : {P : Type 0} (left right : Column)
    → (row_count left ≡ row_count right → P) → (row_count left ≢ row_count right → P) → P
by_lengths {P} left right same other = by_test _ refl where
  by_test : (test : Bool) → (row_count left == row_count right) ≡ test → P
  by_test true e = same (eqb-true _ _ e)
  by_test false e = other (eqb-false _ _ e)

-- equal refusals are of one error
same_error : {X : Type 0} (e f : Error) → ◌≡◌ {A = Result X Error} (Err e) (Err f) → e ≡ f
same_error e f h = cc

-- `try_binary`, whose closure may refuse
pub try_two : {T : Type 0} (v : Values T) (step : Cell → Cell → Result Cell Cause)
    (left right : PrimitiveParts) (t : DataKind) (result : Result PrimitiveParts Error)
    (answers : T × T → T → Type 0) (refuses : Error → T × T → Type 0)
    → IsStrict step
    → t ≡ left.data_type
    → IfOk result (IsMapped t
    (AnswersWith (pair_numbers v.numbers v.numbers) answers
    (λ r. Some (v.numbers r))) (slot_pairs left right))
    → (row_count (column_of left) ≢ row_count (column_of right)
    → ButForMemory result (result ≡ Err (InvalidArgumentError Lengths)))
    → IfErr result (λ e. UnlessMemory e (IsLengths left right e
    ⊎ Refuses (pair_numbers v.numbers v.numbers) answers refuses (slot_pairs left right) e))
    → AnswersStep (pairs v step) (values v) answers → RefusesStep (pairs v step) refuses
    → Answers column_of result (kernel_answer step (column_of left) (column_of right))
try_two v step left right t (Ok array) answers refuses strict same made lengths _ sound stops =
    by_lengths (column_of left) (column_of right)
    (λ one. two-slots step strict left right one
    ∙ made_column (pairs v step) (values v) answers sound t _ same _ array made)
    (λ two. let other = lengths two in cc)
try_two v step left right t (Err e) answers refuses strict same _ lengths refused sound stops =
    by_lengths (column_of left) (column_of right)
    (λ one. UnlessMemory-weaker e (first one) refused)
    (λ two. UnlessMemory-weaker e
    (λ is. two-lengths step (column_of left) (column_of right) two
    ∙ ap Err (sym (same_error e _ is))) (lengths two)) where
      first : row_count (column_of left) ≡ row_count (column_of right)
          → IsLengths left right e
          ⊎ Refuses (pair_numbers v.numbers v.numbers) answers refuses (slot_pairs left right) e
          → kernel_answer step (column_of left) (column_of right) ≡ Err e
      first one (inl other) = absurd (other.0 one)
      first one (inr h) =
          two-slots step strict left right one
          ∙ refused_column (pairs v step) v answers refuses sound stops left.data_type
          (slot_pairs left right) e h

-- `binary` and `binary_checked`, whose closure refuses nothing
pub total_two : {T R : Type 0} (v : Values T) (s : Seen R)
    (step : Cell → Cell → Result Cell Cause) (left right : PrimitiveParts)
    (t : DataKind) (result : Result PrimitiveParts Error) (post : T × T → R → Type 0)
    → IsStrict step
    → t ≡ left.data_type
    → IfOk result (IsMapped t
    (AnswersWith (pair_numbers v.numbers v.numbers) post s.slot) (slot_pairs left right))
    → RefusedWhere result (InvalidArgumentError Lengths)
    (row_count (column_of left) ≢ row_count (column_of right))
    → IfErr result (λ e. UnlessMemory e (e ≡ InvalidArgumentError Lengths))
    → AnswersStep (pairs v step) s post
    → Answers column_of result (kernel_answer step (column_of left) (column_of right))
total_two v s step left right t (Ok array) post strict same made lengths refused sound =
    by_lengths (column_of left) (column_of right)
    (λ one. two-slots step strict left right one
    ∙ made_column (pairs v step) s post sound t _ same _ array made)
    (λ two. let other = lengths.1 two in cc)
total_two v s step left right t (Err e) post strict same made lengths refused sound =
    UnlessMemory-both e
    (λ other is. two-lengths step (column_of left) (column_of right) (other.0 (ap Err is))
    ∙ ap Err (sym is)) lengths refused

-- a step's answers for two arrays in the place of a copy of the left one
pub placed_two : {T U : Type 0} (v : Values T) (step : Cell → Cell → Result Cell Cause)
    (left copy right made : PrimitiveParts) (post : T × T → T → Type 0) (u : U)
    → IsStrict step
    → copy ≡ left
    → IsMapped copy.data_type
    (AnswersWith (pair_numbers v.numbers v.numbers) post (λ r. Some (v.numbers r)))
    (slot_pairs copy right) made
    → RefusedWhere (Ok u) (InvalidArgumentError Lengths)
    (row_count (column_of copy) ≢ row_count (column_of right))
    → AnswersStep (pairs v step) (values v) post
    → kernel_answer step (column_of left) (column_of right) ≡ Ok (column_of made)
placed_two v step left copy right made post u strict same mapped lengths sound =
    let other = rw same at lengths in
    total_two v (values v) step left right left.data_type (Ok made) post strict refl
    (rw same at mapped) ((λ h. cc), (λ h. let no = other.1 h in cc)) tt sound

-- ---- kernels that flag their rows

-- an array and flags that are made row by row, each for itself
made_apart : {T X N : Type 0} (v : Values T) (numbers : X → N) (post : X → T × Bool → Type 0)
    (flag : N → Bool) → ((x : X) (r : T × Bool) → post x r → r.1 ≡ flag (numbers x))
    → (t : DataKind) (slots : List (Option N)) (array : PrimitiveParts) (flags : List Bool)
    → IsMappedWithFlags t (AnswersWith numbers post (λ r. (Some (v.numbers r.0), r.1)))
    slots array flags
    → IsMapped t (AnswersWith numbers post (λ r. Some (v.numbers r.0))) slots array
    × (map (slot_flag flag) slots ≡ flags)
made_apart v numbers post flag told t slots array flags made =
    let rows =
    rows_apart flag (AnswersWith numbers post (λ r. (Some (v.numbers r.0), r.1)))
    (AnswersWith numbers post (λ r. Some (v.numbers r.0)))
    (λ n p a. record {
      value = a.value;
      answer = a.answer;
      is_value = a.is_value;
      answers = a.answers;
      is_answer = ap (λ q. q.0) a.is_answer;
    })
    (λ n p a. sym (ap (λ q. q.1) a.is_answer) ∙ told a.value a.answer a.answers
    ∙ ap flag a.is_value)
    slots (slots_of array) flags made.one_length made.rows in
    (record { data_type = made.data_type; rows = rows.0 }, rows.1)

-- `unary_with_bitmap`
pub flagged_one : {T : Type 0} (v : Values T) (step : Cell → Result Cell Cause)
    (flag : Cell → Bool) (left : PrimitiveParts) (t : DataKind)
    (result : Result (PrimitiveParts × List Bool) Error) (post : T → T × Bool → Type 0)
    → step null ≡ Ok null → flag null ≡ false
    → t ≡ left.data_type
    → IfOk result (λ made. IsMappedWithFlags t
    (AnswersWith v.numbers post (λ r. (Some (v.numbers r.0), r.1))) (slots_of left) made.0 made.1)
    → FailsByMemory result
    → AnswersStep (singles v step) (flagged_values v) post
    → ((x : T) (r : T × Bool) → post x r → r.1 ≡ flag (v.cell x))
    → Answers (λ made. (column_of made.0, made.1)) result
    (beside_flags (map flag (column_of left).cells) (unary_answer step (column_of left)))
flagged_one v step flag left t (Ok made) post strict falses same rows refused sound told =
    let apart =
    made_apart v v.numbers post (λ ns. flag (value_cell ns))
    (λ x r h. rw (v.is_cell x) (told x r h)) t (slots_of left) made.0 made.1 rows in
    let column =
    total_one v (flagged_values v) step left t (Ok made.0) post strict same apart.0 tt sound in
    rw (column, flags_of_one flag falses (slots_of left), apart.1) refl
flagged_one v step flag left t (Err e) post strict falses same rows refused sound told =
    rw refused tt

-- `binary_with_bitmap`
pub flagged_two : {T : Type 0} (v : Values T) (step : Cell → Cell → Result Cell Cause)
    (flag : Cell → Cell → Bool) (left right : PrimitiveParts) (t : DataKind)
    (result : Result (PrimitiveParts × List Bool) Error) (post : T × T → T × Bool → Type 0)
    → IsStrict step → IsNullBeside false flag
    → t ≡ left.data_type
    → IfOk result (λ made. IsMappedWithFlags t
    (AnswersWith (pair_numbers v.numbers v.numbers) post (λ r. (Some (v.numbers r.0), r.1)))
    (slot_pairs left right) made.0 made.1)
    → RefusedWhere result (InvalidArgumentError Lengths)
    (row_count (column_of left) ≢ row_count (column_of right))
    → IfErr result (λ e. UnlessMemory e (e ≡ InvalidArgumentError Lengths))
    → AnswersStep (pairs v step) (flagged_values v) post
    → ((p : T × T) (r : T × Bool) → post p r → r.1 ≡ flag (v.cell p.0) (v.cell p.1))
    → Answers (λ made. (column_of made.0, made.1)) result
    (beside_flags
    (map (λ row. flag row.0 row.1) (zip (column_of left).cells (column_of right).cells))
    (kernel_answer step (column_of left) (column_of right)))
flagged_two v step flag left right t (Ok made) post strict falses same rows lengths _ sound told =
    let apart =
    made_apart v (pair_numbers v.numbers v.numbers) post
    (λ p. flag (value_cell p.0) (value_cell p.1))
    (λ p r h. rw (v.is_cell p.0, v.is_cell p.1) (told p r h)) t (slot_pairs left right)
    made.0 made.1 rows in
    let column =
    total_two v (flagged_values v) step left right t (Ok made.0) post strict same apart.0
    ((λ h. cc), (λ h. let no = lengths.1 h in cc)) tt sound in
    rw (column, flags_of_two flag falses (slots_of left) (slots_of right), apart.1) refl
flagged_two v step flag left right t (Err e) post strict falses same rows lengths refused _ _ =
    UnlessMemory-both e
    (λ other is. rw (two-lengths step (column_of left) (column_of right) (other.0 (ap Err is)))
    (ap Err (sym is))) lengths refused
