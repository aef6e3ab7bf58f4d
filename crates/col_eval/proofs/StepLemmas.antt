-- The number of a refusal is the place of the step that refuses, for one row and for a table.
use Rattle.std.proofs.Common.{◌≡◌, ℕ, ◌+◌, ◌⊎◌, inl, inr, List, [], ◌∷◌, ◌++◌, length}
use Rattle.std.proofs.Common.{Result, Ok, Err}
use Rattle.std.proofs.Common.{All, refl, sym, ap, ◌∙◌, arith, append_assoc, length-append}
use Rattle.std.proofs.lemmas.List.Elements.{All-append, All-cons, All-nil}
use Rattle.col_model.specs.Cell.{Cell, Cause}
use Rattle.col_model.specs.WholeStep.{each_row}
use Rattle.col_types.specs.Column.{Column, table_row_count, types_of}
use Rattle.col_types.specs.DataKind.{DataKind}
use Rattle.col_eval.specs.declared.expr.Op.{Op}
use Rattle.col_eval.specs.Tree.{Tree, column, literal, step, step_count}
use Rattle.col_eval.specs.Typing.{right_type, type_of}
use Rattle.col_eval.specs.Meaning.{RowAnswer, cell, refused_at, RowsAnswer, all_cells, refusal}
use Rattle.col_eval.specs.Meaning.{at_step, row_meaning, rows_meaning, step_of}
use Rattle.col_eval.specs.Laws.{GivesCell, GivesCells, IsFirstToFail, IsRefusedFor, RefusesItself}
use Rattle.col_eval.specs.Laws.{steps_in_order}
use Rattle.col_eval.proofs.GatherLemmas.{at_rows, row_step, rows_step}
use Rattle.col_eval.proofs.OperandLemmas.{rows_meaning-column, rows_meaning-literal}
use Rattle.col_eval.proofs.OperandLemmas.{rows_meaning-step}

-- a step is refused at a place of its left operand; of its right one, behind the left one's steps;
-- or at itself, behind both
abbrev RefusedPart : (Tree → Type 0) → (ℕ → Cause → Tree → Type 0) → (Cause → Tree → Type 0) → ℕ
    → Cause → Op → Tree → Tree → Type 0
RefusedPart Gives Refused Itself number cause op left right =
    Refused number cause left
    ⊎ (((k : ℕ) × Gives left × Refused k cause right × (step_count left + k ≡ number))
    ⊎ (Gives left × Gives right × Itself cause (step op left right)
    × (step_count left + step_count right ≡ number)))

-- how trees give and how they are refused, at one row or for all rows of a table
record Refusals (Gives : Tree → Type 0) (Refused : ℕ → Cause → Tree → Type 0)
    (Itself : Cause → Tree → Type 0) : Type 0 where
  columns_give : (position number : ℕ) (cause : Cause) → Refused number cause (column position) → ⊥
  literals_give : (t : DataKind) (c : Cell) (number : ℕ) (cause : Cause)
      → Refused number cause (literal t c) → ⊥
  operands_give : (op : Op) (left right : Tree) → Gives (step op left right)
      → Gives left × Gives right
  refused_part : (op : Op) (left right : Tree) (number : ℕ) (cause : Cause)
      → Refused number cause (step op left right)
      → RefusedPart Gives Refused Itself number cause op left right

-- a tree has so many steps
length-steps_in_order : (tree : Tree) → length (steps_in_order tree) ≡ step_count tree
length-steps_in_order (column position) = refl
length-steps_in_order (literal t c) = refl
length-steps_in_order (step op left right) =
    let whole = length-append (steps_in_order left)
    (steps_in_order right ++ (step op left right ∷ [])) in
    let rest = length-append (steps_in_order right) (step op left right ∷ []) in
    omega (arith, whole, rest, length-steps_in_order left, length-steps_in_order right)

-- where a tree gives, so does each of its steps
steps_give : {Gives : Tree → Type 0}
    → ((op : Op) (left right : Tree) → Gives (step op left right) → Gives left × Gives right)
    → (tree : Tree) → Gives tree → All Gives (steps_in_order tree)
steps_give {Gives = Gives} operands (column position) h = All-nil Gives
steps_give {Gives = Gives} operands (literal t c) h = All-nil Gives
steps_give {Gives = Gives} operands (step op left right) h =
    let both = operands op left right h in
    All-append Gives (steps_in_order left) (steps_in_order right ++ (step op left right ∷ []))
    (steps_give operands left both.0)
    (All-append Gives (steps_in_order right) (step op left right ∷ [])
    (steps_give operands right both.1)
    (All-cons Gives (step op left right) [] h (All-nil Gives)))

-- what fails first in the left operand does so in the step
fails_at_left : {Passes Fails : Tree → Type 0} (op : Op) (left right : Tree) (number : ℕ)
    → IsFirstToFail Passes Fails number left
    → IsFirstToFail Passes Fails number (step op left right)
fails_at_left op left right number h =
    let rest = steps_in_order right ++ (step op left right ∷ []) in
    record {
      earlier = h.earlier;
      failing = h.failing;
      later = h.later ++ rest;
      in_order = ap (λ (steps : List Tree). steps ++ rest) h.in_order
          ∙ append_assoc h.earlier (h.failing ∷ h.later) rest;
      counted = h.counted;
      earlier_pass = h.earlier_pass;
      fails = h.fails;
    }

-- what fails first in the right operand comes behind the steps of the left one, which pass
fails_at_right : {Passes Fails : Tree → Type 0} (op : Op) (left right : Tree) (number : ℕ)
    → All Passes (steps_in_order left) → IsFirstToFail Passes Fails number right
    → IsFirstToFail Passes Fails (step_count left + number) (step op left right)
fails_at_right {Passes = Passes} op left right number pass h =
    let first = steps_in_order left in
    let itself = step op left right ∷ [] in
    record {
      earlier = first ++ h.earlier;
      failing = h.failing;
      later = h.later ++ itself;
      in_order = ap (λ (steps : List Tree). first ++ (steps ++ itself)) h.in_order
          ∙ ap (λ (steps : List Tree). first ++ steps)
          (append_assoc h.earlier (h.failing ∷ h.later) itself)
          ∙ sym (append_assoc first h.earlier (h.failing ∷ (h.later ++ itself)));
      counted = omega (
        arith,
        length-append first h.earlier,
        length-steps_in_order left,
        h.counted,
      );
      earlier_pass = All-append Passes first h.earlier pass h.earlier_pass;
      fails = h.fails;
    }

-- a step that fails itself comes behind the steps of both operands, which pass
fails_at_itself : {Passes Fails : Tree → Type 0} (op : Op) (left right : Tree)
    → All Passes (steps_in_order left) → All Passes (steps_in_order right)
    → Fails (step op left right)
    → IsFirstToFail Passes Fails (step_count left + step_count right) (step op left right)
fails_at_itself {Passes = Passes} op left right left_pass right_pass h =
    let first = steps_in_order left in
    let second = steps_in_order right in
    record {
      earlier = first ++ second;
      failing = step op left right;
      later = [];
      in_order = sym (append_assoc first second (step op left right ∷ []));
      counted = omega (
        arith,
        length-append first second,
        length-steps_in_order left,
        length-steps_in_order right,
      );
      earlier_pass = All-append Passes first second left_pass right_pass;
      fails = h;
    }

-- a tree that is refused at a number has a first step to fail, at that place
first_to_fail : {Gives : Tree → Type 0} {Refused : ℕ → Cause → Tree → Type 0}
    {Itself : Cause → Tree → Type 0} (facts : Refusals Gives Refused Itself) (tree : Tree)
    (number : ℕ) (cause : Cause) → Refused number cause tree
    → IsFirstToFail Gives (Itself cause) number tree
first_to_fail facts (column position) number cause h =
    absurd (facts.columns_give position number cause h)
first_to_fail facts (literal t c) number cause h =
    absurd (facts.literals_give t c number cause h)
first_to_fail facts (step op left right) number cause h =
    elim (facts.refused_part op left right number cause h) [
      | inl at_left ↦ fails_at_left op left right number
          (first_to_fail facts left number cause at_left)
      | inr other ↦ elim other [
        | inl at_right ↦ rw (← at_right.3) (fails_at_right op left right at_right.0
            (steps_give facts.operands_give left at_right.1)
            (first_to_fail facts right at_right.0 cause at_right.2))
        | inr itself ↦ rw (← itself.3) (fails_at_itself op left right
            (steps_give facts.operands_give left itself.0)
            (steps_give facts.operands_give right itself.1) itself.2)
      ]
    ]

-- a step that gives a cell has operands that give cells
cells_of_operands : (m n : ℕ) (s : Cell → Cell → Result Cell Cause) (a b : RowAnswer) (c : Cell)
    → row_step m n s a b ≡ cell c
    → ((x : Cell) × (a ≡ cell x)) × ((y : Cell) × (b ≡ cell y))
cells_of_operands m n s (cell x) (cell y) c h = ((x, refl), (y, refl))
cells_of_operands m n s (cell x) (refused_at k d) c h = absurd cc
cells_of_operands m n s (refused_at k d) b c h = absurd cc

-- a refusal of the step itself
at_step-refused : (number : ℕ) (r : Result Cell Cause) (k : ℕ) (cause : Cause)
    → at_step number r ≡ refused_at k cause → (number ≡ k) × (r ≡ Err cause)
at_step-refused number (Ok c) k cause h = absurd cc
at_step-refused number (Err d) k cause h = (cc, cc)

-- a row is refused by a tree at a number
abbrev IsRowRefused : List DataKind → List Cell → ℕ → Cause → Tree → Type 0
IsRowRefused types row number cause tree = row_meaning tree types row ≡ refused_at number cause

-- where a step refuses a row
row_refused_part : (types : List DataKind) (row : List Cell) (op : Op) (left right : Tree)
    (number : ℕ) (cause : Cause) (a b : RowAnswer) → row_meaning left types row ≡ a
    → row_meaning right types row ≡ b
    → row_step (step_count left) (step_count right)
    (step_of op (type_of left types) (right_type right (type_of right types))) a b
    ≡ refused_at number cause
    → RefusedPart (GivesCell types row) (IsRowRefused types row) (RefusesItself types row) number
    cause op left right
row_refused_part types row op left right number cause (refused_at k d) b hl hr h =
    let same : refused_at k d ≡ refused_at number cause = h in
    inl (hl ∙ same)
row_refused_part types row op left right number cause (cell x) (refused_at k d) hl hr h =
    let place : step_count left + k ≡ number = cc in
    let same : d ≡ cause = cc in
    inr (inl (k, (x, hl), hr ∙ ap (refused_at k) same, place))
row_refused_part types row op left right number cause (cell x) (cell y) hl hr h =
    let s = step_of op (type_of left types) (right_type right (type_of right types)) in
    let parts = at_step-refused (step_count left + step_count right) (s x y) number cause h in
    inr (inr (
      (x, hl),
      (y, hr),
      record {
        op = op;
        left = left;
        right = right;
        a = x;
        b = y;
        is_step = refl;
        left_cell = hl;
        right_cell = hr;
        refuses = parts.1;
      },
      parts.0,
    ))

-- how trees give cells for a row, and how they refuse it
row_refusals : (types : List DataKind) (row : List Cell)
    → Refusals (GivesCell types row) (IsRowRefused types row) (RefusesItself types row)
row_refusals types row = record {
  columns_give = λ position number cause h. cc;
  literals_give = λ t c number cause h. cc;
  operands_give = λ op left right h. cells_of_operands (step_count left) (step_count right)
      (step_of op (type_of left types) (right_type right (type_of right types)))
      (row_meaning left types row) (row_meaning right types row) h.0 h.1;
  refused_part = λ op left right number cause h. row_refused_part types row op left right number
      cause (row_meaning left types row) (row_meaning right types row) refl refl h;
}

-- a row that a tree refuses is refused at the step of that number
pub refused_at_step : (tree : Tree) (types : List DataKind) (row : List Cell) (number : ℕ)
    (cause : Cause) → row_meaning tree types row ≡ refused_at number cause
    → IsFirstToFail (GivesCell types row) (RefusesItself types row cause) number tree
refused_at_step tree types row number cause h =
    first_to_fail (row_refusals types row) tree number cause h

-- all rows of a step that gives cells have operands that give cells
all_cells_of_operands : (m n : ℕ) (s : Cell → Cell → Result Cell Cause) (a b : RowsAnswer)
    (cells : List Cell) → rows_step m n s a b ≡ all_cells cells
    → ((xs : List Cell) × (a ≡ all_cells xs)) × ((ys : List Cell) × (b ≡ all_cells ys))
all_cells_of_operands m n s (all_cells xs) (all_cells ys) cells h = ((xs, refl), (ys, refl))
all_cells_of_operands m n s (all_cells xs) (refusal k d) cells h = absurd cc
all_cells_of_operands m n s (refusal k d) b cells h = absurd cc

-- a refusal of all rows by the step itself
at_rows-refused : (number : ℕ) (r : Result (List Cell) Cause) (k : ℕ) (cause : Cause)
    → at_rows number r ≡ refusal k cause → number ≡ k
at_rows-refused number (Ok cells) k cause h = absurd cc
at_rows-refused number (Err d) k cause h = cc

-- a table is refused by a tree at a number
abbrev IsTableRefused : List Column → ℕ → Cause → Tree → Type 0
IsTableRefused table number cause tree = rows_meaning tree table ≡ refusal number cause

-- where a step refuses a table
table_refused_part : (table : List Column) (op : Op) (left right : Tree) (number : ℕ)
    (cause : Cause) (s : Cell → Cell → Result Cell Cause) (a b : RowsAnswer)
    → rows_meaning left table ≡ a → rows_meaning right table ≡ b
    → rows_step (step_count left) (step_count right) s a b ≡ refusal number cause
    → rows_meaning (step op left right) table ≡ refusal number cause
    → RefusedPart (GivesCells table) (IsTableRefused table) (IsRefusedFor table) number cause op
    left right
table_refused_part table op left right number cause s (refusal k d) b hl hr h whole =
    let same : refusal k d ≡ refusal number cause = h in
    inl (hl ∙ same)
table_refused_part table op left right number cause s (all_cells xs) (refusal k d) hl hr h whole =
    let place : step_count left + k ≡ number = cc in
    let same : d ≡ cause = cc in
    inr (inl (k, (xs, hl), hr ∙ ap (refusal k) same, place))
table_refused_part table op left right number cause s (all_cells xs) (all_cells ys) hl hr h
    whole =
    inr (inr (
      (xs, hl),
      (ys, hr),
      (number, whole),
      at_rows-refused (step_count left + step_count right) (each_row s xs ys) number cause h,
    ))

-- how trees give cells for all rows of a table, and how they refuse it
table_refusals : (table : List Column)
    → Refusals (GivesCells table) (IsTableRefused table) (IsRefusedFor table)
table_refusals table = record {
  columns_give = λ position number cause h. let e = rows_meaning-column position table in cc;
  literals_give = λ t c number cause h.
      let e = rows_meaning-literal t c table (table_row_count table) refl in cc;
  operands_give = λ op left right h. all_cells_of_operands (step_count left) (step_count right)
      (step_of op (type_of left (types_of table))
      (right_type right (type_of right (types_of table)))) (rows_meaning left table)
      (rows_meaning right table) h.0 (sym (rows_meaning-step op left right table) ∙ h.1);
  refused_part = λ op left right number cause h. table_refused_part table op left right number
      cause (step_of op (type_of left (types_of table))
      (right_type right (type_of right (types_of table)))) (rows_meaning left table)
      (rows_meaning right table) refl refl (sym (rows_meaning-step op left right table) ∙ h) h;
}

-- a table that a tree refuses is refused at the step of that number
pub table_refused_at_step : (tree : Tree) (table : List Column) (number : ℕ) (cause : Cause)
    → rows_meaning tree table ≡ refusal number cause
    → IsFirstToFail (GivesCells table) (IsRefusedFor table cause) number tree
table_refused_at_step tree table number cause h =
    first_to_fail (table_refusals table) tree number cause h
