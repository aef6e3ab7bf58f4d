-- What an adaptive step gives, and the digits of what it gives.
use Rattle.std.proofs.Common.{◌≡◌, ℕ, ◌≤◌, ℤ, Bool, true, false, List, [], ◌∷◌, Option, Some, None}
use Rattle.std.proofs.Common.{Result, Ok, Err, refl, ◌∙◌, length, arith, ◌<◌, zero, suc}
use Rattle.std.specs.Prelude.{Contains, IfOk, IsOk, max, nat_le, slice_index_or, unsigned_abs, ◌==◌}
use Rattle.std.specs.Prelude.{◌&&◌, ◌-◌}
use Rattle.std.specs.Int.Digits.{digits_of}
use Rattle.std.proofs.lemmas.Bool.{and_parts}
use Rattle.col_model.specs.Cell.{Cell, Cause, null, whole}
use Rattle.col_model.specs.WholeStep.{each_row}
use Rattle.col_model.specs.Whole.{is_fitting}
use Rattle.col_types.specs.Answer.{Answers, as_errors}
use Rattle.col_types.specs.Column.{Column, kernel_answer, row_count}
use Rattle.col_types.specs.DataKind.{decimal}
use Rattle.col_types.specs.declared.error.Error.{Error}
use Rattle.col_flat.specs.Parts.{PrimitiveParts, column_of}
use Rattle.col_arity.proofs.StepLemmas.{IsStrict}
use Rattle.col_decimal.specs.Adaptive.{adaptive_answer, adaptive_scale}
use Rattle.col_decimal.specs.Adaptive.{adaptive_step, at_scale, brought_numbers}
use Rattle.col_decimal.specs.Adaptive.{first_precision, most_digits}
use Rattle.col_decimal.specs.Decimal.{digit_count, is_within, precision_of, scale_of, stored_type}
use Rattle.col_decimal.specs.Decimal.{times_ten}
use Rattle.col_decimal.specs.DecimalStep.{DecimalOperation, addition, subtraction, multiplication}
use Rattle.col_decimal.specs.DecimalStep.{division, plain, decimal_result, decimal_step}
use Rattle.col_decimal.specs.DecimalStep.{is_by_zero, is_decimal_result, unfit_decimal}
use Rattle.col_decimal.specs.DecimalStep.{worked_number}
use Rattle.col_decimal.proofs.DecimalLemmas.{digits-max, times_zero, within-digits}

-- a null beside anything gives null
pub adaptive_strict : (operation : DecimalOperation) (scale other : ℕ)
    → IsStrict (adaptive_step operation scale other)
adaptive_strict operation scale other = record {
  left = λ c. refl;
  right = null_right operation scale other;
} where
  null_right : (operation : DecimalOperation) (scale other : ℕ) (c : Cell)
      → adaptive_step operation scale other c null ≡ Ok null
  null_right operation scale other (whole a) = refl
  null_right operation scale other _ = refl

-- a divisor is 0 exactly where it is at another scale
by_zero-times : (operation : DecimalOperation) (b : ℤ) (k : ℕ)
    → is_by_zero operation (times_ten b k) ≡ is_by_zero operation b
by_zero-times addition b k = refl
by_zero-times subtraction b k = refl
by_zero-times multiplication b k = refl
by_zero-times division b k = times_zero b k

module _ (operation : DecimalOperation) (scale other : ℕ) (a b : ℤ) where
  -- where both numbers fit at the larger scale, the plain step there
  pub step-brought : (p : ℤ × ℤ) (r : Result Cell Error)
      → Some p ≡ brought_numbers scale other a b
      → r ≡ as_errors (decimal_step operation plain 38 (max scale other) (whole p.0) (whole p.1))
      → r ≡ as_errors (adaptive_step operation scale other (whole a) (whole b))
  step-brought p r h e = by_tests _ _ refl refl where
    by_tests : (is_zero fits : Bool) → is_by_zero operation b ≡ is_zero
        → (is_fitting stored_type (at_scale scale (max scale other) a)
        && is_fitting stored_type (at_scale other (max scale other) b)) ≡ fits
        → r ≡ as_errors (adaptive_step operation scale other (whole a) (whole b))
    by_tests is_zero false z f = let none = rw f at h in cc
    by_tests false true z f = rw (z, ← h) e
    by_tests true true z f =
        let some = rw f at h in
        let second : p.1 ≡ at_scale other (max scale other) b = cc in
        let same : is_by_zero operation p.1 ≡ true =
        rw second (by_zero-times operation b (max scale other - other) ∙ z) in
        let given = rw same at e in
        rw z given

  -- where one of them does not, what the plain form gives for no result
  pub step-not_brought : (precision : ℕ) (r : Result Cell Error)
      → None ≡ brought_numbers scale other a b
      → r ≡ as_errors (unfit_decimal operation plain precision a b)
      → r ≡ as_errors (adaptive_step operation scale other (whole a) (whole b))
  step-not_brought precision r h e = by_test _ refl where
    by_test : (is_zero : Bool) → is_by_zero operation b ≡ is_zero
        → r ≡ as_errors (adaptive_step operation scale other (whole a) (whole b))
    by_test true z = let given = rw z at e in rw z given
    by_test false z = let given = rw z at e in rw (z, ← h) given

-- the digits of what a plain step gives
plain_digits : (operation : DecimalOperation) (precision scale : ℕ) (a b : ℤ) (c : Cell)
    → decimal_step operation plain precision scale (whole a) (whole b) ≡ Ok c
    → most_digits (c ∷ []) ≤ precision
plain_digits operation precision scale a b c h = by_tests _ _ refl refl where
  by_tests : (is_zero fits : Bool) → is_by_zero operation b ≡ is_zero
      → is_decimal_result operation precision scale a b ≡ fits → most_digits (c ∷ []) ≤ precision
  by_tests true fits z f = let refused = rw z at h in cc
  by_tests false true z f =
      let given = rw (z, f) at h in
      let same : c ≡ whole (decimal_result operation scale a b) = cc in
      let most : digit_count (decimal_result operation scale a b) ≤ precision =
      within-digits precision (decimal_result operation scale a b)
      (and_parts (is_fitting stored_type (worked_number operation scale a b))
      (is_within precision (decimal_result operation scale a b)) f).1 in
      rw same (omega arith)
  by_tests false false z f = let refused = rw (z, f) at h in cc

-- the digits of what an adaptive step gives
adaptive_digits : (operation : DecimalOperation) (scale other : ℕ) (x y c : Cell)
    → adaptive_step operation scale other x y ≡ Ok c → most_digits (c ∷ []) ≤ 38
adaptive_digits operation scale other (whole a) (whole b) c h =
    by_tests _ _ refl refl where
      by_tests : (is_zero : Bool) (brought : Option (ℤ × ℤ)) → is_by_zero operation b ≡ is_zero
          → brought_numbers scale other a b ≡ brought → most_digits (c ∷ []) ≤ 38
      by_tests true brought z f = let refused = rw z at h in cc
      by_tests false None z f = let refused = rw (z, f) at h in cc
      by_tests false (Some p) z f =
          let given = rw (z, f) at h in
          plain_digits operation 38 (max scale other) p.0 p.1 c given
adaptive_digits operation scale other (whole a) _ c h =
    let none : c ≡ null = cc in rw none (omega arith)
adaptive_digits operation scale other _ y c h =
    let none : c ≡ null = cc in rw none (omega arith)

-- the digits of a cell in front of others
digits_before : (c : Cell) (cells : List Cell) → most_digits (c ∷ []) ≤ 38
    → most_digits cells ≤ 38 → most_digits (c ∷ cells) ≤ 38
digits_before (whole n) cells h g = omega arith
digits_before _ cells h g = g

-- where each row has at most 38 digits, so have all
rows_digits : (step : Cell → Cell → Result Cell Cause)
    → ((x y c : Cell) → step x y ≡ Ok c → most_digits (c ∷ []) ≤ 38)
    → (left right cells : List Cell) → each_row step left right ≡ Ok cells
    → most_digits cells ≤ 38
rows_digits step small [] right cells h =
    let none : cells ≡ [] = cc in rw none (omega arith)
rows_digits step small (x ∷ left) [] cells h =
    let none : cells ≡ [] = cc in rw none (omega arith)
rows_digits step small (x ∷ left) (y ∷ right) cells h =
    by_parts _ _ refl refl (λ below. rows_digits step small left right below) where
      by_parts : (first : Result Cell Cause) (rest : Result (List Cell) Cause) → step x y ≡ first
          → each_row step left right ≡ rest
          → ((below : List Cell) → each_row step left right ≡ Ok below → most_digits below ≤ 38)
          → most_digits cells ≤ 38
      by_parts (Err cause) rest f g rest_small = let refused = rw f at h in cc
      by_parts (Ok c) (Err cause) f g rest_small = let refused = rw (f, g) at h in cc
      by_parts (Ok c) (Ok below) f g rest_small =
          let given = rw (f, g) at h in
          let same : cells ≡ c ∷ below = cc in
          rw same (digits_before c below (small x y c f) (rest_small below g))

-- ---- the answer for two columns

-- a column in the type in which the rows are worked out
abbrev pub worked_column : Column → Column → Column
worked_column left right =
    record {
      data_type = decimal 38 (adaptive_scale left.data_type right.data_type);
      cells = left.cells;
    }

module _ (operation : DecimalOperation) (left right : Column) where
  -- the step at each row
  abbrev pub row_step : Cell → Cell → Result Cell Cause
  row_step = adaptive_step operation (scale_of left.data_type) (scale_of right.data_type)

  -- the precision that the types alone ask for, which is one
  abbrev pub IsPrecise : Type 0
  IsPrecise = nat_le (first_precision left.data_type right.data_type) 38 ≡ true

  -- a refusal of the rows is the answer
  pub answer-refused : (e : Error) → IsPrecise
      → kernel_answer row_step (worked_column left right) right ≡ Err e
      → adaptive_answer operation left right ≡ Err e
  answer-refused e precise h = by_tests _ _ refl refl where
    by_tests : (same : Bool) (rows : Result (List Cell) Cause)
        → (row_count left == row_count right) ≡ same
        → each_row row_step left.cells right.cells ≡ rows
        → adaptive_answer operation left right ≡ Err e
    by_tests false rows s r = let lengths = rw s at h in rw (precise, s) lengths
    by_tests true (Ok cells) s r = let made = rw (s, r) at h in cc
    by_tests true (Err cause) s r = let refused = rw (s, r) at h in rw (precise, s, r) refused

  -- a column of the rows is the answer, in a type with enough digits
  pub answer-made : (c : Column) → IsPrecise
      → kernel_answer row_step (worked_column left right) right ≡ Ok c
      → (adaptive_answer operation left right ≡ Ok (record {
        data_type =
            decimal (max (first_precision left.data_type right.data_type) (most_digits c.cells))
            (adaptive_scale left.data_type right.data_type);
        cells = c.cells;
      })) × (most_digits c.cells ≤ 38)
  answer-made c precise h = by_tests _ _ refl refl where
    by_tests : (same : Bool) (rows : Result (List Cell) Cause)
        → (row_count left == row_count right) ≡ same
        → each_row row_step left.cells right.cells ≡ rows
        → (adaptive_answer operation left right ≡ Ok (record {
          data_type =
              decimal (max (first_precision left.data_type right.data_type) (most_digits c.cells))
              (adaptive_scale left.data_type right.data_type);
          cells = c.cells;
        })) × (most_digits c.cells ≤ 38)
    by_tests false rows s r = let lengths = rw s at h in cc
    by_tests true (Err cause) s r = let refused = rw (s, r) at h in cc
    by_tests true (Ok cells) s r =
        let made = rw (s, r) at h in
        let same : cells ≡ c.cells = cc in (
          rw (precise, s, r, same) refl,
          rw (← same) (rows_digits row_step
              (adaptive_digits operation (scale_of left.data_type) (scale_of right.data_type))
              left.cells right.cells cells r),
        )

  -- an array of the rows, in a type with enough digits
  pub answer-settled : (precision scale : ℕ) (array : PrimitiveParts)
      (result : Result PrimitiveParts Error) → IsPrecise
      → kernel_answer row_step (worked_column left right) right ≡ Ok (column_of array)
      → precision ≡ first_precision left.data_type right.data_type
      → scale ≡ adaptive_scale left.data_type right.data_type
      → IsOk result
      → IfOk result (λ made. column_of made ≡ record {
        data_type = decimal (max precision (most_digits (column_of array).cells)) scale;
        cells = (column_of array).cells;
      })
      → Answers column_of result (adaptive_answer operation left right)
  answer-settled precision scale array (Ok made) precise rows first larger ok value =
      let answer = (answer-made (column_of array) precise rows).0 in
      let told = rw (first, larger) at value in
      rw told answer
  answer-settled precision scale array (Err e) precise rows first larger ok value = cc

-- ---- the numbers of an answer

-- a cell in front leaves no fewer digits
most_digits-more : (c : Cell) (cells : List Cell) → most_digits cells ≤ most_digits (c ∷ cells)
most_digits-more (whole n) cells = omega arith
most_digits-more _ cells = omega arith

-- no number has more digits than the longest
digits-held : (cells : List Cell) (n : ℤ) (k : ℕ) → k < length cells
    → slice_index_or cells k (whole n) ≡ whole n → digit_count n ≤ most_digits cells
digits-held [] n k h e = absurd (omega arith)
digits-held (c ∷ cells) n zero h e =
    let same : c ≡ whole n = e in
    rw same (omega arith)
digits-held (c ∷ cells) n (suc k) h e =
    let rest : digit_count n ≤ most_digits cells = digits-held cells n k (omega arith) e in
    let more = most_digits-more c cells in
    omega arith

-- none of an adaptive answer has more digits than its type
pub adaptive-held : (operation : DecimalOperation) (left right answer : Column)
    → adaptive_answer operation left right ≡ Ok answer
    → (n : ℤ) → Contains answer.cells (whole n) → digit_count n ≤ precision_of answer.data_type
adaptive-held operation left right answer h n held = by_tests _ _ _ refl refl refl where
  by_tests : (precise same : Bool) (rows : Result (List Cell) Cause)
      → nat_le (first_precision left.data_type right.data_type) 38 ≡ precise
      → (row_count left == row_count right) ≡ same
      → each_row (row_step operation left right) left.cells right.cells ≡ rows
      → digit_count n ≤ precision_of answer.data_type
  by_tests false same rows p s r = let refused = rw p at h in cc
  by_tests true false rows p s r = let refused = rw (p, s) at h in cc
  by_tests true true (Err cause) p s r = let refused = rw (p, s, r) at h in cc
  by_tests true true (Ok cells) p s r =
      let given = rw (p, s, r) at h in
      let first = first_precision left.data_type right.data_type in
      let told : answer.data_type
      ≡ decimal (max first (most_digits cells))
      (adaptive_scale left.data_type right.data_type) = cc in
      let same : answer.cells ≡ cells = cc in
      let found = rw same at held in
      let most = digits-held cells n found.0 found.1 found.2 in
      rw told (omega arith)

-- ---- the loop over an array

-- a null in front changes nothing
pub longest-null : (size : ℕ) (cells : List Cell)
    → max (length (digits_of 10 size)) (most_digits (null ∷ cells))
    ≡ max (length (digits_of 10 size)) (most_digits cells)
longest-null size cells = refl

-- a number in front counts with those before it
pub longest-number : (size : ℕ) (n : ℤ) (cells : List Cell)
    → max (length (digits_of 10 (max (unsigned_abs n) size))) (most_digits cells)
    ≡ max (length (digits_of 10 size)) (most_digits (whole n ∷ cells))
longest-number size n cells = rw (digits-max (unsigned_abs n) size) (omega arith)
