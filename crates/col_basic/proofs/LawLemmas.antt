-- What all rows give, from what the first gives and what the others give.
use Rattle.std.proofs.Common.{◌≡◌, ℕ, zero, suc, ◌<◌, List, [], ◌∷◌, length, Option, Some}
use Rattle.std.proofs.Common.{Result, Ok, Err, refl, ap, arith}
use Rattle.std.specs.Prelude.{slice_get}
use Rattle.col_model.specs.Cell.{Cell, Cause}
use Rattle.col_model.specs.WholeStep.{before, each_cell, each_row}
use Rattle.col_basic.specs.Laws.{HasEachAnswer, RefusesTheLeastRow, IsGatheredFrom}
use Rattle.col_basic.specs.Laws.{answer_at, answer_beside}

-- a cell in front of the cells of the other rows
answered_front : (answers : ℕ → Option (Result Cell Cause)) (count : ℕ) (x : Cell)
    (cells : List Cell)
    → answers 0 ≡ Some (Ok x) → HasEachAnswer (λ row. answers (suc row)) count cells
    → HasEachAnswer answers (suc count) (x ∷ cells)
answered_front answers count x cells h rest =
    record { as_many = ap suc rest.as_many; each = each_of } where
      each_of : (row : ℕ) (c : Cell) → slice_get (x ∷ cells) row ≡ Some c
          → answers row ≡ Some (Ok c)
      each_of zero c e = let same : x ≡ c = cc in rw (h, same) refl
      each_of (suc row) c e = rest.each row c e

-- a cell in front of rows of which one is refused
refused_behind : (answers : ℕ → Option (Result Cell Cause)) (count : ℕ) (x : Cell) (cause : Cause)
    → answers 0 ≡ Some (Ok x) → RefusesTheLeastRow (λ row. answers (suc row)) count cause
    → RefusesTheLeastRow answers (suc count) cause
refused_behind answers count x cause h rest =
    record {
      row = suc rest.row;
      is_row = omega (arith, rest.is_row);
      refuses = rest.refuses;
      above = above_of;
    } where
      above_of : (other : ℕ) → other < suc rest.row → (c : Cell) × (answers other ≡ Some (Ok c))
      above_of zero below = (x, h)
      above_of (suc other) below = rest.above other (omega arith)

-- the first row's answer in front of what the others give
gathered_front : (answers : ℕ → Option (Result Cell Cause)) (count : ℕ) (r : Result Cell Cause)
    (rest : Result (List Cell) Cause)
    → answers 0 ≡ Some r → IsGatheredFrom (λ row. answers (suc row)) count rest
    → IsGatheredFrom answers (suc count) (before r rest)
gathered_front answers count (Ok x) (Ok cells) h g = answered_front answers count x cells h g
gathered_front answers count (Ok x) (Err cause) h g = refused_behind answers count x cause h g
gathered_front answers count (Err cause) rest h g =
    record {
      row = 0;
      is_row = omega arith;
      refuses = h;
      above = λ other below. absurd (omega arith);
    }

-- of no rows
gathered_none : (answers : ℕ → Option (Result Cell Cause)) → IsGatheredFrom answers 0 (Ok [])
gathered_none answers = record { as_many = refl; each = λ row c e. cc }

-- a step on two lists of one length
pub gathered_beside : (step : Cell → Cell → Result Cell Cause) (left right : List Cell)
    → length left ≡ length right
    → IsGatheredFrom (answer_beside step left right) (length left) (each_row step left right)
gathered_beside step [] right h = gathered_none _
gathered_beside step (a ∷ left) [] h = absurd (omega arith)
gathered_beside step (a ∷ left) (b ∷ right) h =
    gathered_front (answer_beside step (a ∷ left) (b ∷ right)) (length left) (step a b) _ refl
    (gathered_beside step left right (omega arith))

-- a step on one list
pub gathered_alone : (step : Cell → Result Cell Cause) (cells : List Cell)
    → IsGatheredFrom (answer_at step cells) (length cells) (each_cell step cells)
gathered_alone step [] = gathered_none _
gathered_alone step (a ∷ cells) =
    gathered_front (answer_at step (a ∷ cells)) (length cells) (step a) _ refl
    (gathered_alone step cells)
