-- Gathering the answers of the rows after a step is the step after gathering.
use Rattle.std.proofs.Common.{◌≡◌, ℕ, ◌+◌, ◌<◌, ◌≤◌, Bool, true, false, nat_le, cond, List, [], ◌∷◌}
use Rattle.std.proofs.Common.{map, Result, Ok, Err, refl, sym, ap, ◌∙◌, arith, le-leb, leb-true}
use Rattle.std.proofs.Common.{leb-false}
use Rattle.std.proofs.lemmas.Bool.{lt-leb}
use Rattle.col_model.specs.Cell.{Cell, Cause}
use Rattle.col_model.specs.WholeStep.{before, each_row}
use Rattle.col_eval.specs.Meaning.{RowAnswer, cell, refused_at, at_step, behind, going_on}
use Rattle.col_eval.specs.Meaning.{RowsAnswer, all_cells, refusal, in_front, sooner, gathered}

-- a step's operands at one row, then the step: its left operand has m steps, its right one n
abbrev pub row_step : ℕ → ℕ → (Cell → Cell → Result Cell Cause) → RowAnswer → RowAnswer → RowAnswer
row_step m n s a b = going_on a (λ x. going_on (behind m b) (λ y. at_step (m + n) (s x y)))

-- the step of this number gives the cells, or refuses
abbrev pub at_rows : ℕ → Result (List Cell) Cause → RowsAnswer
at_rows number (Ok cells) = all_cells cells
at_rows number (Err cause) = refusal number cause

-- a step's operands at all rows, then the step
abbrev pub rows_step : ℕ → ℕ → (Cell → Cell → Result Cell Cause) → RowsAnswer → RowsAnswer
    → RowsAnswer
rows_step m n s (refusal number cause) right = refusal number cause
rows_step m n s (all_cells xs) (refusal number cause) = refusal (m + number) cause
rows_step m n s (all_cells xs) (all_cells ys) = at_rows (m + n) (each_row s xs ys)

-- a row's answer in front of what the rows below give
abbrev pub front : RowAnswer → RowsAnswer → RowsAnswer
front (cell c) rows = in_front c rows
front (refused_at number cause) rows = sooner number cause rows

-- a refusal comes from a step below this number
abbrev pub IsBelow : ℕ → RowAnswer → Type 0
IsBelow m (cell c) = Unit {0}
IsBelow m (refused_at number cause) = number < m

-- a refusal of all rows comes from a step below this number
abbrev pub IsAllBelow : ℕ → RowsAnswer → Type 0
IsAllBelow m (all_cells cells) = Unit {0}
IsAllBelow m (refusal number cause) = number < m

-- all rows are the first, in front of the others
pub gathered-front : (a : RowAnswer) (rows : List RowAnswer)
    → gathered (a ∷ rows) ≡ front a (gathered rows)
gathered-front (cell c) rows = refl
gathered-front (refused_at number cause) rows = refl

-- a refusal at a step that is no greater stands
pub sooner-stands : (k : ℕ) (c : Cause) (j : ℕ) (d : Cause) → k ≤ j
    → sooner k c (refusal j d) ≡ refusal k c
sooner-stands k c j d h = let e = le-leb k j h in rw e refl

-- a refusal at a greater step gives way
pub sooner-gives_way : (k : ℕ) (c : Cause) (j : ℕ) (d : Cause) → j < k
    → sooner k c (refusal j d) ≡ refusal j d
sooner-gives_way k c j d h = let e = lt-leb k j h in rw e refl

-- the step refuses later than a refusal of an operand
pub front-at_step : (number : ℕ) (r : Result Cell Cause) (k : ℕ) (c : Cause) → k < number
    → front (at_step number r) (refusal k c) ≡ refusal k c
front-at_step number (Ok x) k c h = refl
front-at_step number (Err d) k c h = sooner-gives_way number d k c h

-- a refusal of an operand is sooner than the step's
pub sooner-at_rows : (k : ℕ) (c : Cause) (number : ℕ) (r : Result (List Cell) Cause) → k < number
    → sooner k c (at_rows number r) ≡ refusal k c
sooner-at_rows k c number (Ok cells) h = refl
sooner-at_rows k c number (Err d) h = sooner-stands k c number d (omega arith)

-- of two refusals of one step the upper row's stands
pub front-at_rows : (number : ℕ) (r : Result Cell Cause) (rows : Result (List Cell) Cause)
    → front (at_step number r) (at_rows number rows) ≡ at_rows number (before r rows)
front-at_rows number (Ok x) (Ok xs) = refl
front-at_rows number (Ok x) (Err d) = refl
front-at_rows number (Err c) (Ok xs) = refl
front-at_rows number (Err c) (Err d) = sooner-stands number c number d (omega arith)

-- which of two refusals stands does not depend on the steps in front of both
pub sooner-behind : (m k : ℕ) (c : Cause) (j : ℕ) (d : Cause) (n : ℕ)
    (s : Cell → Cell → Result Cell Cause) (xs : List Cell) (b : Bool) → nat_le k j ≡ b
    → sooner (m + k) c (refusal (m + j) d) ≡ rows_step m n s (all_cells xs)
    (cond b (refusal k c) (refusal j d))
sooner-behind m k c j d n s xs true h =
    sooner-stands (m + k) c (m + j) d (omega (arith, leb-true k j h))
sooner-behind m k c j d n s xs false h =
    sooner-gives_way (m + k) c (m + j) d (omega (arith, leb-false k j h))

-- a refusal of the left operand stands, whichever of two it is
pub rows_step-refusal : (m n : ℕ) (s : Cell → Cell → Result Cell Cause) (b : Bool) (k : ℕ)
    (c : Cause) (j : ℕ) (d : Cause) (right : RowsAnswer)
    → rows_step m n s (cond b (refusal k c) (refusal j d)) right ≡ cond b (refusal k c)
    (refusal j d)
rows_step-refusal m n s true k c j d right = refl
rows_step-refusal m n s false k c j d right = refl

-- one more row in front
pub front-row_step : (m n : ℕ) (s : Cell → Cell → Result Cell Cause) (a b : RowAnswer)
    (left right : RowsAnswer) → IsBelow m a → IsBelow n b → IsAllBelow m left → IsAllBelow n right
    → front (row_step m n s a b) (rows_step m n s left right) ≡ rows_step m n s (front a left)
    (front b right)
front-row_step m n s (cell x) (cell y) (all_cells xs) (all_cells ys) ha hb hl hr =
    front-at_rows (m + n) (s x y) (each_row s xs ys)
front-row_step m n s (cell x) (cell y) (all_cells xs) (refusal j d) ha hb hl hr =
    front-at_step (m + n) (s x y) (m + j) d (omega arith)
front-row_step m n s (cell x) (cell y) (refusal j d) right ha hb hl hr =
    front-at_step (m + n) (s x y) j d (omega arith)
front-row_step m n s (cell x) (refused_at k c) (all_cells xs) (all_cells ys) ha hb hl hr =
    sooner-at_rows (m + k) c (m + n) (each_row s xs ys) (omega arith)
front-row_step m n s (cell x) (refused_at k c) (all_cells xs) (refusal j d) ha hb hl hr =
    sooner-behind m k c j d n s (x ∷ xs) (nat_le k j) refl
front-row_step m n s (cell x) (refused_at k c) (refusal j d) right ha hb hl hr =
    sooner-gives_way (m + k) c j d (omega arith)
front-row_step m n s (refused_at k c) b (all_cells xs) (all_cells ys) ha hb hl hr =
    sooner-at_rows k c (m + n) (each_row s xs ys) (omega arith)
front-row_step m n s (refused_at k c) b (all_cells xs) (refusal j d) ha hb hl hr =
    sooner-stands k c (m + j) d (omega arith)
front-row_step m n s (refused_at k c) b (refusal j d) right ha hb hl hr =
    sym (rows_step-refusal m n s (nat_le k j) k c j d (front b right))

-- one of two refusals below a number
pub IsAllBelow-sooner : (m : ℕ) (k : ℕ) (c : Cause) (rows : RowsAnswer) → k < m → IsAllBelow m rows
    → IsAllBelow m (sooner k c rows)
IsAllBelow-sooner m k c (all_cells cells) h g = h
IsAllBelow-sooner m k c (refusal j d) h g =
    elim (nat_le k j) as
    (λ b. IsAllBelow m (cond b (refusal k c) (refusal j d))) [ true ↦ h | false ↦ g ]

-- one more row in front, with a refusal below the number too
pub IsAllBelow-front : (m : ℕ) (a : RowAnswer) (rows : RowsAnswer) → IsBelow m a → IsAllBelow m rows
    → IsAllBelow m (front a rows)
IsAllBelow-front m (cell c) (all_cells cells) h g = g
IsAllBelow-front m (cell c) (refusal j d) h g = g
IsAllBelow-front m (refused_at k c) rows h g = IsAllBelow-sooner m k c rows h g

-- where each row's refusal is below a number, that of all rows is
pub IsAllBelow-gathered : {X : Type 0} (m : ℕ) (f : X → RowAnswer) (xs : List X)
    → ((x : X) → IsBelow m (f x)) → IsAllBelow m (gathered (map f xs))
IsAllBelow-gathered m f [] h = tt
IsAllBelow-gathered m f (x ∷ xs) h =
    rw gathered-front (IsAllBelow-front m (f x) (gathered (map f xs)) (h x)
    (IsAllBelow-gathered m f xs h))

-- gathering after a step is the step after gathering: the least step goes before the least row
pub gathered-row_step : {X : Type 0} (m n : ℕ) (s : Cell → Cell → Result Cell Cause)
    (f g : X → RowAnswer) (xs : List X) → ((x : X) → IsBelow m (f x)) → ((x : X) → IsBelow n (g x))
    → gathered (map (λ x. row_step m n s (f x) (g x)) xs) ≡ rows_step m n s
    (gathered (map f xs)) (gathered (map g xs))
gathered-row_step m n s f g [] hf hg = refl
gathered-row_step m n s f g (x ∷ xs) hf hg =
    gathered-front (row_step m n s (f x) (g x)) (map (λ x. row_step m n s (f x) (g x)) xs)
    ∙ ap (front (row_step m n s (f x) (g x))) (gathered-row_step m n s f g xs hf hg)
    ∙ front-row_step m n s (f x) (g x) (gathered (map f xs)) (gathered (map g xs)) (hf x) (hg x)
    (IsAllBelow-gathered m f xs hf) (IsAllBelow-gathered n g xs hg)
    ∙ rw (← gathered-front (f x) (map f xs), ← gathered-front (g x) (map g xs)) refl

-- rows that all give a cell give these cells
pub gathered-cells : {X : Type 0} (f : X → Cell) (xs : List X)
    → gathered (map (λ x. cell (f x)) xs) ≡ all_cells (map f xs)
gathered-cells f [] = refl
gathered-cells f (x ∷ xs) = ap (in_front (f x)) (gathered-cells f xs)
