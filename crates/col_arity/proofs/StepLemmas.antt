-- What a step gives over rows, by what a closure gives for the slots.
use Rattle.std.proofs.Common.{◌≡◌, List, [], ◌∷◌, map, length, replicate, inl, inr}
use Rattle.std.proofs.Common.{Option, Some, None, Result, Ok, Err, ℤ, refl, ap, arith}
use Rattle.std.specs.Prelude.{Bool, false, zip}
use Rattle.col_model.specs.Cell.{Cell, null, Cause}
use Rattle.col_model.specs.WholeStep.{before, each_cell, each_row}
use Rattle.col_types.specs.Answer.{as_errors, error_of}
use Rattle.col_types.specs.declared.error.Error.{Error}
use Rattle.col_flat.specs.Parts.{slot_cell, value_cell, zipped_slots}
use Rattle.col_arity.specs.Rows.{MapsSlots, RefusesFirst}

-- a step on the value of each slot, and null at a null: all its cells, or its first cause
abbrev pub each_slot : {N : Type 0} → (N → Result Cell Cause) → List (Option N)
    → Result (List Cell) Cause
each_slot step [] = Ok []
each_slot step (None ∷ slots) = before (Ok null) (each_slot step slots)
each_slot step (Some n ∷ slots) = before (step n) (each_slot step slots)

-- a step on the values of one array, and on those of two
abbrev pub on_one : (Cell → Result Cell Cause) → List ℤ → Result Cell Cause
on_one step ns = step (value_cell ns)

abbrev pub on_two : (Cell → Cell → Result Cell Cause) → List ℤ × List ℤ → Result Cell Cause
on_two step p = step (value_cell p.0) (value_cell p.1)

-- what gives one answer beside a null
pub record IsNullBeside {R : Type 0} (none : R) (step : Cell → Cell → R) : Type 0 where
  pub left : (c : Cell) → step null c ≡ none
  pub right : (c : Cell) → step c null ≡ none

-- a step that gives null beside a null
abbrev pub IsStrict : (Cell → Cell → Result Cell Cause) → Type 0
IsStrict step = IsNullBeside (Ok null) step

-- the rows of two arrays are the slots of both
pub rows_of_two : (step : Cell → Cell → Result Cell Cause) → IsStrict step
    → (left right : List (Option (List ℤ)))
    → each_row step (map slot_cell left) (map slot_cell right)
    ≡ each_slot (on_two step) (zipped_slots left right)
rows_of_two step strict [] right = refl
rows_of_two step strict (x ∷ left) [] = refl
rows_of_two step strict (None ∷ left) (y ∷ right) =
    rw (strict.left (slot_cell y), rows_of_two step strict left right) refl
rows_of_two step strict (Some x ∷ left) (None ∷ right) =
    rw (strict.right (value_cell x), rows_of_two step strict left right) refl
rows_of_two step strict (Some x ∷ left) (Some y ∷ right) =
    rw (rows_of_two step strict left right) refl

-- the cells of an array are its slots
pub cells_of_one : (step : Cell → Result Cell Cause) → step null ≡ Ok null
    → (slots : List (Option (List ℤ)))
    → each_cell step (map slot_cell slots) ≡ each_slot (on_one step) slots
cells_of_one step strict [] = refl
cells_of_one step strict (None ∷ slots) = rw (strict, cells_of_one step strict slots) refl
cells_of_one step strict (Some ns ∷ slots) = rw (cells_of_one step strict slots) refl

-- a column beside a cell: each of its cells beside that one
pub rows_beside : (step : Cell → Cell → Result Cell Cause) (c : Cell) (cells : List Cell)
    → each_row step cells (replicate (length cells) c) ≡ each_cell (λ a. step a c) cells
rows_beside step c [] = refl
rows_beside step c (a ∷ cells) = rw (rows_beside step c cells) refl

-- where each slot that is made is the step's, all together are
pub slots_made : {N : Type 0} (step : N → Result Cell Cause)
    (allows : N → Option (List ℤ) → Type 0)
    → ((n : N) (s : Option (List ℤ)) → allows n s → step n ≡ Ok (slot_cell s))
    → (slots : List (Option N)) (made : List (Option (List ℤ)))
    → MapsSlots allows None slots made → each_slot step slots ≡ Ok (map slot_cell made)
slots_made step allows sound [] [] h = refl
slots_made step allows sound [] (s ∷ made) h = absurd h
slots_made step allows sound (None ∷ slots) [] h = absurd h
slots_made step allows sound (None ∷ slots) (s ∷ made) h =
    rw (slots_made step allows sound slots made h.1, h.0) refl
slots_made step allows sound (Some n ∷ slots) [] h = absurd h
slots_made step allows sound (Some n ∷ slots) (s ∷ made) h =
    rw (sound n s h.0, slots_made step allows sound slots made h.1) refl

-- a refusal below stands behind a cell, and one above stands
before-ok : (r : Result Cell Cause) (c : Cell) (rest : Result (List Cell) Cause) (e : Error)
    → r ≡ Ok c → as_errors rest ≡ Err e → as_errors (before r rest) ≡ Err e
before-ok r c (Ok cells) e h g = cc
before-ok r c (Err cause) e h g = rw h g

before-err : (r : Result Cell Cause) (rest : Result (List Cell) Cause) (e : Error)
    → Err e ≡ as_errors r → as_errors (before r rest) ≡ Err e
before-err (Ok c) rest e h = cc
before-err (Err cause) rest e h = let same : e ≡ error_of cause = cc in rw same refl

-- where each refusal is the step's, and each answer in front of it is no refusal, the first is
pub slots_refused : {N S : Type 0} (step : N → Result Cell Cause) (e : Error)
    (allows : N → S → Type 0) (refuses : N → Type 0)
    → ((n : N) (s : S) → allows n s → (c : Cell) × (step n ≡ Ok c))
    → ((n : N) → refuses n → Err e ≡ as_errors (step n))
    → (slots : List (Option N))
    → RefusesFirst allows refuses slots → as_errors (each_slot step slots) ≡ Err e
slots_refused step e allows refuses sound stops [] h = absurd h
slots_refused step e allows refuses sound stops (None ∷ slots) h =
    before-ok _ null _ e refl (slots_refused step e allows refuses sound stops slots h)
slots_refused step e allows refuses sound stops (Some n ∷ slots) (inl h) =
    before-err _ _ e (stops n h)
slots_refused step e allows refuses sound stops (Some n ∷ slots) (inr h) =
    let cell = sound n h.0.0 h.0.1 in
    before-ok _ cell.0 _ e cell.1 (slots_refused step e allows refuses sound stops slots h.1)

-- ---- flags

-- a flag for the values of each slot, and false at a null
abbrev pub slot_flag : {N : Type 0} → (N → Bool) → Option N → Bool
slot_flag flag None = false
slot_flag flag (Some n) = flag n

-- the flags of the rows of two arrays are those of the slots of both
pub flags_of_two : (flag : Cell → Cell → Bool) → IsNullBeside false flag
    → (left right : List (Option (List ℤ)))
    → map (λ row. flag row.0 row.1) (zip (map slot_cell left) (map slot_cell right))
    ≡ map (slot_flag (λ p. flag (value_cell p.0) (value_cell p.1))) (zipped_slots left right)
flags_of_two flag strict [] right = refl
flags_of_two flag strict (x ∷ left) [] = refl
flags_of_two flag strict (None ∷ left) (y ∷ right) =
    rw (strict.left (slot_cell y), flags_of_two flag strict left right) refl
flags_of_two flag strict (Some x ∷ left) (None ∷ right) =
    rw (strict.right (value_cell x), flags_of_two flag strict left right) refl
flags_of_two flag strict (Some x ∷ left) (Some y ∷ right) =
    rw (flags_of_two flag strict left right) refl

-- the flags of the cells of an array are those of its slots
pub flags_of_one : (flag : Cell → Bool) → flag null ≡ false → (slots : List (Option (List ℤ)))
    → map flag (map slot_cell slots) ≡ map (slot_flag (λ ns. flag (value_cell ns))) slots
flags_of_one flag strict [] = refl
flags_of_one flag strict (None ∷ slots) = rw (strict, flags_of_one flag strict slots) refl
flags_of_one flag strict (Some ns ∷ slots) = rw (flags_of_one flag strict slots) refl

-- slots and flags that are made together, each for itself
pub rows_apart : {N : Type 0} (flag : N → Bool) (allows : N → Option (List ℤ) × Bool → Type 0)
    (alone : N → Option (List ℤ) → Type 0)
    → ((n : N) (p : Option (List ℤ) × Bool) → allows n p → alone n p.0)
    → ((n : N) (p : Option (List ℤ) × Bool) → allows n p → p.1 ≡ flag n)
    → (slots : List (Option N)) (made : List (Option (List ℤ))) (flags : List Bool)
    → length flags ≡ length made → MapsSlots allows (None, false) slots (zip made flags)
    → MapsSlots alone None slots made × (map (slot_flag flag) slots ≡ flags)
rows_apart flag allows alone first told [] [] [] e h = (tt, refl)
rows_apart flag allows alone first told [] [] (f ∷ flags) e h = absurd (omega arith)
rows_apart flag allows alone first told (x ∷ slots) [] [] e h = absurd h
rows_apart flag allows alone first told (x ∷ slots) [] (f ∷ flags) e h = absurd h
rows_apart flag allows alone first told [] (s ∷ made) [] e h = absurd (omega arith)
rows_apart flag allows alone first told (x ∷ slots) (s ∷ made) [] e h = absurd h
rows_apart flag allows alone first told [] (s ∷ made) (f ∷ flags) e h = absurd h
rows_apart flag allows alone first told (None ∷ slots) (s ∷ made) (f ∷ flags) e h =
    let rest = rows_apart flag allows alone first told slots made flags (omega arith) h.1 in
    let down : f ≡ false = ap (λ p. p.1) h.0 in
    ((ap (λ p. p.0) h.0, rest.0), rw (down, rest.1) refl)
rows_apart flag allows alone first told (Some n ∷ slots) (s ∷ made) (f ∷ flags) e h =
    let rest = rows_apart flag allows alone first told slots made flags (omega arith) h.1 in
    ((first n (s, f) h.0, rest.0), rw (← told n (s, f) h.0, rest.1) refl)
